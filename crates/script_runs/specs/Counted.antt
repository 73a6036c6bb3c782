-- The transactions of a list and the objects that it holds, counted one by one.
use Rattle.std.specs.Prelude.{◌≡◌, ℕ, ◌≤◌, List, ◌++◌, filter, if◌then◌else◌, length, map}
use Rattle.std.specs.List.{AllByRecursion, flat_map}
use Rattle.std.specs.Ordering.{nat_cmp}
use Rattle.std.specs.FinSet.{FinSet, from_list, insert}
use Rattle.zb_model.specs.declared.data.Change.{Change}
use Rattle.zb_model.specs.declared.data.Transaction.{Transaction}
use Rattle.zb_model.specs.Database.{newest_tid}
use Rattle.zb_model.specs.Queries.{oids_of}
use Rattle.zb_model.specs.SerialLaws.{RisesTo}
use Rattle.script_runs.specs.Summary.{is_held_in}

abbrev pub oids_in : List Change → List ℕ
oids_in changes = map (λ c. c.oid) changes

-- of these objects, those that the list holds
abbrev pub held_among : List Transaction → List ℕ → FinSet nat_cmp
held_among list oids = from_list (filter (is_held_in list) oids)

-- these, and one object more where the list holds it
abbrev pub with_object : List Transaction → FinSet nat_cmp → ℕ → FinSet nat_cmp
with_object list s oid = if is_held_in list oid then insert s oid else s

-- the transactions of a list up to a tid were counted, and the objects that they change and it holds are found
pub record AreCounted (list : List Transaction) (seen n : ℕ) (s : FinSet nat_cmp) : Type 0 where
  pub front : List Transaction
  pub rest : List Transaction
  pub parts : list ≡ front ++ rest
  pub before : AllByRecursion (λ x. x.tid ≤ seen) front
  pub behind : RisesTo seen (newest_tid list) rest
  pub count : n ≡ length front
  pub within : n ≤ seen
  pub found : s ≡ held_among list (flat_map oids_of front)
