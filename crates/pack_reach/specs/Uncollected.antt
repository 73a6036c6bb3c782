-- How the objects of a list are taken, where a pack keeps all. Own.
use Rattle.std.specs.Prelude.{◌≡◌, ℕ, ◌≤◌, List, ◌++◌, fold}
use Rattle.std.specs.List.{AllByRecursion, flat_map}
use Rattle.std.specs.Ordering.{nat_cmp}
use Rattle.std.specs.FinSet.{FinSet, contains, insert}
use Rattle.zb_model.specs.declared.data.Change.{Change}
use Rattle.zb_model.specs.declared.data.Transaction.{Transaction}
use Rattle.zb_model.specs.Database.{newest_tid}
use Rattle.zb_model.specs.Queries.{oids_of}
use Rattle.zb_model.specs.SerialLaws.{RisesTo}
use Rattle.pack_reach.specs.Reach.{is_in}

-- these objects, and those of changes
abbrev pub with_change : FinSet nat_cmp → Change → FinSet nat_cmp
with_change s c = insert s c.oid

abbrev pub with_changes : FinSet nat_cmp → List Change → FinSet nat_cmp
with_changes s changes = fold with_change s changes

-- these are the objects that the transactions of a list up to a tid have
pub record AreTaken (list : List Transaction) (seen : ℕ) (s : FinSet nat_cmp) : Type 0 where
  pub front : List Transaction
  pub rest : List Transaction
  pub split : list ≡ front ++ rest
  pub before : AllByRecursion (λ x. x.tid ≤ seen) front
  pub behind : RisesTo seen (newest_tid list) rest
  pub set : (oid : ℕ) → contains s oid ≡ is_in oid (flat_map oids_of front)
