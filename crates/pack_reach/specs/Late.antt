-- Commits that overtake a pack: they lead to objects that it hadn't marked. Own.
use Rattle.std.specs.Prelude.{ℕ, ◌+◌, List, [], ◌∷◌, ◌++◌, Option, Some, None, Bool, true, false, not, ◌&&◌, if◌then◌else◌, is_some, nat_lt, filter, min}
use Rattle.std.specs.Option.{option_map, option_or}
use Rattle.std.specs.Ordering.{nat_cmp}
use Rattle.std.specs.FinSet.{FinSet, contains}
use Rattle.zb_model.specs.declared.data.Transaction.{Transaction}
use Rattle.zb_model.specs.Database.{revision_below}
use Rattle.pack_reach.specs.Reached.{reached_oids}

abbrev pub lesser_of : ℕ → Option ℕ → ℕ
lesser_of n None = n
lesser_of n (Some m) = min n m

-- the least of these numbers
abbrev pub least_of : List ℕ → Option ℕ
least_of [] = None
least_of (n ∷ ns) = Some (lesser_of n (least_of ns))

-- an object that wasn't marked and has a revision up to t, whose records were to go
abbrev pub is_late : FinSet nat_cmp → ℕ → List Transaction → ℕ → Bool
is_late marked t list oid = not (contains marked oid) && is_some (revision_below oid (t + 1) list)

-- of a list that ends with a commit, the least object that its reach has and that is late, with that commit's tid
abbrev pub late_behind : (List ℕ → Option (List ℕ)) → FinSet nat_cmp → ℕ → List Transaction → ℕ → Option (ℕ × ℕ)
late_behind named marked t list tid = option_map (λ (oid : ℕ). (oid, tid)) (least_of (filter (is_late marked t list) (reached_oids named t list)))

-- the first commit behind a list after which there is such an object
abbrev pub late_from : (List ℕ → Option (List ℕ)) → FinSet nat_cmp → ℕ → List Transaction → List Transaction → Option (ℕ × ℕ)
late_from named marked t list [] = None
late_from named marked t list (x ∷ commits) = option_or (late_behind named marked t (list ++ x ∷ []) x.tid) (late_from named marked t (list ++ x ∷ []) commits)

-- a pack that was overtaken; one that doesn't collect never is
abbrev pub overtaken : Bool → (List ℕ → Option (List ℕ)) → FinSet nat_cmp → ℕ → List Transaction → List Transaction → Option (ℕ × ℕ)
overtaken true named marked t list commits = late_from named marked t list commits
overtaken false named marked t list commits = None

-- the lesser of two objects, where there are two
abbrev pub lesser_some : Option ℕ → Option ℕ → Option ℕ
lesser_some None o = o
lesser_some (Some m) None = Some m
lesser_some (Some m) (Some n) = Some (if nat_lt n m then n else m)

-- what was late before a commit, or else this object, at that commit
abbrev pub late_with : Option (ℕ × ℕ) → Option ℕ → ℕ → Option (ℕ × ℕ)
late_with (Some p) least tid = Some p
late_with None (Some oid) tid = Some (oid, tid)
late_with None None tid = None
