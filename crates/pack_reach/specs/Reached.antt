-- What a pack reaches, computed: from where the paths start, one step after another, until no step can lead further. Own.
use Rattle.std.specs.Prelude.{ℕ, zero, suc, List, [], ◌∷◌, ◌++◌, Option, Some, None, if◌then◌else◌, length, fold}
use Rattle.std.specs.List.{flat_map}
use Rattle.std.specs.Ordering.{nat_cmp}
use Rattle.std.specs.FinSet.{FinSet, from_list}
use Rattle.zb_model.specs.declared.data.Transaction.{Transaction}
use Rattle.pack_reach.specs.Reach.{changed_after, is_at_most, is_in, named_after, references_in, references_up_to, unreadable_after, unreadable_up_to}

-- these numbers, and one more unless it is among them
abbrev pub with_oid : List ℕ → ℕ → List ℕ
with_oid oids oid = if is_in oid oids then oids else oids ++ oid ∷ []

abbrev pub with_oids : List ℕ → List ℕ → List ℕ
with_oids oids more = fold with_oid oids more

-- where the paths start
abbrev pub starts : (List ℕ → Option (List ℕ)) → ℕ → List Transaction → List ℕ
starts named t list = with_oids (0 ∷ []) (changed_after t list ++ named_after named t list)

-- these objects, and those that their last revisions up to t name
abbrev pub one_step_on : (List ℕ → Option (List ℕ)) → ℕ → List Transaction → List ℕ → List ℕ
one_step_on named t list oids = with_oids oids (flat_map (references_up_to named t list) oids)

abbrev pub steps_on : ℕ → (List ℕ → Option (List ℕ)) → ℕ → List Transaction → List ℕ → List ℕ
steps_on zero named t list oids = oids
steps_on (suc n) named t list oids = steps_on n named t list (one_step_on named t list oids)

-- the reached objects: as many steps as there are references in the list lead to all of them
unfoldable pub reached_oids : (List ℕ → Option (List ℕ)) → ℕ → List Transaction → List ℕ
reached_oids named t list = steps_on (length (flat_map (references_in named) list)) named t list (starts named t list)

-- their set
abbrev pub reached : (List ℕ → Option (List ℕ)) → ℕ → List Transaction → FinSet nat_cmp
reached named t list = from_list (reached_oids named t list)

-- the least of these pairs
abbrev pub lesser : ℕ × ℕ → Option (ℕ × ℕ) → Option (ℕ × ℕ)
lesser p None = Some p
lesser p (Some q) = if is_at_most q p then Some q else Some p

abbrev pub least : List (ℕ × ℕ) → Option (ℕ × ℕ)
least [] = None
least (p ∷ ps) = lesser p (least ps)

-- of the records that the reach follows and that can't be read, the one of the least object, then of the least serial
unfoldable pub unreadable : (List ℕ → Option (List ℕ)) → ℕ → List Transaction → Option (ℕ × ℕ)
unreadable named t list = least (unreadable_after named t list ++ flat_map (unreadable_up_to named t list) (reached_oids named t list))
