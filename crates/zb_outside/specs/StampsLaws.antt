-- A clock that tells goes on telling, and its list is never empty.
use Rattle.std.proofs.Common.{◌≡◌, List, [], ◌∷◌, Some, refl, ap}
use Rattle.std.proofs.lemmas.Option.{same_Some}
use Rattle.std.specs.Prelude.{slice_get, drop}
use Rattle.zb_ids.specs.declared.stamp.Stamp.{Stamp}
use Rattle.zb_outside.specs.Stamps.{stamps_after}

-- a list whose first stamp was given begins with it
pub begins_with : (told : List Stamp) (stamp : Stamp) → slice_get told 0 ≡ Some stamp → told ≡ stamp ∷ drop 1 told
begins_with [] stamp given = absurd cc
begins_with (first ∷ rest) stamp given = ap (λ (s : Stamp). s ∷ rest) (same_Some _ _ given)

-- some stamp is left after one was given
pub some_left : (told : List Stamp) (stamp : Stamp) → slice_get told 0 ≡ Some stamp → (next : Stamp) × (slice_get (stamps_after told) 0 ≡ Some next)
some_left [] stamp given = absurd cc
some_left (last ∷ []) stamp given = (last, refl)
some_left (first ∷ next ∷ rest) stamp given = (next, refl)
