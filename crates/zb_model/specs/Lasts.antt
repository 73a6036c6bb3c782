-- The last of a list, as a loop finds it.
use Rattle.std.proofs.Common.{◌≡◌, ℕ, List, [], ◌∷◌, Some, None, refl}
use Rattle.std.specs.List.{last_or}
use Rattle.std.specs.Option.{option_map_or}
use Rattle.zb_model.specs.Database.{ObjectRevision}

-- the serial of the last of these revisions, or n
abbrev pub last_serial : ℕ → List ObjectRevision → ℕ
last_serial n [] = n
last_serial n (r ∷ rs) = last_serial r.serial rs

last_serial-some : (r : ObjectRevision) (rs : List ObjectRevision) → last_serial r.serial rs ≡ option_map_or (λ (x : ObjectRevision). x.serial) (last_or (Some r) rs) 0
last_serial-some r [] = refl
last_serial-some r (x ∷ rs) = last_serial-some x rs

-- it is the last revision's
pub last_serial-is : (rs : List ObjectRevision) → last_serial 0 rs ≡ option_map_or (λ (x : ObjectRevision). x.serial) (last_or None rs) 0
last_serial-is [] = refl
last_serial-is (r ∷ rs) = last_serial-some r rs
