-- The first place from a front on. Source: own.
use Rattle.std.specs.Prelude.{ℕ, Bool, nat_le, List, Option}
use Rattle.std.specs.List.{find}
use Rattle.fs_index.specs.declared.place.Place.{Place}

abbrev pub is_place_from : ℕ → Place → Bool
is_place_from front p = nat_le front p.serial

-- the first place whose serial isn't below the front
abbrev pub first_from : ℕ → List Place → Option Place
first_from front places = find (is_place_from front) places
