-- The places of one object, as they are held. Source: own.
use Rattle.std.specs.Prelude.{ℕ, ◌-◌, List, [], vec_len, vec_capacity}
use Rattle.fs_index.specs.declared.place.Place.{Place}
use Rattle.fs_index.specs.declared.places.Held.{Held}
use Rattle.fs_index.specs.declared.places.Held.TheVariants.{Nothing, One, Several}

-- none, one, or those on the heap
abbrev pub places_held : Held → List Place
places_held Nothing = []
places_held (One places) = places
places_held (Several places) = places.items

-- there is room on the heap alone
abbrev pub room_held : Held → ℕ
room_held Nothing = 0
room_held (One places) = 0
room_held (Several places) = vec_capacity places - vec_len places
