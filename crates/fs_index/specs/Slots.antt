-- The places of objects in a list by number. Source: own.
use Rattle.std.specs.Prelude.{ℕ, ◌+◌, ◌==◌, if◌then◌else◌, List, [], ◌∷◌, ◌++◌, map, Option, None, Some}
use Rattle.fs_index.specs.declared.place.Place.{Place}
use Rattle.fs_index.specs.Places.{PlacesKept}

-- what contracts see of the places of all objects: those of each object that has some, and for how many objects more there is room
pub record ObjectsKept : Type 0 where
  pub entries : List (ℕ × PlacesKept)
  pub room : ℕ

-- the entry of an object, where it has places
abbrev pub entry_of : ℕ → PlacesKept → List Place → List (ℕ × PlacesKept)
entry_of oid k [] = []
entry_of oid k (p ∷ ps) = (oid, k) ∷ []

-- the entries of the objects from this one on, whose places are these
abbrev pub slots_from : ℕ → List PlacesKept → List (ℕ × PlacesKept)
slots_from oid [] = []
slots_from oid (k ∷ ks) = entry_of oid k k.places ++ slots_from (oid + 1) ks

-- what is kept of an object that has places
abbrev pub if_any : PlacesKept → List Place → Option PlacesKept
if_any k [] = None
if_any k (p ∷ ps) = Some k

abbrev pub if_held : Option PlacesKept → Option PlacesKept
if_held None = None
if_held (Some k) = if_any k k.places

-- where no record stands
abbrev pub nowhere : ℕ
nowhere = 18446744073709551615

-- what is kept of an object that has this place alone, or none where that is nowhere
abbrev pub alone_of : Place → PlacesKept
alone_of p = record { places = if p.at == nowhere then [] else p ∷ []; room = 0 }

abbrev pub alone_kept : List Place → List PlacesKept
alone_kept places = map alone_of places

-- what is kept of an object that has one place
abbrev pub if_one : Option Place → Option PlacesKept
if_one None = None
if_one (Some p) = Some (record { places = p ∷ []; room = 0 })
