-- All records of all objects, one object after another. Source: own.
use Rattle.std.specs.Prelude.{◌≡◌, ◌⊎◌, ℕ, List, None, nat_eq}
use Rattle.std.specs.List.{Contains}
use Rattle.std.specs.List.Sorted.{IsNonDecreasingBy}
use Rattle.std.specs.Map.{lookup}
use Rattle.fs_index.specs.declared.place.Place.{Place}
use Rattle.fs_index.specs.declared.place.Placed.{Placed}
use Rattle.fs_index.specs.Places.{PlacesKept, places_in, placed_of}

-- a record of an object, which stands at a place
abbrev pub placed : ℕ → Place → Placed
placed oid place = record { oid = oid; place = place }

-- all of these are among the others
abbrev pub AreAmong : List ℕ → List ℕ → Type 0
AreAmong xs ys = (o : ℕ) → Contains xs o → Contains ys o

-- every object that something is kept of is among these
abbrev pub AreListed : {X : Type 0} → List ℕ → List (ℕ × X) → Type 0
AreListed oids entries = (o : ℕ) → Contains oids o ⊎ (lookup (nat_eq o) entries ≡ None)

-- These are the records of all objects: the objects never fall, and the places of each object are those that are kept of it, in order.
pub record AreRecordsOf (entries : List (ℕ × PlacesKept)) (records : List Placed) : Type 0 where
  pub order : IsNonDecreasingBy (λ r. r.oid) records
  pub each : (oid : ℕ) → placed_of oid records ≡ places_in entries oid
