-- Where the records of each object stand, and what an index keeps of it. Source: own.
use Rattle.std.specs.Prelude.{◌≡◌, ℕ, ◌<◌, ◌≤◌, Bool, ◌==◌, nat_lt, nat_eq, if◌then◌else◌, List, [], ◌∷◌, ◌++◌, length, map, filter, Option, None, IfSome, All}
use Rattle.std.specs.List.{list_any, last_or}
use Rattle.std.specs.Option.{option_map_or}
use Rattle.std.specs.List.Sorted.{IsNonDecreasingBy}
use Rattle.std.specs.Map.{lookup}
use Rattle.fs_index.specs.declared.place.Place.{Place}
use Rattle.fs_index.specs.declared.place.Placed.{Placed}

-- ---- what an index keeps

-- what contracts see of the places of an object's records: the places, in order, and for how many more there is room
pub record PlacesKept : Type 0 where
  pub places : List Place
  pub room : ℕ

-- what an index is seen as: the places of the records of each object that has some, and the places of the transactions; and for how many objects more and for how many transactions more there is room
pub record Kept : Type 0 where
  pub entries : List (ℕ × PlacesKept)
  pub transactions : List Place
  pub objects_room : ℕ
  pub transactions_room : ℕ

-- the places that are kept of an object, none where it isn't there
abbrev pub places_in : List (ℕ × PlacesKept) → ℕ → List Place
places_in entries oid = option_map_or (λ k. k.places) (lookup (nat_eq oid) entries) []

-- neither serials nor places ever fall
pub record IsRising (places : List Place) : Type 0 where
  pub serials : IsNonDecreasingBy (λ p. p.serial) places
  pub places_rise : IsNonDecreasingBy (λ p. p.at) places

-- the places of each object rise
abbrev pub AreRising : List (ℕ × PlacesKept) → Type 0
AreRising entries = (oid : ℕ) → IsRising (places_in entries oid)

-- what holds of every index: the places of each object rise, and those of the transactions
pub record IsSoundIndex (entries : List (ℕ × PlacesKept)) (starts : List Place) : Type 0 where
  pub objects : AreRising entries
  pub transactions : IsRising starts

-- of no later transaction, and before this place
abbrev pub IsBefore : ℕ → ℕ → Place → Type 0
IsBefore tid at p = (p.serial ≤ tid) × (p.at < at)

-- all places of all objects are
abbrev pub AreBefore : List (ℕ × PlacesKept) → ℕ → ℕ → Type 0
AreBefore entries tid at = (oid : ℕ) → All (IsBefore tid at) (places_in entries oid)

-- one object has one place more, at the end, and all others are as they were
abbrev pub Added : List (ℕ × PlacesKept) → ℕ → Place → List (ℕ × PlacesKept) → Type 0
Added old oid place new = (o : ℕ) → places_in new o ≡ (if o == oid then places_in old o ++ place ∷ [] else places_in old o)

-- ---- places that are to be kept

abbrev pub is_placed : ℕ → Placed → Bool
is_placed oid p = oid == p.oid

-- the places of an object among these
abbrev pub placed_of : ℕ → List Placed → List Place
placed_of oid placed = map (λ p. p.place) (filter (is_placed oid) placed)

-- the objects of these
abbrev pub oids_placed : List Placed → List ℕ
oids_placed placed = map (λ p. p.oid) placed

-- an object that has places has room for one more
abbrev pub HasRoomIn : List (ℕ × PlacesKept) → ℕ → Type 0
HasRoomIn entries oid = IfSome (lookup (nat_eq oid) entries) (λ k. 0 < k.room)

-- there is room for all of these and for one transaction more
pub record HasRoomFor (kept : Kept) (placed : List Placed) : Type 0 where
  pub objects : length placed ≤ kept.objects_room
  pub each : All (λ p. HasRoomIn kept.entries p.oid) placed
  pub transaction : 0 < kept.transactions_room

-- each of these stands behind what is kept of its object
abbrev pub StandBehind : List (ℕ × PlacesKept) → List Placed → Type 0
StandBehind entries placed = All (λ p. All (IsBefore p.place.serial p.place.at) (places_in entries p.oid)) placed

-- ---- what is looked up

-- whether a place has a serial below the front
abbrev pub is_place_below : ℕ → Place → Bool
is_place_below front p = nat_lt p.serial front

-- the last place with a serial below the front
unfoldable pub last_below : ℕ → List Place → Option Place
last_below front places = last_or None (filter (is_place_below front) places)

-- whether a record of the object is kept that stands at the place
abbrev pub knows : List (ℕ × PlacesKept) → ℕ → ℕ → Bool
knows entries oid at = list_any (λ p. p.at == at) (places_in entries oid)
