-- How far a copy has come. Source: own.
use Rattle.std.specs.Prelude.{◌≡◌, ℕ, ◌+◌, ◌<◌, ◌≤◌, ◌-◌, ◌^◌, ◌⊎◌, All, Bool, true, false, List, [], ◌∷◌, ◌++◌, length, take, slice_index_or}
use Rattle.std.specs.List.{filter_map}
use Rattle.std.specs.Ordering.{nat_cmp}
use Rattle.std.specs.FinSet.{FinSet}
use Rattle.zb_model.specs.declared.data.Transaction.{Transaction}
use Rattle.zb_model.specs.Packing.{packed_one}
use Rattle.zb_model.specs.Packs.{change_count, changes_a_turn}
use Rattle.fs_index.specs.declared.place.Place.{Place}
use Rattle.fs_index.specs.Places.{Kept}
use Rattle.fs_records.specs.Listed.{listed}
use Rattle.pack_copy.specs.declared.extent.Extent.{Extent}
use Rattle.pack_copy.specs.declared.extent.Extent.TheVariants.{Turn}
use Rattle.pack_copy.specs.Copying.{CopyKept, IsCopied}

-- on Side stands what is left of the first transactions of a list, so many
pub record IsCopiedUpTo (list : List Transaction) (side : List ℕ) (c : CopyKept) (keep : FinSet nat_cmp) (number : ℕ) : Type 0 where
  pub copied : IsCopied side c
  pub left : listed side ≡ filter_map (packed_one c.tid keep list) (take number list)

-- so many of these places, the first ones, are of transactions up to a tid
pub record IsCountUpTo (starts : List Place) (tid count : ℕ) : Type 0 where
  pub within : count ≤ length starts
  pub before : (k : ℕ) (d : Place) → k < count → k < length starts → (slice_index_or starts k d).serial ≤ tid
  pub above : (k : ℕ) (d : Place) → count ≤ k → k < length starts → tid < (slice_index_or starts k d).serial

-- a tid isn't above the place with this number, if there is one
abbrev pub IsBelowNext : List Place → ℕ → ℕ → Type 0
IsBelowNext starts tid number = (d : Place) → number < length starts → tid ≤ (slice_index_or starts number d).serial

-- a copy goes on with the place with this number, or is at the end: a tid isn't above it, and the number of each place is below 2^64 - 1
pub record IsNext (from : Kept) (tid number : ℕ) : Type 0 where
  pub within : number ≤ length from.transactions
  pub above : IsBelowNext from.transactions tid number
  pub bound : All (λ p. p.serial < 2 ^ 64 - 1) from.transactions

-- something is left of a transaction behind the first ones, so many
abbrev pub IsSomeLeft : ℕ → FinSet nat_cmp → List Transaction → ℕ → Type 0
IsSomeLeft tid keep list number = filter_map (packed_one tid keep list) (take number list) ≡ filter_map (packed_one tid keep list) list → ⊥

-- the transaction with a number was gone over, or it wasn't, and something is left there
abbrev pub GoesOn : List Transaction → List ℕ → CopyKept → FinSet nat_cmp → ℕ → Bool → Type 0
GoesOn list side c keep number true = IsCopiedUpTo list side c keep (number + 1)
GoesOn list side c keep number false = IsSomeLeft c.tid keep list number

-- all of a list was gone over, or something is left of it
abbrev pub IsAllOrMore : ℕ → FinSet nat_cmp → List Transaction → ℕ → ℕ → Bool → Type 0
IsAllOrMore tid keep list total number true = number ≡ total
IsAllOrMore tid keep list total number false = IsSomeLeft tid keep list number

-- a copy went on behind the first transactions of a list with so many, to the end or not
pub record Ends (list : List Transaction) (side : List ℕ) (c : CopyKept) (keep : FinSet nat_cmp) (first total : ℕ) (whole : Bool) : Type 0 where
  pub more : ℕ
  pub up_to : IsCopiedUpTo list side c keep (first + more)
  pub end : IsAllOrMore c.tid keep list total (first + more) whole

-- a list is as it was, or, where that isn't enough, has one transaction more
abbrev pub AddsUnlessEnough : Bool → List Transaction → List Transaction → Type 0
AddsUnlessEnough true old new = new ≡ old
AddsUnlessEnough false old new = (new ≡ old) ⊎ ((x : Transaction) × (new ≡ old ++ x ∷ []))

-- behind a turn over these transactions, which had so many changes before it: whatever front the turn came by has fewer changes than a turn copies besides them
abbrev pub AreShort : ℕ → List Transaction → List Transaction → Type 0
AreShort before was now = (k : ℕ) → length was ≤ k → k < length now → change_count (take k now) < before + changes_a_turn

-- a copy went on behind the first transactions of a list, so many, to the end or as far as it was to: what stood on Side before it, and what stands there now
pub record Went (extent : Extent) (from : Kept) (keep : FinSet nat_cmp) (first : ℕ) (list : List Transaction) (was now : List ℕ) (c : CopyKept) (whole : Bool) : Type 0 where
  pub ends : Ends list now c keep first (length from.transactions) whole
  pub turn : (before : ℕ) → extent ≡ Turn before → whole ≡ false → before + changes_a_turn ≤ change_count (listed now)
  pub short : (before : ℕ) → extent ≡ Turn before → AreShort before (listed was) (listed now)
