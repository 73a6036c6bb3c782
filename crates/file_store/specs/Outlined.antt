-- What a store knows of the transaction whose changes were asked for last. Source: own.
use Rattle.std.specs.Prelude.{◌≡◌, ℕ, ◌+◌, ◌<◌, ◌≤◌, ◌^◌, List, Option, Some, length, slice_get, option_and_then}
use Rattle.zb_model.specs.Queries.{transaction_at}
use Rattle.fs_index.specs.declared.place.Place.{Place}
use Rattle.fs_records.specs.Blocks.{Begins}
use Rattle.fs_records.specs.Listed.{listed, reached_in}
use Rattle.fs_reading.specs.declared.outline.Outline.{Outline}
use Rattle.fs_reading.specs.declared.outline.OutlinedChange.{OutlinedChange}
use Rattle.fs_reading.specs.declared.outline.Source.{Source}
use Rattle.fs_reading.specs.Outlines.{outlined_transaction}

-- the bytes are read as a file, and these are the places of the transactions of its list
pub record AreStartsOf (bytes : List ℕ) (starts : List Place) : Type 0 where
  pub begins : Begins bytes (reached_in bytes)
  pub are : starts ≡ (reached_in bytes).starts
  pub list_is : listed bytes ≡ (reached_in bytes).list
  pub short : length bytes < 2 ^ 64

-- the bytes of each content of these changes stand within these
abbrev pub AllWithin : List ℕ → List OutlinedChange → Type 0
AllWithin bytes changes = (n : ℕ) (c : OutlinedChange) (s : Source) → slice_get changes n ≡ Some c → c.source ≡ Some s → s.at + 42 + s.length ≤ length bytes

-- an outline is that of the transaction of the list with its tid
pub record IsOutlinedIn (bytes : List ℕ) (o : Outline) : Type 0 where
  pub is : transaction_at o.tid (listed bytes) ≡ Some (outlined_transaction bytes o)
  pub within : AllWithin bytes o.changes

-- the change at a place of an outline
abbrev pub outlined_at : ℕ → Option Outline → Option OutlinedChange
outlined_at number o = option_and_then (λ (x : Outline). slice_get x.changes number) o
