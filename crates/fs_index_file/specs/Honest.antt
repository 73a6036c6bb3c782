-- When an index file says what Main has. Source: own.
use Rattle.std.specs.Prelude.{◌≡◌, ℕ, Bool, true, ◌==◌, if◌then◌else◌, List, [], ◌∷◌, map}
use Rattle.fs_index.specs.declared.place.Place.{Place}
use Rattle.fs_index.specs.Places.{Kept, placed_of}
use Rattle.fs_index.specs.Listed.{AreRecordsOf}
use Rattle.fs_records.specs.Blocks.{Reached, Begins}
use Rattle.fs_records.specs.Indexed.{places_of}
use Rattle.fs_recovery.specs.declared.tally.Tally.{Tally}
use Rattle.fs_index_file.specs.declared.entries.Start.{Start}
use Rattle.fs_index_file.specs.Hints.{AreSmall, Entries, entries_in, hint_text, is_hint}

-- ---- what an index and numbers say

abbrev pub status_of : Bool → ℕ
status_of packed = if packed then 112 else 32

abbrev pub is_packed : Start → Bool
is_packed s = s.status == 112

-- transactions at these places, with the statuses that these tallies say; of one without a tally, that of a committed one
abbrev pub starts_for : List Place → List Tally → List Start
starts_for [] tallies = []
starts_for (p ∷ ps) [] = record { place = p; status = 32 } ∷ starts_for ps []
starts_for (p ∷ ps) (x ∷ xs) = record { place = p; status = status_of x.packed } ∷ starts_for ps xs

-- the entries that an index and tallies have up to an end
pub record AreEntriesOf (kept : Kept) (tallies : List Tally) (end : ℕ) (e : Entries) : Type 0 where
  pub end_is : e.end ≡ end
  pub starts_are : e.starts ≡ starts_for kept.transactions tallies
  pub records_are : AreRecordsOf kept.entries e.records

-- bytes are the index file of these
abbrev pub IsHintOf : Kept → List Tally → ℕ → List ℕ → Type 0
IsHintOf kept tallies end bytes = (e : Entries) × AreEntriesOf kept tallies end e × AreSmall e × (bytes ≡ hint_text e)

-- ---- what Main has

-- Main has the end of a transaction there, or of its first four bytes, and these are the entries of Main up to it
pub record AreUpTo (main : List ℕ) (e : Entries) : Type 0 where
  pub reached : Reached
  pub begins : Begins main reached
  pub end_is : reached.end ≡ e.end
  pub places : map (λ s. s.place) e.starts ≡ reached.starts
  pub statuses : map is_packed e.starts ≡ map (λ t. t.packed) reached.list
  pub records : (oid : ℕ) → placed_of oid e.records ≡ places_of oid reached.known

-- bytes are no index file that may be believed, or they say what Main has up to its end
abbrev pub IsHonest : List ℕ → List ℕ → Type 0
IsHonest main bytes = is_hint bytes ≡ true → AreUpTo main (entries_in bytes)
