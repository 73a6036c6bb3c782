-- What the laws of index files say. Source: own.
use Rattle.std.specs.Prelude.{◌≡◌, List, ℕ, true}
use Rattle.fs_recovery.specs.declared.opening.Opened.{Opened}
use Rattle.fs_recovery.specs.Opens.{IsUpTo}
use Rattle.fs_index_file.specs.Hints.{AreSmall, Entries, entries_in, hint_text, is_hint}
use Rattle.fs_index_file.specs.Honest.{IsHintOf, IsHonest}
use Rattle.fs_index_file.specs.Writes.{IsClosed}

-- an index file says the entries that it was written with
abbrev pub WrittenIsRead : Type 0
WrittenIsRead = (e : Entries) → AreSmall e → entries_in (hint_text e) ≡ e

-- where an index and numbers are those of Main up to an end, their index file says what Main has
abbrev pub KeptIsHonest : Type 0
KeptIsHonest = (main : List ℕ) (o : Opened) (bytes : List ℕ) → IsUpTo main o → IsHintOf o.index o.numbers.tallies o.end bytes → IsHonest main bytes

-- and it is one that may be believed, with that end
abbrev pub KeptIsHint : Type 0
KeptIsHint = (main : List ℕ) (o : Opened) (bytes : List ℕ) → IsUpTo main o → IsHintOf o.index o.numbers.tallies o.end bytes → (is_hint bytes ≡ true) × ((entries_in bytes).end ≡ o.end)

-- a closed file says nothing, and so does one of no bytes
abbrev pub ClosedIsHonest : Type 0
ClosedIsHonest = (main bytes : List ℕ) → IsClosed bytes → IsHonest main bytes
