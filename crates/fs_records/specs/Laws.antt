-- What the laws of files say. Source: own.
use Rattle.std.specs.Prelude.{◌≡◌, ◌⊎◌, ℕ, ◌<◌, ◌≤◌, ◌^◌, List, ◌++◌, length, map, take, slice_index, Option, Some, None, option_map}
use Rattle.zb_model.specs.declared.data.Transaction.{Transaction}
use Rattle.zb_model.specs.Database.{IsDatabase, revision_below}
use Rattle.fs_records.specs.declared.field.Field.{Field}
use Rattle.zb_base.specs.Bytes.{AreBytes}
use Rattle.fs_records.specs.Blocks.{Reached, Block, block_text, IsBlock, after_block}
use Rattle.fs_records.specs.File.{IsReadAs, StandsFor, IsNoFile, IsDamaged}
use Rattle.fs_index.specs.Places.{Kept, places_in, last_below}
use Rattle.fs_records.specs.Indexed.{IsIndexOf, place_of, record_below, revision_of}

-- bytes stand for at most one list, with a tail cut off at one place at most
abbrev pub OneList : Type 0
OneList = (bytes : List ℕ) (list other : List Transaction) (a b : Option ℕ) → StandsFor bytes list a → StandsFor bytes other b → (list ≡ other) × (a ≡ b)

-- and there is one way to read them
abbrev pub OneReading : Type 0
OneReading = (bytes : List ℕ) (s t : Reached) (a b : Option ℕ) → IsReadAs bytes s a → IsReadAs bytes t b → (s ≡ t) × (a ≡ b)

-- what stands for a list is not damaged
abbrev pub ListOrDamaged : Type 0
ListOrDamaged = (bytes : List ℕ) (list : List Transaction) (cut : Option ℕ) (at : ℕ) (field : Field) → StandsFor bytes list cut → IsDamaged bytes at field → ⊥

-- what stands for a list begins as a file does, where it has bytes
abbrev pub ListOrNoFile : Type 0
ListOrNoFile = (bytes : List ℕ) (list : List Transaction) (cut : Option ℕ) → StandsFor bytes list cut → IsNoFile bytes → ⊥

-- what is damaged begins as a file does
abbrev pub DamagedOrNoFile : Type 0
DamagedOrNoFile = (bytes : List ℕ) (at : ℕ) (field : Field) → IsDamaged bytes at field → IsNoFile bytes → ⊥

-- bytes are damaged at one place at most, by one rule
abbrev pub OneDamage : Type 0
OneDamage = (bytes : List ℕ) (a b : ℕ) (f g : Field) → AreBytes bytes → length bytes < 2 ^ 64 → IsDamaged bytes a f → IsDamaged bytes b g → (a ≡ b) × (f ≡ g)

-- bytes stand for a list, or are no file, or are damaged somewhere
abbrev pub AlwaysOne : Type 0
AlwaysOne = (bytes : List ℕ) → AreBytes bytes → length bytes < 2 ^ 64 → ((list : List Transaction) × (cut : Option ℕ) × StandsFor bytes list cut) ⊎ (IsNoFile bytes ⊎ ((at : ℕ) × (field : Field) × IsDamaged bytes at field))

-- what an index of a reading gives below a front is where the object's last record below it stands
abbrev pub IndexGivesBelow : Type 0
IndexGivesBelow = (s : Reached) (kept : Kept) (oid front : ℕ) → IsIndexOf s kept → last_below front (places_in kept.entries oid) ≡ option_map place_of (record_below oid front s.known)

-- the list that bytes stand for is a database
abbrev pub ListIsDatabase : Type 0
ListIsDatabase = (bytes : List ℕ) (list : List Transaction) (cut : Option ℕ) → StandsFor bytes list cut → IsDatabase list

-- the last record of an object below a front is its last revision there, in the list that was read
abbrev pub RecordsAreRevisions : Type 0
RecordsAreRevisions = (bytes : List ℕ) (s : Reached) (cut : Option ℕ) (oid front : ℕ) → IsReadAs bytes s cut → option_map revision_of (record_below oid front s.known) ≡ revision_below oid front s.list

-- the places of the transactions have the tids of the list
abbrev pub StartsAreTheirs : Type 0
StartsAreTheirs = (bytes : List ℕ) (s : Reached) (cut : Option ℕ) → IsReadAs bytes s cut → map (λ p. p.serial) s.starts ≡ map (λ t. t.tid) s.list

-- what was read of a file, with a block behind it, stands for the list with that transaction more
abbrev pub BlockIsRead : Type 0
BlockIsRead = (bytes : List ℕ) (s : Reached) (cut : Option ℕ) (b : Block) → IsReadAs bytes s cut → IsBlock s b → IsReadAs (take s.end bytes ++ block_text s.end b) (after_block s b) None

-- and with a text of status 99 behind it, for the list as it was, and that text is cut off
abbrev pub VoteIsCut : Type 0
VoteIsCut = (bytes : List ℕ) (s : Reached) (cut : Option ℕ) (rest : List ℕ) → IsReadAs bytes s cut → 23 ≤ length rest → slice_index rest 16 ≡ 99 → IsReadAs (take s.end bytes ++ rest) s (Some s.end)
