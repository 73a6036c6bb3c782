-- What opening a file gives. Source: own.
use Rattle.std.specs.Prelude.{◌≡◌, ◌⊎◌, ℕ, ◌-◌, ◌^◌, ◌<◌, ◌≤◌, List, take, Option, None, Result, Ok, Err, All, IfOk}
use Rattle.std.specs.List.{last_or}
use Rattle.std.specs.Option.{option_map_or}
use Rattle.zb_volume.specs.declared.areas.Area.TheVariants.{Main}
use Rattle.zb_volume.specs.Calls.{Event}
use Rattle.zb_volume.specs.Disk.{IsSettled, main_bytes}
use Rattle.zb_volume.specs.Images.{CrashLeavesWith}
use Rattle.zb_volume.specs.Moments.{LeavesOnly}
use Rattle.fs_records.specs.declared.field.Field.{Field}
use Rattle.fs_index.specs.declared.place.Place.{Place}
use Rattle.fs_records.specs.Blocks.{Reached, magic}
use Rattle.fs_records.specs.File.{IsReadAs, IsNoFile, IsDamaged}
use Rattle.fs_index.specs.Places.{Kept, AreBefore, IsBefore}
use Rattle.fs_records.specs.Indexed.{IsIndexOf}
use Rattle.fs_recovery.specs.declared.errors.OpenError.{OpenError}
use Rattle.fs_recovery.specs.declared.errors.OpenError.TheVariants.{StoreFault, BadRecord, NotFileStorage, Memory}
use Rattle.fs_recovery.specs.declared.opening.Opened.{Opened}
use Rattle.fs_recovery.specs.Numbers.{NumbersKept, AreNumbersOf}
use Rattle.fs_recovery.specs.Counting.{Numbered}

-- ---- what an index keeps, whatever a volume gives

-- the number of the last transaction that is kept, or 0
abbrev pub newest_kept : Kept → ℕ
newest_kept kept = option_map_or (λ (p : Place). p.serial) (last_or None kept.transactions) 0

-- all places that are kept, of records and of transactions, stand before this one, and none is of a transaction later than the last
pub record KeptBefore (kept : Kept) (at : ℕ) : Type 0 where
  pub records : AreBefore kept.entries (newest_kept kept) at
  pub transactions : All (IsBefore (newest_kept kept) at) kept.transactions

-- the end is a place of a file, all that is kept stands before it, and the last number isn't the greatest that there is
pub record IsBounded (o : Opened) : Type 0 where
  pub first : 4 ≤ o.end
  pub limit : o.end < 2 ^ 63
  pub newest : newest_kept o.index < 2 ^ 64 - 1
  pub before : KeptBefore o.index o.end

-- ---- one transaction

-- a transaction was read, kept and counted, or the first fault in it
abbrev pub BlockRead : List ℕ → ℕ → ℕ → Kept → NumbersKept → Result (Unit {0}) OpenError → Type 0
BlockRead bytes p newest kept numbers (Ok u) = Numbered bytes p newest kept numbers
BlockRead bytes p newest kept numbers (Err StoreFault) = Unit {0}
BlockRead bytes p newest kept numbers (Err (BadRecord at field)) = IsDamaged bytes at field
BlockRead bytes p newest kept numbers (Err NotFileStorage) = ⊥
BlockRead bytes p newest kept numbers (Err Memory) = Unit {0}

-- ---- the whole file

-- the bytes stand for what was reached, with this cut, up to this end, and the index and the numbers are those of that
pub record IsOpened (bytes : List ℕ) (o : Opened) : Type 0 where
  pub reached : Reached
  pub stands : IsReadAs bytes reached o.cut
  pub end_is : reached.end ≡ o.end
  pub index : IsIndexOf reached o.index
  pub counted : AreNumbersOf reached.list o.numbers

-- the bytes stand for what was opened, and there is no tail
abbrev pub IsWhole : List ℕ → Opened → Type 0
IsWhole bytes o = IsOpened bytes (record { index = o.index; numbers = o.numbers; end = o.end; cut = None })

-- what is known of the bytes is what they have up to its end, which is that of a transaction, or behind the first four bytes
abbrev pub IsUpTo : List ℕ → Opened → Type 0
IsUpTo bytes o = Numbered bytes o.end (newest_kept o.index) o.index o.numbers

-- it is, unless the bytes are no file
abbrev pub IsKnownOf : List ℕ → Opened → Type 0
IsKnownOf bytes o = take 4 bytes ≡ magic → IsUpTo bytes o

-- The answer is what the bytes are: a list of transactions, damaged, or no file. A failed call and want of memory say nothing of them.
abbrev pub Opens : List ℕ → Result Opened OpenError → Type 0
Opens bytes (Ok o) = IsOpened bytes o
Opens bytes (Err StoreFault) = Unit {0}
Opens bytes (Err (BadRecord at field)) = IsDamaged bytes at field
Opens bytes (Err NotFileStorage) = IsNoFile bytes
Opens bytes (Err Memory) = Unit {0}

-- the bytes are no file, or they are damaged
abbrev pub IsNoList : List ℕ → Type 0
IsNoList bytes = IsNoFile bytes ⊎ ((at : ℕ) × (field : Field) × IsDamaged bytes at field)

-- ---- crashes

-- where Main stands for a list, a crash at any moment leaves of it what it could leave before, or that cut at some length down to the end of the list
abbrev pub MomentsOfOpening : List Event → List Event → Type 0
MomentsOfOpening old new = (s : Reached) (cut : Option ℕ) → IsReadAs (main_bytes old) s cut → LeavesOnly Main (CrashLeavesWith old Main (take s.end (main_bytes old))) old new

-- where Main stands for a list and nothing of it was pending, all that a crash at any moment leaves of it stands for that list
abbrev pub ImagesStand : List Event → List Event → Type 0
ImagesStand old new = (s : Reached) (cut : Option ℕ) → IsReadAs (main_bytes old) s cut → IsSettled old Main → LeavesOnly Main (λ image. (k : Option ℕ) × IsReadAs image s k) old new

-- ---- the whole call

-- what opening Main says and leaves: the answer is what its bytes are; where it is Ok they are left without a tail, and where they are no list they are left alone; and what a crash leaves at every moment
pub record OpensMain (old new : List Event) (result : Result Opened OpenError) : Type 0 where
  pub opens : Opens (main_bytes old) result
  pub whole : IfOk result (λ o. IsWhole (main_bytes new) o)
  pub harmed : IsNoList (main_bytes old) → new ≡ old
  pub any_moment : MomentsOfOpening old new
  pub images : ImagesStand old new
