-- What reading the data records of a transaction gives. Source: own.
use Rattle.std.specs.Prelude.{◌≡◌, ℕ, List, Result, Ok, Err}
use Rattle.fs_records.specs.declared.field.Field.{Field}
use Rattle.fs_records.specs.Blocks.{Known}
use Rattle.fs_records.specs.File.{RecordFault}
use Rattle.fs_recovery.specs.declared.counted.Counted.{Counted}
use Rattle.fs_recovery.specs.Counting.{RecordsCounted}
use Rattle.fs_recovery.specs.declared.errors.OpenError.{OpenError}
use Rattle.fs_recovery.specs.declared.errors.OpenError.TheVariants.{StoreFault, BadRecord, NotFileStorage, Memory}
use Rattle.fs_index.specs.Places.{PlacesKept}

-- one data record at q: what the rules say of it, unless a read failed
abbrev pub RecordGives : Result (ℕ × ℕ) OpenError → ℕ → Result (ℕ × ℕ) Field → Type 0
RecordGives (Ok x) q read = read ≡ Ok x
RecordGives (Err StoreFault) q read = Unit {0}
RecordGives (Err (BadRecord at field)) q read = (at ≡ q) × (read ≡ Err field)
RecordGives (Err NotFileStorage) q read = ⊥
RecordGives (Err Memory) q read = ⊥

-- all of them: they stand, are kept and were counted, or the first fault among them
abbrev pub RecordsRead : List ℕ → List Known → ℕ → ℕ → ℕ → ℕ → List (ℕ × PlacesKept) → Result Counted OpenError → Type 0
RecordsRead bytes known place tid from end entries (Ok counted) = RecordsCounted bytes known place tid from end entries counted
RecordsRead bytes known place tid from end entries (Err StoreFault) = Unit {0}
RecordsRead bytes known place tid from end entries (Err (BadRecord at field)) = RecordFault bytes known place tid from end at field
RecordsRead bytes known place tid from end entries (Err NotFileStorage) = ⊥
RecordsRead bytes known place tid from end entries (Err Memory) = Unit {0}
