-- The first fault among the data records.
use Rattle.std.proofs.Common.{ℕ, ◌-◌, ◌<◌, List, drop, Err, sym, subst}
use Rattle.fs_records.specs.Blocks.{Known}
use Rattle.fs_records.specs.Rules.{record_at}
use Rattle.fs_records.specs.File.{RecordFault}
use Rattle.fs_index.specs.Places.{PlacesKept, knows}
use Rattle.fs_records.specs.ScanLaws.{fault_found}
use Rattle.fs_recovery.specs.declared.errors.OpenError.{OpenError}
use Rattle.fs_recovery.specs.declared.errors.OpenError.TheVariants.{StoreFault, BadRecord, NotFileStorage, Memory}
use Rattle.fs_recovery.specs.Counting.{RecordsCounted}
use Rattle.fs_recovery.specs.declared.counted.Counted.{Counted}
use Rattle.fs_recovery.specs.Records.{RecordGives, RecordsRead}

pub read_refused : (bytes : List ℕ) (known : List Known) (place tid from q end : ℕ) (entries : List (ℕ × PlacesKept)) (c : Counted) (e : OpenError) → q < end
    → RecordGives (Err e) q (record_at (knows entries) place tid (end - q) (drop q bytes)) → RecordsCounted bytes known place tid from q entries c → RecordsRead bytes known place tid from end entries (Err e)
read_refused bytes known place tid from q end entries c StoreFault before gives so_far = tt
read_refused bytes known place tid from q end entries c (BadRecord at field) before gives so_far =
    subst (λ (n : ℕ). RecordFault bytes known place tid from end n field) (sym gives.0) (fault_found bytes known place tid from q end field entries before (sym gives.1) (record { records = so_far.records; stand = so_far.stand; index = so_far.index }))
read_refused bytes known place tid from q end entries c NotFileStorage before gives so_far = absurd gives
read_refused bytes known place tid from q end entries c Memory before gives so_far = absurd gives
