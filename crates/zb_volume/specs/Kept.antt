-- The calls that a volume in memory keeps, and what contracts see of it.
use Rattle.std.specs.Prelude.{◌≡◌, ℕ, ◌==◌, Bool, true, false, List, [], ◌∷◌}
use Rattle.std.specs.List.{list_any}
use Rattle.zb_base.specs.Counts.{one_more}
use Rattle.zb_volume.specs.declared.kept.KeptCall.{KeptCall}
use Rattle.zb_volume.specs.declared.kept.KeptCall.TheVariants.{Wrote as KeptWrote, Cut as KeptCut, Synced as KeptSynced, Replaced as KeptReplaced}
use Rattle.zb_volume.specs.Calls.{Event, Call, WriteAt, CutTo, SyncOf, Replace, made}

abbrev pub call_of : KeptCall → Call
call_of (KeptWrote a at bytes) = WriteAt a at bytes.items
call_of (KeptCut a n) = CutTo a n
call_of (KeptSynced a) = SyncOf a
call_of KeptReplaced = Replace

-- these calls, the oldest first, after others that are listed with the newest first
abbrev pub calls_from : List Call → List KeptCall → List Call
calls_from earlier [] = earlier
calls_from earlier (c ∷ cs) = calls_from (call_of c ∷ earlier) cs

abbrev pub calls_of : List KeptCall → List Call
calls_of kept = calls_from [] kept

-- the log of calls that were all made
abbrev pub log_of : List Call → List Event
log_of [] = []
log_of (call ∷ calls) = made call ∷ log_of calls

-- A volume in memory: the calls that changed it, the newest first, the numbers of the calls that are to fail, how many
-- calls were made, the two counts of faults, and how often it found no memory.
pub record MemoryState : Type 0 where
  pub done : List Call
  pub failing : List ℕ
  pub number : ℕ
  pub read_faults : ℕ
  pub write_faults : ℕ
  pub starved : ℕ

abbrev pub is_listed : List ℕ → ℕ → Bool
is_listed failing n = list_any (λ x. x == n) failing

-- A call fails where its number is listed. Else only a call that changes the volume fails, where it finds no memory. A
-- call that fails changes nothing but the counts.
pub record FailsWhereListed (reads : Bool) (old : MemoryState) (failed : Bool) (new : MemoryState) : Type 0 where
  pub number : new.number ≡ one_more old.number
  pub failing : new.failing ≡ old.failing
  pub listed : is_listed old.failing new.number ≡ true → failed ≡ true
  pub reads_are_sure : is_listed old.failing new.number ≡ false → reads ≡ true → failed ≡ false
  pub starved : is_listed old.failing new.number ≡ false → failed ≡ true → new.starved ≡ one_more old.starved
  pub not_starved : is_listed old.failing new.number ≡ true → new.starved ≡ old.starved
  pub fed : failed ≡ false → new.starved ≡ old.starved
  pub read_fault : reads ≡ true → failed ≡ true → new.read_faults ≡ one_more old.read_faults
  pub write_fault : reads ≡ false → failed ≡ true → new.write_faults ≡ one_more old.write_faults
  pub unchanged : failed ≡ true → new.done ≡ old.done
