-- What a read answers. Source: `load` of a connection of ZODB; what a pack may take away is own.
use Rattle.std.specs.Prelude.{Bool, Err, List, Ok, Result, Some, false, true, ℕ, ◌≡◌}
use Rattle.zb_base.specs.Counts.{Rose}
use Rattle.zb_model.specs.declared.refusal.Refusal.{Refusal}
use Rattle.zb_model.specs.declared.refusal.Refusal.TheVariants as refusal
use Rattle.connection_view.specs.Loading.{IsMissing}
use Rattle.connection_view.specs.Views.{View, current}
use Rattle.zodb_core.specs.Machine.{Machine}
use Rattle.zodb_core.specs.Outcomes.{FaultCounts}
use Rattle.client_turns.specs.Views.{server_of}
use Rattle.client_turns.specs.Frames.{HasFitted, IsPastFrame}

-- why a view, while the machine stands so, has nothing of an object: it is missing
abbrev pub IsMissedFor : Machine → View → ℕ → Refusal → Type 0
IsMissedFor m v oid (refusal.Missing o packed) = (o ≡ oid) × IsMissing v (server_of m) oid packed
IsMissedFor m v oid _ = ⊥

-- how a read ends, with the counts before and after it: as the view says, or because reading failed or memory ran out
abbrev pub EndsNear : Machine → View → ℕ → FaultCounts → FaultCounts → Result (ℕ × List ℕ) Refusal → Type 0
EndsNear m v oid before now (Ok d) = current v oid ≡ Some d
EndsNear m v oid before now (Err refusal.ReadFault) = Rose before.reads now.reads
EndsNear m v oid before now (Err refusal.Memory) = now ≡ before
EndsNear m v oid before now (Err why) = IsMissedFor m v oid why

-- and over a link, where what is read has fitted a frame, or doesn't fit one as it is answered now: where only the longer of two answers doesn't, both may come
abbrev pub EndsFar : Machine → View → ℕ → FaultCounts → FaultCounts → Result (ℕ × List ℕ) Refusal → Type 0
EndsFar m v oid before now (Ok d) = (current v oid ≡ Some d) × HasFitted d
EndsFar m v oid before now (Err (refusal.TooLong n)) = IsPastFrame m oid v.front n
EndsFar m v oid before now (Err why) = EndsNear m v oid before now (Err why)

abbrev pub EndsReading : Bool → Machine → View → ℕ → FaultCounts → FaultCounts → Result (ℕ × List ℕ) Refusal → Type 0
EndsReading false m v oid before now result = EndsNear m v oid before now result
EndsReading true m v oid before now result = EndsFar m v oid before now result
