use Rattle.fs_records.proofs.RecordsInRow.{PlacedSoFar}
use Rattle.fs_records.proofs.placing.placed_records.Given as goal

-- where the records of the first changes stand
abbrev pub invariant-place : goal.invariant-place
invariant-place l = record { so_far : PlacedSoFar l.tid l.from l.at l.count l.changes l.placed.items }
