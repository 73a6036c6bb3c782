use Rattle.pack_copy.proofs.Outlines.{PlacedSoFar}
use Rattle.pack_copy.proofs.placing.place_records.Given as goal

-- where the records of the first changes stand
abbrev pub invariant-place : goal.invariant-place
invariant-place l = record { so_far : PlacedSoFar l.tid l.from l.at l.change-index l.changes l.records.items }
