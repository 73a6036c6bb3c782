use Rattle.fs_index.proofs.Collecting.{Collected}
use Rattle.fs_index.proofs.index.Index.records.Given as goal

-- the records of the first objects
abbrev pub invariant-each : goal.invariant-each
invariant-each l = record { so_far : Collected l.self.entries l.oid-items l.oid-index l.records.items }
