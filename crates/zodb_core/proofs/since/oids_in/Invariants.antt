use Rattle.std.proofs.Common.{◌≡◌, take, map}
use Rattle.zodb_core.proofs.since.oids_in.Given as goal

abbrev pub invariant-loop-change : goal.invariant-loop-change
invariant-loop-change l = l.oids ≡ map (λ change. change.oid) (take l.change-index l.transaction.changes)
