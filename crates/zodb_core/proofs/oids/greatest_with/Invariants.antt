use Rattle.std.proofs.Common.{◌≡◌, drop, max}
use Rattle.zb_model.specs.Queries.{greatest_of}
use Rattle.zodb_core.proofs.oids.greatest_with.Given as goal

abbrev pub invariant-loop-oid : goal.invariant-loop-oid
invariant-loop-oid l = max l.greatest (greatest_of (drop l.oid-index l.oids)) ≡ max l.fn.other (greatest_of l.oids)
