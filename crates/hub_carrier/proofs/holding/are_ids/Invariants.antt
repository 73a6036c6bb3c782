use Rattle.std.proofs.Common.{take}
use Rattle.zeo_values.specs.Values.{AreIds}
use Rattle.hub_carrier.proofs.holding.are_ids.Given as goal

abbrev pub invariant-loop-oid : goal.invariant-loop-oid
invariant-loop-oid l = AreIds (take l.oid-index l.oids)
