use Rattle.std.proofs.Common.{◌≡◌}
use Rattle.zeo_desk.specs.Answering.{oids_from}
use Rattle.zeo_desk.proofs.answering.oids_from.Given as goal

abbrev pub invariant-loop-i : goal.invariant-loop-i
invariant-loop-i l = l.oids ≡ oids_from l.i l.first
