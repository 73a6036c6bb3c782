use Rattle.btree_setting.specs.Sets.{AreZero}
use Rattle.btree_setting.proofs.drawing.stand_ins.Given as goal

abbrev pub invariant-loop-i : goal.invariant-loop-i
invariant-loop-i l = AreZero l.oids
