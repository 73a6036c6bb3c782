use Rattle.std.proofs.Common.{◌≡◌, ◌++◌, drop}
use Rattle.btree_putting.proofs.copying.copy_acts.Given as goal

abbrev pub invariant-loop-act : goal.invariant-loop-act
invariant-loop-act l = l.copy.items ++ drop l.act-index l.acts ≡ l.acts
