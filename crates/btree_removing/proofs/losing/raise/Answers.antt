use Rattle.btree_removing.proofs.Raising.{raise_step}
use Rattle.btree_removing.proofs.losing.raise.Goals as goal

pub up-preserved : goal.up-preserved
up-preserved c = raise_step _ _ _ _ _ c.in-Some.rung _ _ c.up.invariant c.in-Some.ensures c.in_ok-loss.ensures
