use Rattle.commit_phases.proofs.Restoring.{taken}
use Rattle.commit_phases.proofs.several.take_back_all.Goals as goal

pub loop-replaced-preserved : goal.loop-replaced-preserved
loop-replaced-preserved c = taken _ _ _ _ c.in-Some.replaced _ c.in-Some.ensures.items c.take_back.ensures c.loop-replaced.invariant
