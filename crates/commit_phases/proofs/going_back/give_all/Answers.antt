use Rattle.commit_phases.proofs.Earlier.{given}
use Rattle.commit_phases.proofs.going_back.give_all.Goals as goal

pub loop-given-preserved : goal.loop-given-preserved
loop-given-preserved c = given _ _ _ _ c.in-Some.given _ c.in-Some.ensures.items c.give_content.ensures c.loop-given.invariant
