use Rattle.std.proofs.Common.{inr, refl}
use Rattle.hub_carrier.proofs.Serves.{step_alone, step_off}
use Rattle.hub_carrier.proofs.serving.ask.Goals as goal

pub returns-then-not-can_be_told-clause-asked : goal.returns-then-not-can_be_told-clause-asked
returns-then-not-can_be_told-clause-asked g c = (step_off _ _ _ _ _ _ c.step-reply.ensures, inr refl)

pub returns-in-Err-clause-asked : goal.returns-in-Err-clause-asked
returns-in-Err-clause-asked g c = (step_alone _ _ _ _ _ _ _ c.step-reply.ensures c.in-Err.ensures.err, inr refl)
