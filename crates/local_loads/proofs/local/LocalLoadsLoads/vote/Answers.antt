use Rattle.local_loads.proofs.Calls.{kept_call}
use Rattle.local_loads.proofs.local.LocalLoadsLoads.vote.Goals as goal

pub returns-clause-voted : goal.returns-clause-voted
returns-clause-voted g c = λ x may. (may.0, kept_call _ _ _ _ _ _ _ _ _ _ _ c.step-reply.result c.args.self.now.told _ x.told x.known c.step-reply.ensures.made c.step-reply.ensures.told may.0 may.1)
