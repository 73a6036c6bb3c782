use Rattle.local_loads.proofs.Calls.{abort_refused, kept_err, kept_ok}
use Rattle.local_loads.proofs.local.LocalLoadsLoads.abort.Goals as goal

pub returns-clause-unvoted : goal.returns-clause-unvoted
returns-clause-unvoted g c = kept_ok _ _ _ _ _ _ _ _ _ _ _ c.step-reply.result c.args.self.now.told _ c.abort_answer.result c.step-reply.ensures.made c.step-reply.ensures.told

pub returns-clause-same : goal.returns-clause-same
returns-clause-same g c = kept_err _ _ _ _ _ _ _ _ _ _ _ c.step-reply.result c.args.self.now.told _ c.abort_answer.result c.step-reply.ensures.made c.step-reply.ensures.told

pub returns-clause-refusal : goal.returns-clause-refusal
returns-clause-refusal g c = abort_refused c.step-reply.result c.abort_answer.result c.abort_answer.ensures

pub returns-clause-makes : goal.returns-clause-makes
returns-clause-makes g c = record { reply = c.step-reply.result; step = c.step-reply.ensures.made; answer = c.abort_answer.ensures; last = c.step-reply.ensures.told }
