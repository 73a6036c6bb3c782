use Rattle.local_loads.proofs.Calls.{kept_call, load_refused, load_says}
use Rattle.local_loads.proofs.local.LocalLoadsLoads.load.Goals as goal

pub returns-clause-loaded : goal.returns-clause-loaded
returns-clause-loaded g c = load_says _ _ _ _ _ _ _ _ _ _ c.step-reply.result c.args.self.now.told c.args.oid c.args.front c.load_answer.result c.step-reply.ensures.made c.load_answer.ensures

pub returns-clause-same : goal.returns-clause-same
returns-clause-same g c = λ x may. (may.0, kept_call _ _ _ _ _ _ _ _ _ _ _ c.step-reply.result c.args.self.now.told _ x.told x.known c.step-reply.ensures.made c.step-reply.ensures.told may.0 may.1)

pub returns-clause-refusal : goal.returns-clause-refusal
returns-clause-refusal g c = load_refused c.step-reply.result c.load_answer.result c.load_answer.ensures

pub returns-clause-makes : goal.returns-clause-makes
returns-clause-makes g c = record { reply = c.step-reply.result; step = c.step-reply.ensures.made; answer = c.load_answer.ensures; last = c.step-reply.ensures.told }
