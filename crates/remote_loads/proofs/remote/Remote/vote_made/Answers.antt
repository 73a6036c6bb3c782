use Rattle.remote_loads.proofs.Made.{vote_answers, vote_refused}
use Rattle.remote_loads.proofs.remote.Remote.vote_made.Goals as goal

pub returns-in-Err-talk-clause-told : goal.returns-in-Err-talk-clause-told
returns-in-Err-talk-clause-told g c = λ told. vote_refused (g.W.Carrier.steps (g.W.Carrier.session c.args.self.now.carrier)) (g.W.Carrier.end c.args.self.now.carrier) (g.W.Carrier.desk c.args.self.now.carrier) c.args.self.now.client.now c.args.user.now c.args.description.now c.args.stores c.args.checks c.in-Ok.text _ c.in-Ok.ensures.spelled _ _ _ _ (c.in-Err-talk.ensures.told told)

pub returns-clause-told : goal.returns-clause-told
returns-clause-told g c = λ told. vote_answers (g.W.Carrier.steps (g.W.Carrier.session c.args.self.now.carrier)) (g.W.Carrier.end c.args.self.now.carrier) (g.W.Carrier.desk c.args.self.now.carrier) c.args.self.now.client.now c.args.user.now c.args.description.now c.args.stores c.args.checks c.in-Ok.text _ c.in-Ok.ensures.spelled _ _ _ _ _ (c.in-Ok-talk.ensures.told told) c.done_answer.ensures
