use Rattle.std.proofs.Common.{Ok, sym, ap, ◌∙◌}
use Rattle.remote_loads.proofs.Made.{finish_empties, finish_goes_on, finish_refuses, finish_unheard}
use Rattle.remote_loads.proofs.remote.Remote.finish_made.Goals as goal

pub returns-in-Err-clause-told : goal.returns-in-Err-clause-told
returns-in-Err-clause-told g c = λ told. finish_unheard (g.W.Carrier.steps (g.W.Carrier.session c.args.self.now.carrier)) (g.W.Carrier.end c.args.self.now.carrier) (g.W.Carrier.desk c.args.self.now.carrier) c.args.self.now.client.now c.drop_asked.new.self c.drop_asked.ensures.dropped c.drop_asked.ensures.others _ _ _ _ (c.in-Err.ensures.told told)

pub returns-in-Err-finish_answer-clause-told : goal.returns-in-Err-finish_answer-clause-told
returns-in-Err-finish_answer-clause-told g c = λ told. finish_refuses (g.W.Carrier.steps (g.W.Carrier.session c.args.self.now.carrier)) (g.W.Carrier.end c.args.self.now.carrier) (g.W.Carrier.desk c.args.self.now.carrier) c.args.self.now.client.now c.drop_asked.new.self c.drop_asked.ensures.dropped c.drop_asked.ensures.others _ _ _ _ _ (c.in-Ok.ensures.told told) c.in-Err-finish_answer.ensures

pub returns-in-Some-clause-told : goal.returns-in-Some-clause-told
returns-in-Some-clause-told g c = λ told. finish_goes_on g.W.Carrier.steps (g.W.Carrier.session c.args.self.now.carrier) _ (g.W.Carrier.end c.args.self.now.carrier) (g.W.Carrier.desk c.args.self.now.carrier) c.args.self.now.client.now c.drop_asked.new.self c.drop_asked.ensures.dropped c.drop_asked.ensures.others _ _ _ _ _ _ _ _ _ _ (c.in-Ok.ensures.told told) (ap Ok (sym c.in-Some.is) ∙ c.in-Ok-finish_answer.ensures) c.ask_for_nothing.ensures c.ask.ensures.way.keeps.session (c.told_behind.ensures.told told)

pub returns-in-None-clause-told : goal.returns-in-None-clause-told
returns-in-None-clause-told g c = λ told. finish_empties (g.W.Carrier.steps (g.W.Carrier.session c.args.self.now.carrier)) (g.W.Carrier.end c.args.self.now.carrier) (g.W.Carrier.desk c.args.self.now.carrier) c.args.self.now.client.now c.drop_asked.new.self c.drop_asked.ensures.dropped c.drop_asked.ensures.others _ _ _ _ _ (c.in-Ok.ensures.told told) (ap Ok (sym c.in-None.is) ∙ c.in-Ok-finish_answer.ensures) c.ask_for_nothing.ensures
