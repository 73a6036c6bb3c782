use Rattle.remote_loads.proofs.Made.{abort_frees, abort_keeps}
use Rattle.remote_loads.proofs.remote.Remote.abort_made.Goals as goal

pub returns-then-is_ok-clause-told : goal.returns-then-is_ok-clause-told
returns-then-is_ok-clause-told g c = λ told. abort_frees (g.W.Carrier.steps (g.W.Carrier.session c.args.self.now.carrier)) (g.W.Carrier.end c.args.self.now.carrier) (g.W.Carrier.desk c.args.self.now.carrier) c.args.self.now.client.now _ _ _ _ (c.in-Ok.ensures.told told) _ _ c.done_answer-done.ensures c.if-is_ok.ensures.value c.ask_for_nothing.ensures

pub returns-else-is_ok-clause-told : goal.returns-else-is_ok-clause-told
returns-else-is_ok-clause-told g c = λ told. abort_keeps (g.W.Carrier.steps (g.W.Carrier.session c.args.self.now.carrier)) (g.W.Carrier.end c.args.self.now.carrier) (g.W.Carrier.desk c.args.self.now.carrier) c.args.self.now.client.now _ _ _ _ (c.in-Ok.ensures.told told) _ c.done_answer-done.ensures c.if-is_ok.ensures.value
