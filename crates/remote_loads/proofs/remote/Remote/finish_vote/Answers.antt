use Rattle.remote_loads.proofs.FinishCalls.{finish_leaves}
use Rattle.remote_loads.proofs.remote.Remote.finish_vote.Goals as goal

pub returns-clause-exact : goal.returns-clause-exact
returns-clause-exact g c = λ told client stands.
    let n = g.W.Carrier.session c.args.self.now.carrier in
    finish_leaves (g.W.Carrier.steps n) g.W.Carrier.machine n (λ q r s t step. g.met.W.Carrier.stepped n q r s t told step) c.payloads_are_read_back.ensures c.whole_pieces_are_heard.ensures _ _ _ _ _ _ _ (c.finish_made.ensures.told told) client stands
