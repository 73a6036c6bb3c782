use Rattle.std.proofs.Common.{ℕ, subst}
use Rattle.zeo_values.specs.Values.{IsId}
use Rattle.remote_loads.proofs.Loads.{load_leaves}
use Rattle.remote_loads.proofs.remote.Remote.load_at.Goals as goal

pub returns-clause-exact : goal.returns-clause-exact
returns-clause-exact g c = λ told client stands.
    let n = g.W.Carrier.session c.args.self.now.carrier in
    let held : IsId c.args.oid × IsId c.args.front = (subst (λ (k : ℕ). IsId k) c.oid.view_is c.are_ids.ensures.one, subst (λ (k : ℕ). IsId k) c.front.view_is c.are_ids.ensures.other) in
    load_leaves (g.W.Carrier.steps n) g.W.Carrier.machine n (λ q r s t step. g.met.W.Carrier.stepped n q r s t told step) c.payloads_are_read_back.ensures c.whole_pieces_are_heard.ensures _ _ _ _ c.args.oid c.args.front _ _ _ held (c.load_made.ensures.told told) client stands
