use Rattle.std.proofs.Common.{rules, ◌≡◌, [], sym, ap, subst}
use Rattle.zb_model.specs.Stores.{StoreState}
use Rattle.pack_reach.specs.Marking.{HasGrown}
use Rattle.pack_reach.proofs.Finishing.{same_grown}
use Rattle.pack_reach.proofs.marker.Marker.follow_some.Goals as goal

pub loop-i-preserved : goal.loop-i-preserved
loop-i-preserved g c =
    let list = (g.St.Store.state c.args.store.now).list in
    let same : (g.St.Store.state c.loop-i.store).list ≡ list = ap (λ (s : StoreState). s.list) c.loop-i.invariant.same in
    record {
      same = search rules;
      faults = search rules;
      keeps = search rules;
      counted = search rules;
      marks = λ told k. c.follow_next.ensures.marks told list [] (subst (HasGrown c.loop-i.self.tid list []) (sym same) (same_grown c.loop-i.self.tid list)) (c.loop-i.invariant.marks told k);
    }

pub returns-in_err-follow_next-clause-marks : goal.returns-in_err-follow_next-clause-marks
returns-in_err-follow_next-clause-marks g c = λ told k.
    let list = (g.St.Store.state c.args.store.now).list in
    let same : (g.St.Store.state c.loop-i.store).list ≡ list = ap (λ (s : StoreState). s.list) c.loop-i.invariant.same in
    c.follow_next.ensures.marks told list [] (subst (HasGrown c.loop-i.self.tid list []) (sym same) (same_grown c.loop-i.self.tid list)) (c.loop-i.invariant.marks told k)
