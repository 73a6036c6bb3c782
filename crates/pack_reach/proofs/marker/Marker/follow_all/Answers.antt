use Rattle.std.proofs.Common.{rules, ◌≡◌, ℕ, List, sym, ap, subst}
use Rattle.zb_model.specs.declared.data.Transaction.{Transaction}
use Rattle.zb_model.specs.Stores.{StoreState}
use Rattle.pack_reach.specs.Marking.{FollowsOne, HasGrown, IsLeastFollowed}
use Rattle.pack_reach.proofs.Overtaking.{least_follows}
use Rattle.pack_reach.proofs.marker.Marker.follow_all.Goals as goal

pub follow-preserved : goal.follow-preserved
follow-preserved g c =
    let list = (g.St.Store.state c.args.store.now).list in
    let same : (g.St.Store.state c.follow.store).list ≡ list = ap (λ (s : StoreState). s.list) c.follow.invariant.same in
    let tid : c.follow.self.tid ≡ c.args.self.now.tid = c.follow.invariant.keeps.tid in
    record {
      same = search rules;
      faults = search rules;
      keeps = search rules;
      counted = search rules;
      seen = search rules;
      marks = λ told front later grown k.
          let here : HasGrown c.follow.self.tid front later (g.St.Store.state c.follow.store).list = subst (λ (l : List Transaction). HasGrown c.follow.self.tid front later l) (sym same) (subst (λ (t : ℕ). HasGrown t front later list) (sym tid) grown) in
          c.follow_next.ensures.marks told front later here (c.follow.invariant.marks told front later grown k);
      least = λ told before k.
          let follows : FollowsOne list c.follow.self c.follow_next.new.self c.in_ok-followed.followed = subst (λ (l : List Transaction). FollowsOne l c.follow.self c.follow_next.new.self c.in_ok-followed.followed) same (c.in_ok-followed.ensures.follows told) in
          subst (IsLeastFollowed list before c.follow_next.new.self) (sym c.lesser_some-least.ensures)
          (least_follows list before c.follow.self c.follow_next.new.self c.follow.least c.in_ok-followed.followed (c.follow.invariant.least told before k) c.follow_next.ensures.keeps.tid follows);
    }
