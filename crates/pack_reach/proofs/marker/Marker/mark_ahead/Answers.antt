use Rattle.std.proofs.Common.{◌≡◌, ◌<◌, ◌⊎◌, [], List, sym, ap, subst, ◌∙◌}
use Rattle.std.specs.FinSet.{len}
use Rattle.zb_model.specs.declared.data.Transaction.{Transaction}
use Rattle.zb_model.specs.Stores.{StoreState}
use Rattle.pack_reach.specs.Marking.{HasGrown, IsComplete, IsMarking, KeepsMarks, MarkerState}
use Rattle.pack_reach.proofs.Counting.{marked_all}
use Rattle.pack_reach.proofs.Finishing.{root_marking, root_keeps, keeps_then, same_grown}
use Rattle.pack_reach.proofs.marker.Marker.mark_ahead.Goals as goal
use Rattle.pack_reach.proofs.marker.Marker.mark_ahead.Goals.{After-follow_all, After-mark_later}

-- ---- the marks once the transactions above the pack's tid are read

same_list : (g : _) (c : After-mark_later g) → (g.St.Store.state c.follow_some.new.store).list ≡ (g.St.Store.state c.args.store.now).list
same_list g c = ap (λ (s : StoreState). s.list) c.follow_some.ensures.read.same

later : (g : _) (c : After-mark_later g) → g.St.Store.told → IsMarking (g.F.Refs.named c.args.refs.now) (g.St.Store.state c.args.store.now).list c.args.self.now
    → IsMarking (g.F.Refs.named c.args.refs.now) (g.St.Store.state c.args.store.now).list c.mark_later.new.self
later g c told k =
    let named = g.F.Refs.named c.args.refs.now in
    let list = (g.St.Store.state c.args.store.now).list in
    let rooted = root_marking named list c.follow_some.new.self c.mark.new.self (c.follow_some.ensures.marks told k) c.in_ok-mark.ensures.ok in
    subst (λ (l : List Transaction). IsMarking named l c.mark_later.new.self) (same_list g c)
    (c.mark_later.ensures.marks told (subst (λ (l : List Transaction). IsMarking named l c.mark.new.self) (sym (same_list g c)) rooted))

later_keeps : (g : _) (c : After-mark_later g) → KeepsMarks c.args.self.now c.mark_later.new.self
later_keeps g c =
    keeps_then c.args.self.now c.follow_some.new.self c.mark_later.new.self c.follow_some.ensures.keeps
    (keeps_then c.follow_some.new.self c.mark.new.self c.mark_later.new.self (root_keeps c.follow_some.new.self c.mark.new.self c.in_ok-mark.ensures.ok) c.mark_later.ensures.keeps)

-- ---- and once the objects that wait are followed

followed : (g : _) (c : After-follow_all g) → g.St.Store.told → IsMarking (g.F.Refs.named c.args.refs.now) (g.St.Store.state c.args.store.now).list c.mark_later.new.self
    → IsMarking (g.F.Refs.named c.args.refs.now) (g.St.Store.state c.args.store.now).list c.follow_all.new.self
followed g c told k =
    let list = (g.St.Store.state c.args.store.now).list in
    let same : (g.St.Store.state c.mark_later.new.store).list ≡ list = ap (λ (s : StoreState). s.list) c.mark_later.ensures.read.same ∙ ap (λ (s : StoreState). s.list) c.follow_some.ensures.read.same in
    c.follow_all.ensures.marks told list [] (subst (HasGrown c.mark_later.new.self.tid list []) (sym same) (same_grown c.mark_later.new.self.tid list)) k

-- ---- the clauses

pub returns-in_err-mark-clause-marks : goal.returns-in_err-mark-clause-marks
returns-in_err-mark-clause-marks g c = λ told k.
    subst (λ (m : MarkerState). IsMarking (g.F.Refs.named c.args.refs.now) (g.St.Store.state c.args.store.now).list m) (sym c.in_err-mark.ensures.err) (c.follow_some.ensures.marks told k)

pub returns-in_err-mark_later-clause-marks : goal.returns-in_err-mark_later-clause-marks
returns-in_err-mark_later-clause-marks g c = λ told k. later g (goal.at.returns-in_err-mark_later-clause-marks g c).After-mark_later told k

pub returns-in_err-mark_later-clause-keeps : goal.returns-in_err-mark_later-clause-keeps
returns-in_err-mark_later-clause-keeps g c = later_keeps g (goal.at.returns-in_err-mark_later-clause-keeps g c).After-mark_later

pub returns-in_err-follow_all-clause-marks : goal.returns-in_err-follow_all-clause-marks
returns-in_err-follow_all-clause-marks g c = λ told k.
    let at = goal.at.returns-in_err-follow_all-clause-marks g c in
    followed g at.After-follow_all told (later g at.After-mark_later told k)

pub returns-in_err-follow_all-clause-keeps : goal.returns-in_err-follow_all-clause-keeps
returns-in_err-follow_all-clause-keeps g c =
    keeps_then c.args.self.now c.mark_later.new.self c.follow_all.new.self (later_keeps g (goal.at.returns-in_err-follow_all-clause-keeps g c).After-mark_later) c.follow_all.ensures.keeps

pub returns-clause-marks : goal.returns-clause-marks
returns-clause-marks g c = λ told k.
    let at = goal.at.returns-clause-marks g c in
    followed g at.After-follow_all told (later g at.After-mark_later told k)

pub returns-clause-all : goal.returns-clause-all
returns-clause-all g c = λ told.
    subst (λ (l : List Transaction). (c.args.limit < len c.follow_all.new.self.set) ⊎ IsComplete l c.follow_all.new.self) (same_list g (goal.at.returns-clause-all g c).After-mark_later)
    (marked_all c.args.limit (g.St.Store.state c.follow_some.new.store).list c.follow_some.new.self c.mark.new.self c.mark_later.new.self c.follow_all.new.self c.in_ok-mark.ensures.ok c.mark_later.ensures.keeps c.follow_all.ensures.keeps (c.in_ok-mark_later.ensures.all told) c.follow_all.ensures.seen
    c.in_ok-follow_all.ensures.all)

pub returns-clause-keeps : goal.returns-clause-keeps
returns-clause-keeps g c =
    keeps_then c.args.self.now c.mark_later.new.self c.follow_all.new.self (later_keeps g (goal.at.returns-clause-keeps g c).After-mark_later) c.follow_all.ensures.keeps
