use Rattle.std.proofs.Common.{◌≡◌, ◌-◌, ◌^◌, Err, ◌∙◌, refl, sym, ap, subst, arith}
use Rattle.std.proofs.lemmas.Result.{err_from_is_err_and}
use Rattle.pack_reach.specs.Marking.{IsComplete, IsMarkedWhole, IsMarking, MarkerState, MayMark}
use Rattle.pack_reach.specs.Outcomes.{IsAllMarked, IsMarked, readable_as}
use Rattle.pack_reach.proofs.Counting.{counted_all, counted_may, counted_whole, is_complete, refuses_all}
use Rattle.pack_reach.proofs.Finishing.{may_of}
use Rattle.pack_reach.proofs.Later.{marks_stand}
use Rattle.pack_reach.proofs.marker.Marker.mark_all.Goals as goal
use Rattle.pack_reach.proofs.marker.Marker.mark_all.Goals.{After-mark_ahead, In_ok-count}

-- the marks stand for the list
marks : (g : _) (c : After-mark_ahead g) → g.St.Store.told → IsMarking (g.F.Refs.named c.args.refs.now) (g.St.Store.state c.args.store.now).list c.mark_ahead.new.self
marks g c told =
    let list = (g.St.Store.state c.args.store.now).list in
    c.mark_ahead.ensures.marks told (marks_stand (g.F.Refs.named c.args.refs.now) list c.args.self.now (g.met.St.Store.database c.args.store.now told c.requires.whole) (c.requires.may_mark told))

-- all is marked
complete : (g : _) (c : In_ok-count g) → g.St.Store.told → IsComplete (g.St.Store.state c.args.store.now).list c.mark_ahead.new.self
complete g c told = is_complete (2 ^ 64 - 1) (g.St.Store.state c.args.store.now).list c.mark_ahead.new.self (c.in_ok-count.ensures.all told) (omega (arith, c.in_ok-count.ensures.count, c.in_ok-count.ensures.bound))

pub returns-in_err-count-clause-may_mark : goal.returns-in_err-count-clause-may_mark
returns-in_err-count-clause-may_mark g c = λ told. may_of _ _ _ (marks g (goal.at.returns-in_err-count-clause-may_mark g c).After-mark_ahead told)

pub returns-in_err-readable-clause-marked : goal.returns-in_err-readable-clause-marked
returns-in_err-readable-clause-marked g c = λ told.
    let at = goal.at.returns-in_err-readable-clause-marked g c in
    let m = c.mark_ahead.new.self in
    let p = err_from_is_err_and c.from_residual-in_err-readable.result c.from_residual-in_err-readable.ensures.1 in
    let why : readable_as m.unreadable ≡ Err p.0 = sym c.readable.ensures ∙ c.in_err-readable.was ∙ ap Err (sym p.2) in
    subst (IsMarked (g.F.Refs.named c.args.refs.now) (g.St.Store.state c.args.store.now).list m) (sym p.1) (refuses_all _ _ m m.unreadable p.0 (marks g at.After-mark_ahead told) (complete g at.In_ok-count told) refl why)

pub returns-clause-whole : goal.returns-clause-whole
returns-clause-whole g c = λ told.
    let at = goal.at.returns-clause-whole g c in
    subst (λ (s : MarkerState). IsMarkedWhole (g.F.Refs.named c.args.refs.now) (g.St.Store.state c.args.store.now).list (record s { counted = c.in_ok-count.count })) (sym c.self.view_is)
    (counted_whole _ _ _ c.in_ok-count.count _ (marks g at.After-mark_ahead told) (complete g at.In_ok-count told) (sym c.readable.ensures ∙ c.in_ok-readable.was))

pub returns-in_err-readable-clause-may_mark : goal.returns-in_err-readable-clause-may_mark
returns-in_err-readable-clause-may_mark g c = λ told. may_of _ _ _ (marks g (goal.at.returns-in_err-readable-clause-may_mark g c).After-mark_ahead told)

pub returns-clause-marked : goal.returns-clause-marked
returns-clause-marked g c = λ told.
    let at = goal.at.returns-clause-marked g c in
    let count = c.in_ok-count.count in
    subst (λ (s : MarkerState). IsAllMarked (g.F.Refs.named c.args.refs.now) (g.St.Store.state c.args.store.now).list (record s { counted = count }) count) (sym c.self.view_is)
    (counted_all _ _ _ count _ (marks g at.After-mark_ahead told) (complete g at.In_ok-count told) c.in_ok-count.ensures.count (sym c.readable.ensures ∙ c.in_ok-readable.was))

pub returns-clause-may_mark : goal.returns-clause-may_mark
returns-clause-may_mark g c = λ told.
    subst (λ (s : MarkerState). MayMark (g.F.Refs.named c.args.refs.now) (g.St.Store.state c.args.store.now).list (record s { counted = c.in_ok-count.count })) (sym c.self.view_is)
    (counted_may _ _ _ c.in_ok-count.count (marks g (goal.at.returns-clause-may_mark g c).After-mark_ahead told))
