use Rattle.std.proofs.Common.{◌≡◌, ◌+◌, ◌<◌, ◌≤◌, true, Err, ◌∙◌, refl, sym, ap, subst, arith}
use Rattle.std.proofs.lemmas.Result.{err_from_is_err_and}
use Rattle.std.specs.FinSet.{len}
use Rattle.pack_reach.specs.Marking.{IsComplete, IsMarkedWhole, IsMarking, MarkerState, MayMark}
use Rattle.pack_reach.specs.Outcomes.{IsLastTurn, IsMarkTurn, IsMoreLeft, IsTurnMarked, readable_as}
use Rattle.pack_reach.specs.Packed.{marks_a_turn}
use Rattle.pack_reach.proofs.Counting.{counted_all, counted_may, counted_whole, is_complete, last_turn, more_left, refuses_turn}
use Rattle.pack_reach.proofs.Finishing.{may_of}
use Rattle.pack_reach.proofs.Later.{marks_stand}
use Rattle.pack_reach.proofs.marker.Marker.mark_turn.Goals as goal
use Rattle.pack_reach.proofs.marker.Marker.mark_turn.Goals.{After-mark_ahead, After-readable}

-- the marks stand for the list
marks : (g : _) (c : After-mark_ahead g) → g.St.Store.told → IsMarking (g.F.Refs.named c.args.refs.now) (g.St.Store.state c.args.store.now).list c.mark_ahead.new.self
marks g c told =
    let list = (g.St.Store.state c.args.store.now).list in
    c.mark_ahead.ensures.marks told (marks_stand (g.F.Refs.named c.args.refs.now) list c.args.self.now (g.met.St.Store.database c.args.store.now told c.requires.whole) (c.requires.may_mark told))

-- ---- a turn that isn't the last

pub returns-then-limit-count-clause-turn : goal.returns-then-limit-count-clause-turn
returns-then-limit-count-clause-turn g c = λ told.
    let m = c.mark_ahead.new.self in
    let before = c.args.self.now.counted in
    let limit = c.saturating_add-limit.result in
    let counted : c.self.inside.counted ≡ before = ap (λ (s : MarkerState). s.counted) c.self.view_is in
    let is : limit ≡ before + marks_a_turn = omega (arith, c.saturating_add-limit.ensures, counted, c.in_ok-count.ensures.bound, c.if-limit-count.true) in
    let past : limit < len m.set = omega (arith, c.in_ok-count.ensures.count, c.if-limit-count.true) in
    let k = marks g (goal.at.returns-then-limit-count-clause-turn g c).After-mark_ahead told in
    (subst (λ (s : MarkerState). IsMoreLeft (g.F.Refs.named c.args.refs.now) (g.St.Store.state c.args.store.now).list before s) (sym c.self-2.view_is) (more_left _ _ m before limit k is past), is)

pub returns-then-limit-count-clause-may_mark : goal.returns-then-limit-count-clause-may_mark
returns-then-limit-count-clause-may_mark g c = λ told.
    subst (λ (s : MarkerState). MayMark (g.F.Refs.named c.args.refs.now) (g.St.Store.state c.args.store.now).list (record s { counted = c.saturating_add-limit.result })) (sym c.self-2.view_is)
    (counted_may _ _ _ c.saturating_add-limit.result (marks g (goal.at.returns-then-limit-count-clause-may_mark g c).After-mark_ahead told))

-- ---- the last turn

within : (g : _) (c : After-readable g) → len c.mark_ahead.new.self.set ≤ c.saturating_add-limit.result
within g c = omega (arith, c.in_ok-count.ensures.count, c.if-limit-count.false)

complete : (g : _) (c : After-readable g) → g.St.Store.told → IsComplete (g.St.Store.state c.args.store.now).list c.mark_ahead.new.self
complete g c told = is_complete c.saturating_add-limit.result (g.St.Store.state c.args.store.now).list c.mark_ahead.new.self (c.in_ok-count.ensures.all told) (within g c)

last : (g : _) (c : After-readable g) → g.St.Store.told → IsMarking (g.F.Refs.named c.args.refs.now) (g.St.Store.state c.args.store.now).list c.mark_ahead.new.self
    → IsLastTurn (g.F.Refs.named c.args.refs.now) (g.St.Store.state c.args.store.now).list c.args.self.now.counted c.mark_ahead.new.self
last g c told k =
    let counted : c.self.inside.counted ≡ c.args.self.now.counted = ap (λ (s : MarkerState). s.counted) c.self.view_is in
    last_turn _ _ c.mark_ahead.new.self c.args.self.now.counted c.saturating_add-limit.result k (complete g c told) (within g c) (omega (arith, c.saturating_add-limit.ensures, counted))

pub returns-in_err-readable-clause-turn : goal.returns-in_err-readable-clause-turn
returns-in_err-readable-clause-turn g c = λ told.
    let at = goal.at.returns-in_err-readable-clause-turn g c in
    let m = c.mark_ahead.new.self in
    let k = marks g at.After-mark_ahead told in
    let p = err_from_is_err_and c.from_residual-in_err-readable.result c.from_residual-in_err-readable.ensures.1 in
    let why : readable_as m.unreadable ≡ Err p.0 = sym c.readable.ensures ∙ c.in_err-readable.was ∙ ap Err (sym p.2) in
    subst (IsMarkTurn (g.F.Refs.named c.args.refs.now) (g.St.Store.state c.args.store.now).list c.args.self.now.counted m) (sym p.1) (refuses_turn _ _ m c.args.self.now.counted m.unreadable p.0 k (complete g at.After-readable told) (last g at.After-readable told k) refl why)

pub returns-clause-turn : goal.returns-clause-turn
returns-clause-turn g c = λ told.
    let at = goal.at.returns-clause-turn g c in
    let count = c.in_ok-count.count in
    let k = marks g at.After-mark_ahead told in
    subst (λ (s : MarkerState). IsTurnMarked (g.F.Refs.named c.args.refs.now) (g.St.Store.state c.args.store.now).list c.args.self.now.counted (record s { counted = count }) true count) (sym c.self-2.view_is)
    (last g at.After-readable told k, counted_all _ _ c.mark_ahead.new.self count _ k (complete g at.After-readable told) c.in_ok-count.ensures.count (sym c.readable.ensures ∙ c.in_ok-readable.was))

pub returns-clause-whole : goal.returns-clause-whole
returns-clause-whole g c = λ told is.
    let at = goal.at.returns-clause-whole g c in
    subst (λ (s : MarkerState). IsMarkedWhole (g.F.Refs.named c.args.refs.now) (g.St.Store.state c.args.store.now).list (record s { counted = c.in_ok-count.count })) (sym c.self-2.view_is)
    (counted_whole _ _ _ c.in_ok-count.count _ (marks g at.After-mark_ahead told) (complete g at.After-readable told) (sym c.readable.ensures ∙ c.in_ok-readable.was))

pub returns-clause-may_mark : goal.returns-clause-may_mark
returns-clause-may_mark g c = λ told.
    subst (λ (s : MarkerState). MayMark (g.F.Refs.named c.args.refs.now) (g.St.Store.state c.args.store.now).list (record s { counted = c.in_ok-count.count })) (sym c.self-2.view_is)
    (counted_may _ _ _ c.in_ok-count.count (marks g (goal.at.returns-clause-may_mark g c).After-mark_ahead told))

-- ---- refusals

pub returns-in_err-count-clause-may_mark : goal.returns-in_err-count-clause-may_mark
returns-in_err-count-clause-may_mark g c = λ told. may_of _ _ _ (marks g (goal.at.returns-in_err-count-clause-may_mark g c).After-mark_ahead told)

pub returns-in_err-readable-clause-may_mark : goal.returns-in_err-readable-clause-may_mark
returns-in_err-readable-clause-may_mark g c = λ told. may_of _ _ _ (marks g (goal.at.returns-in_err-readable-clause-may_mark g c).After-mark_ahead told)
