use Rattle.std.proofs.Common.{◌≡◌, ◌+◌, List, ◌++◌, [], ◌∷◌, length, refl, ap, sym, ◌∙◌, subst, inl}
use Rattle.hub_clock.specs.declared.view.SeatView.{SeatView}
use Rattle.hub_clock.specs.Rules.{without_pen, without_session}
use Rattle.zodb_core.specs.declared.request.Request.{Request}
use Rattle.zodb_core.specs.Entries.{free_votes_are_served, steps_have_room}
use Rattle.zodb_core.specs.History.{Entry, IsLegalOver, entry_made, stamp_if_read}
use Rattle.zodb_core.specs.HubState.{counts_of, rules_of}
use Rattle.zodb_core.specs.Outcomes.{is_pack}
use Rattle.hub_shared.specs.Seats.{HasLasted, LockKeeps, LockedState, keeper, machine_of, waits_for}
use Rattle.hub_shared.proofs.Seats.{TakenIn, holder, room_left, taken_in, was_opened}
use Rattle.hub_shared.proofs.Lasting.{step_lasted}
use Rattle.hub_shared.proofs.Steps.{step_kept}
use Rattle.hub_shared.proofs.Waiting.{served}
use Rattle.hub_shared.proofs.locked.LockedHub.call.Goals as goal

took : (g : _) (c : goal.After-part-2 g) → TakenIn c.args.session c.observe-count.result c.args.seat c.observe-count.new.seat c.self.inside.seat.seen
took g c = taken_in c.args.session c.observe-count.result c.self.inside.seat c.args.seat c.join.new.seat c.observe-count.new.seat c.self.invariant.0.keeps c.requires.seat.1 c.join.ensures c.observe-count.ensures

-- the history that the seat has seen is that of the lock
whole : (g : _) (c : goal.After-part-2 g) → c.observe-count.new.seat.seen ≡ c.self.inside.seat.seen
whole g c = ap (λ (n : SeatView Entry). n.seen) (took g c).is

pub post_step-requires : goal.post_step-requires
post_step-requires g c =
    let steps = c.step-reply.ensures.clock in
    let taken = taken_in c.args.session c.observe-count.result c.self.inside.seat c.args.seat c.join.new.seat c.observe-count.new.seat c.self.invariant.0.keeps c.requires.seat.1 c.join.ensures c.observe-count.ensures in
    let now = rules_of g.R.Resolver.rules g.F.Refs.named c.step-reply.new.self in
    let seen = c.observe-count.new.seat.seen in
    let front = c.self.inside.seat.seen in
    let counts = counts_of c.step-reply.new.self.store in
    let e = λ (q : Request). entry_made c.args.session q steps.ticks steps.stamp c.step-reply.result counts in
    let Keeps = λ (xs : List Entry). LockKeeps g.St.Store.told g.J.Origin.rules now g.J.Origin.list g.J.Origin.counts (keeper xs) c.step-reply.new.self in
    let kept = step_kept g.St.Store.told g.R.Resolver.rules g.F.Refs.named g.J.Origin.rules g.J.Origin.list g.J.Origin.counts c.self.inside.seat c.self.inside.hub c.step-reply.new.self (is_pack c.args.request)
    c.args.session c.args.request c.step-reply.result _ _ c.self.invariant.0
    (was_opened c.args.session c.args.seat.last (length c.self.inside.hub.sessions) front taken.last c.self.invariant.0.idle) c.step-reply.ensures.safe steps in
    let lasted = step_lasted g.St.Store.lasts g.St.Store.told g.St.Store.stands (rules_of g.R.Resolver.rules g.F.Refs.named c.self.inside.hub) g.J.Origin.rules g.J.Origin.list g.J.Origin.counts
    g.J.Origin.log g.J.Origin.broken front c.self.inside.hub c.step-reply.new.self (is_pack c.args.request)
    (record { session = c.args.session; request = c.args.request; stamp = stamp_if_read steps.ticks steps.stamp; reply = c.step-reply.result; counts = counts }) c.step-reply.result
    c.self.invariant.1 c.step-reply.ensures.safe (λ broken. (c.step-reply.ensures.failed broken).1) c.self.invariant.0.rules_are c.self.invariant.0.stands c.step-reply.ensures.any_moment in
    let Lasts = λ (xs : List Entry). HasLasted g.St.Store.lasts g.St.Store.told g.St.Store.stands g.J.Origin.rules g.J.Origin.list g.J.Origin.counts g.J.Origin.log g.J.Origin.broken xs c.step-reply.new.self in
    let one = sym (ap (λ (n : SeatView Entry). n.seen ++ e g.Q.Asked.request ∷ []) taken.is ∙ ap (λ (q : Request). front ++ e q ∷ []) c.requires.named) in
    record {
      named = λ e is. is;
      next = record {
        pen = ap (λ (n : SeatView Entry). n.has_pen) taken.is;
        length_is = ap (λ k. k + 1) (taken.length_is ∙ ap length (sym (ap (λ (n : SeatView Entry). n.seen) taken.is)));
        entry = e g.Q.Asked.request;
        fits = record {
          ticks = steps.ticks;
          stamp = steps.stamp;
          is = refl;
          keeps = subst Keeps one kept;
          has_lasted = subst Lasts one lasted;
        };
        by = inl (ap (λ (n : SeatView Entry). n.session) taken.is);
      };
    }

pub invariant_of-self-2 : goal.invariant_of-self-2
invariant_of-self-2 g c =
    let made = c.post_step.ensures in
    let v : c.part-2.new.seat ≡ keeper (c.observe-count.new.seat.seen ++ made.entry ∷ []) = c.part-2.ensures.kept ∙ ap without_session made.is in
    subst (λ (n : SeatView Entry). LockKeeps g.St.Store.told g.J.Origin.rules (rules_of g.R.Resolver.rules g.F.Refs.named c.step-reply.new.self) g.J.Origin.list g.J.Origin.counts n c.step-reply.new.self
    × HasLasted g.St.Store.lasts g.St.Store.told g.St.Store.stands g.J.Origin.rules g.J.Origin.list g.J.Origin.counts g.J.Origin.log g.J.Origin.broken n.seen c.step-reply.new.self) (sym v)
    (made.posted.keeps, made.posted.has_lasted)

pub returns-clause-called : goal.returns-clause-called
returns-clause-called g c =
    let made = c.post_step.ensures in
    let p = made.posted in
    let front = c.self.inside.seat.seen in
    let seen = c.observe-count.new.seat.seen in
    let w : c.part-2.result ≡ holder c.args.session (length seen) (seen ++ made.entry ∷ []) = c.part-2.ensures.given ∙ ap without_pen made.is in
    record {
      front = front;
      begins = (took g c).begins;
      last = (took g c).last;
      session = refl;
      ends = inl (record {
        stamp = stamp_if_read p.ticks p.stamp;
        counts = counts_of c.step-reply.new.self.store;
        seen = ap (λ (n : SeatView Entry). n.seen) w ∙ (ap (λ (xs : List Entry). xs ++ made.entry ∷ []) (whole g c) ∙ (ap (λ (e : Entry). front ++ e ∷ []) p.is
            ∙ ap (λ (q : Request). front ++ entry_made c.args.session q p.ticks p.stamp c.step-reply.result (counts_of c.step-reply.new.self.store) ∷ []) c.requires.named));
        last = ap (λ (n : SeatView Entry). n.last) w ∙ ap length (whole g c);
        room = room_left c.observe-count.result front (took g c).length_is c.if-count.false c.observe-count.type_inv;
        not_spent = λ told is.
            let m = machine_of g.J.Origin.rules g.J.Origin.list front in
            let makes = c.step-reply.ensures.step told m (c.self.invariant.0.stands told) in
            steps_have_room _ m c.args.session c.args.request makes.stamp _ _ _ makes.made is;
      });
      legal = λ told. subst (λ xs. IsLegalOver g.J.Origin.rules g.J.Origin.list g.J.Origin.counts xs) (sym (ap (λ (n : SeatView Entry). n.seen) w)) (p.keeps.legal told);
    }

pub returns-clause-busy : goal.returns-clause-busy
returns-clause-busy g c told free needs holder is =
    let m = machine_of g.J.Origin.rules g.J.Origin.list c.self.inside.seat.seen in
    let makes = c.step-reply.ensures.step told m (c.self.invariant.0.stands told) in
    free_votes_are_served _ m c.args.session c.args.request makes.stamp _ _ _ makes.made needs
    (served c.self.inside.hub m c.args.session (c.self.invariant.0.stands told) (ap (λ (d : LockedState _ _). waits_for d.hub c.args.session) c.self.view_is ∙ free)) holder is
