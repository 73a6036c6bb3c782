use Rattle.std.proofs.Common.{◌≡◌, ◌++◌, [], ◌∷◌, List, ap, sym, ◌∙◌, subst}
use Rattle.hub_clock.specs.declared.view.SeatView.{SeatView}
use Rattle.hub_clock.specs.Rules.{looker, without_session}
use Rattle.zodb_core.specs.History.{Entry, IsLegalOver, Opened}
use Rattle.zodb_core.specs.HubState.{rules_of}
use Rattle.hub_shared.specs.Seats.{HasLasted, LockKeeps, keeper}
use Rattle.hub_shared.proofs.Seats.{seen_all}
use Rattle.hub_shared.proofs.Lasting.{opening_lasted}
use Rattle.hub_shared.proofs.Steps.{opening_kept}
use Rattle.hub_shared.proofs.locked.LockedHub.enter.Goals as goal

whole : (g : _) (c : goal.After-part-2 g) → c.observe-count.new.seat.seen ≡ c.self.inside.seat.seen
whole g c = seen_all c.observe-count.result c.self.inside.seat c.args.seat c.join.new.seat c.observe-count.new.seat c.self.invariant.0.keeps c.join.ensures c.observe-count.ensures

kept : (g : _) (c : goal.After-part-2 g) → LockKeeps g.St.Store.told g.J.Origin.rules (rules_of g.R.Resolver.rules g.F.Refs.named c.open_session.new.self) g.J.Origin.list g.J.Origin.counts (keeper (c.self.inside.seat.seen ++ Opened c.in-Ok.session ∷ [])) c.open_session.new.self
kept g c = opening_kept g.St.Store.told g.R.Resolver.rules g.F.Refs.named g.J.Origin.rules g.J.Origin.list g.J.Origin.counts c.self.inside.seat c.self.inside.hub c.open_session.new.self c.in-Ok.session
    c.self.invariant.0 c.in-Ok.ensures.number c.in-Ok.ensures.room c.in-Ok.ensures.stands c.in-Ok.ensures.store c.in-Ok.ensures.resolver c.in-Ok.ensures.refs

lasted : (g : _) (c : goal.After-part-2 g)
    → HasLasted g.St.Store.lasts g.St.Store.told g.St.Store.stands g.J.Origin.rules g.J.Origin.list g.J.Origin.counts g.J.Origin.log g.J.Origin.broken (c.self.inside.seat.seen ++ Opened c.in-Ok.session ∷ []) c.open_session.new.self
lasted g c = opening_lasted g.St.Store.lasts g.St.Store.told g.St.Store.stands g.J.Origin.rules g.J.Origin.list g.J.Origin.counts g.J.Origin.log g.J.Origin.broken c.self.inside.seat.seen c.self.inside.hub c.open_session.new.self
    (Opened c.in-Ok.session) c.self.invariant.1 c.in-Ok.ensures.store

pub invariant_of-self-2 : goal.invariant_of-self-2
invariant_of-self-2 g c =
    let v : c.part-2.new.seat ≡ keeper (c.self.inside.seat.seen ++ Opened c.in-Ok.session ∷ []) =
    c.part-2.ensures.kept ∙ (ap without_session (c.copy-seen.ensures.kept ∙ c.post_opening.ensures) ∙ ap (λ (xs : List Entry). keeper (xs ++ Opened c.in-Ok.session ∷ [])) (whole g c)) in
    subst (λ (n : SeatView Entry). LockKeeps g.St.Store.told g.J.Origin.rules (rules_of g.R.Resolver.rules g.F.Refs.named c.open_session.new.self) g.J.Origin.list g.J.Origin.counts n c.open_session.new.self
    × HasLasted g.St.Store.lasts g.St.Store.told g.St.Store.stands g.J.Origin.rules g.J.Origin.list g.J.Origin.counts g.J.Origin.log g.J.Origin.broken n.seen c.open_session.new.self) (sym v) (kept g c, lasted g c)

pub returns-clause-legal : goal.returns-clause-legal
returns-clause-legal g c = λ told.
    let all : c.copy-seen.result.seen ≡ c.self.inside.seat.seen ++ Opened c.in-Ok.session ∷ [] =
    ap (λ (n : SeatView Entry). n.seen) (c.copy-seen.ensures.given ∙ ap looker c.post_opening.ensures) ∙ ap (λ (xs : List Entry). xs ++ Opened c.in-Ok.session ∷ []) (whole g c) in
    subst (λ (xs : List Entry). IsLegalOver g.J.Origin.rules g.J.Origin.list g.J.Origin.counts xs) (sym all) ((kept g c).legal told)
