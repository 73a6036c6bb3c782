use Rattle.std.proofs.Common.{◌≡◌, ◌+◌, List, ap, sym, ◌∙◌, subst}
use Rattle.hub_clock.specs.declared.view.SeatView.{SeatView}
use Rattle.zodb_core.specs.Entries.{legal_begins}
use Rattle.zodb_core.specs.History.{Entry, IsLegalOver}
use Rattle.zodb_core.specs.HubState.{HubState, StandsForMachine}
use Rattle.zodb_core.specs.Machine.{machine_over}
use Rattle.hub_shared.specs.declared.heard.Heard.TheVariants as heard
use Rattle.hub_shared.specs.Calls.{IsHeard}
use Rattle.hub_shared.specs.Seats.{LockedState, is_quiet_for, machine_of}
use Rattle.hub_shared.proofs.Waiting.{heard_news, open_whole}
use Rattle.hub_shared.proofs.locked.LockedHub.hear.Goals as goal

pub newest-requires : goal.newest-requires
newest-requires g c = record { whole = open_whole c.self.inside.hub.store.broken c.self.inside.hub.sessions c.args.session (sym c.if-not-is_open.ensures.value) }

pub returns-in-Ok-clause-heard : goal.returns-in-Ok-clause-heard
returns-in-Ok-clause-heard g c told quiet =
    let there = sym c.if-not-is_open.ensures.value in
    let now = c.refresh-in-Ok.new.self in
    let same : now.hub ≡ c.self.inside.hub = ap (λ (d : LockedState _ _). d.hub) (c.refresh-in-Ok.ensures.same ∙ sym c.self.view_is) in
    let stands = subst (λ (h : HubState _ _). StandsForMachine h (machine_of g.J.Origin.rules g.J.Origin.list now.seen)) same (c.refresh-in-Ok.ensures.stands told) in
    subst (λ (xs : List Entry). IsHeard (machine_of g.J.Origin.rules g.J.Origin.list xs) c.args.session c.args.told c.entries-now.result (heard.News c.in-Ok.news (c.front.inside.0 + 1)))
    (sym (ap (λ (v : SeatView Entry). v.seen) c.refresh-in-Ok.ensures.seen))
    (heard_news c.self.inside.hub (machine_of g.J.Origin.rules g.J.Origin.list now.seen) c.args.session c.args.told c.entries-now.result (c.front.inside.0 + 1) c.in-Ok.news stands there
    (ap (λ (d : LockedState _ _). is_quiet_for d.hub c.args.session c.args.told) c.self.view_is ∙ quiet) c.in-Ok.ensures c.entries-now.ensures
    (ap (λ n. n + 1) (c.front.view_is ∙ c.newest.ensures.value told)))

pub returns-in-Err-clause-legal : goal.returns-in-Err-clause-legal
returns-in-Err-clause-legal g c told =
    let p = c.refresh-copied.ensures.begins in
    subst (λ (xs : List Entry). IsLegalOver g.J.Origin.rules g.J.Origin.list g.J.Origin.counts xs)
    (ap (λ (v : SeatView Entry). v.seen) c.copy-copied.ensures.given ∙ sym (ap (λ (v : SeatView Entry). v.seen) c.copy-copied.ensures.kept))
    (legal_begins g.J.Origin.rules (machine_over g.J.Origin.list) g.J.Origin.counts c.copy-copied.result.seen p.0
    (subst (λ (xs : List Entry). IsLegalOver g.J.Origin.rules g.J.Origin.list g.J.Origin.counts xs) (sym p.1) (c.refresh-copied.ensures.legal told)))
