-- What a call is going to read besides.
use Rattle.std.proofs.Common.{◌≡◌, ◌∙◌, ℕ, List, [], Some, false, ap, inr, refl, subst, sym}
use Rattle.std.specs.Prelude.{All, slice_get}
use Rattle.zodb_core.specs.Outcomes.{NoMemory}
use Rattle.client_turns.specs.declared.member.Member.{Member}
use Rattle.client_turns.specs.Gathering.{IsAskedOf, MayGather, MayLearnAll, StandsGathering, outcome_of_advance}
use Rattle.client_turns.specs.Clients.{Moment}
use Rattle.client_turns.specs.Members.{is_lost}
use Rattle.client_turns.proofs.Advancing.{ahead_asked, seen_here, starves}
use Rattle.client_turns.proofs.Telling.{retold, still_linked}
use Rattle.client_turns.proofs.clients.Clients.look_ahead.Goals as goal

pub returns-then-is_lost_at-clause-advances : goal.returns-then-is_lost_at-clause-advances
returns-then-is_lost_at-clause-advances g c = λ told m gathers. starves m c.args.at c.args.root c.args.operation.now c.args.self.now _ c.args.known.now [] gathers

pub returns-then-is_lost_at-clause-hub : goal.returns-then-is_lost_at-clause-hub
returns-then-is_lost_at-clause-hub g c = still_linked (g.St.Store.told × MayGather c.args.self.now (g.C.Clock.stamps c.args.clock.now) c.args.at c.args.root c.args.operation.now c.args.known.now []) g.St.Store.lasts g.St.Store.stands NoMemory (inr refl) c.args.self.now.hub

pub returns-in-Err-clause-advances : goal.returns-in-Err-clause-advances
returns-in-Err-clause-advances g c = λ told m gathers. starves m c.args.at c.args.root c.args.operation.now c.args.self.now _ c.args.known.now [] gathers

pub returns-in-Err-clause-hub : goal.returns-in-Err-clause-hub
returns-in-Err-clause-hub g c = still_linked (g.St.Store.told × MayGather c.args.self.now (g.C.Clock.stamps c.args.clock.now) c.args.at c.args.root c.args.operation.now c.args.known.now []) g.St.Store.lasts g.St.Store.stands NoMemory (inr refl) c.args.self.now.hub

pub returns-in-Ok-clause-advances : goal.returns-in-Ok-clause-advances
returns-in-Ok-clause-advances g c = λ told m gathers.
    let held : (x : Member) → slice_get c.args.self.now.clients c.args.at ≡ Some x → is_lost x ≡ false =
    λ x there. sym (c.is_lost_at.ensures.lost x (ap (λ (xs : List Member). slice_get xs c.args.at) (c.as_slice.ensures.value ∙ ap (λ s. s.clients) c.self.view_is) ∙ there)) ∙ c.if-is_lost_at.false in
    let seen = seen_here m c.args.at c.args.root c.args.operation.now c.args.self.now _ c.args.known.now [] gathers held in
    let asked : All (IsAskedOf m c.args.at c.args.root c.args.operation.now) c.in-Ok.oids =
    ahead_asked m c.args.at c.args.root c.args.operation.now c.args.self.now _ c.args.known.now [] gathers seen.0 seen.2 c.in-Ok.oids (c.in-Ok.ensures.read seen.0 seen.1) in
    c.learn_all.ensures.advances c.args.root c.args.operation.now told m gathers
    (subst (λ (oids : List ℕ). All (IsAskedOf m c.args.at c.args.root c.args.operation.now) oids) (sym c.as_slice-in-Ok.ensures) asked)

pub returns-in-Ok-clause-hub : goal.returns-in-Ok-clause-hub
returns-in-Ok-clause-hub g c =
    let held : (x : Member) → slice_get c.args.self.now.clients c.args.at ≡ Some x → is_lost x ≡ false =
    λ x there. sym (c.is_lost_at.ensures.lost x (ap (λ (xs : List Member). slice_get xs c.args.at) (c.as_slice.ensures.value ∙ ap (λ s. s.clients) c.self.view_is) ∙ there)) ∙ c.if-is_lost_at.false in
    retold (g.St.Store.told × MayLearnAll c.args.self.now (g.C.Clock.stamps c.args.clock.now) c.args.at c.args.known.now c.as_slice-in-Ok.result.now) g.St.Store.lasts g.St.Store.stands
    (g.St.Store.told × MayGather c.args.self.now (g.C.Clock.stamps c.args.clock.now) c.args.at c.args.root c.args.operation.now c.args.known.now [])
    (λ both.
    let m : Moment = both.1.0 in
    let gathers : StandsGathering c.args.self.now (g.C.Clock.stamps c.args.clock.now) m c.args.at c.args.root c.args.operation.now c.args.known.now [] = both.1.1 in
    let seen = seen_here m c.args.at c.args.root c.args.operation.now c.args.self.now _ c.args.known.now [] gathers held in
    let asked : All (IsAskedOf m c.args.at c.args.root c.args.operation.now) c.in-Ok.oids =
    ahead_asked m c.args.at c.args.root c.args.operation.now c.args.self.now _ c.args.known.now [] gathers seen.0 seen.2 c.in-Ok.oids (c.in-Ok.ensures.read seen.0 seen.1) in
    (both.0, (c.args.root, c.args.operation.now, m, gathers, subst (λ (oids : List ℕ). All (IsAskedOf m c.args.at c.args.root c.args.operation.now) oids) (sym c.as_slice-in-Ok.ensures) asked)))
    (outcome_of_advance c.learn_all.result) c.args.self.now.hub c.learn_all.new.self.hub c.learn_all.ensures.hub
