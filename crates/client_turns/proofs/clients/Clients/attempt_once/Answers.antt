-- An attempt, and what follows it.
use Rattle.std.proofs.Common.{◌≡◌, ◌∙◌, ◌<◌, ℕ, List, Some, false, ap, inr, length, refl, subst, sym}
use Rattle.std.specs.Prelude.{slice_get}
use Rattle.tree_attempts.specs.Calls.{HasRead, IsAttempt}
use Rattle.connection_view.specs.Connections.{work_of}
use Rattle.zodb_core.specs.Outcomes.{NoMemory}
use Rattle.client_turns.specs.Gathering.{AdvancesTo, MayGather, MayGo, StandsGathering, objects_over, outcome_of_advance}
use Rattle.client_turns.specs.declared.member.Member.{Member}
use Rattle.client_turns.specs.Members.{is_lost}
use Rattle.client_turns.specs.OverQuestions.{ReadsLinked}
use Rattle.client_turns.specs.Trees.{Sees}
use Rattle.client_turns.proofs.Advancing.{sees_over, starves}
use Rattle.client_turns.proofs.Gathering.{over_agrees}
use Rattle.client_turns.proofs.Telling.{retold, still_linked}
use Rattle.client_turns.proofs.clients.Clients.attempt_once.Goals as goal

pub returns-then-is_lost_at-clause-advances : goal.returns-then-is_lost_at-clause-advances
returns-then-is_lost_at-clause-advances g c = λ told m gathers. starves m c.args.at c.args.root c.args.operation.now c.args.self.now _ c.args.known.now c.args.numbers.now.items gathers

pub returns-then-is_lost_at-clause-hub : goal.returns-then-is_lost_at-clause-hub
returns-then-is_lost_at-clause-hub g c = still_linked (g.St.Store.told × MayGather c.args.self.now (g.C.Clock.stamps c.args.clock.now) c.args.at c.args.root c.args.operation.now c.args.known.now c.args.numbers.now.items) g.St.Store.lasts g.St.Store.stands NoMemory (inr refl) c.args.self.now.hub

pub returns-in_default-clause-advances : goal.returns-in_default-clause-advances
returns-in_default-clause-advances g c = λ told m gathers.
    let gathered = subst (λ s. StandsGathering s (g.C.Clock.stamps c.args.clock.now) m c.args.at c.args.root c.args.operation.now c.args.known.now c.args.numbers.now.items) (sym c.attempt_at.ensures.same) gathers in
    starves m c.args.at c.args.root c.args.operation.now c.attempt_at.new.self _ c.args.known.now c.args.numbers.now.items gathered

pub returns-in_default-clause-hub : goal.returns-in_default-clause-hub
returns-in_default-clause-hub g c =
    subst (λ s. ReadsLinked (g.St.Store.told × MayGather c.args.self.now (g.C.Clock.stamps c.args.clock.now) c.args.at c.args.root c.args.operation.now c.args.known.now c.args.numbers.now.items) g.St.Store.lasts g.St.Store.stands NoMemory c.args.self.now.hub s.hub) (sym c.attempt_at.ensures.same)
    (still_linked (g.St.Store.told × MayGather c.args.self.now (g.C.Clock.stamps c.args.clock.now) c.args.at c.args.root c.args.operation.now c.args.known.now c.args.numbers.now.items) g.St.Store.lasts g.St.Store.stands NoMemory (inr refl) c.args.self.now.hub)

pub go_on-requires-clause-place : goal.go_on-requires-clause-place
go_on-requires-clause-place g c = subst (λ s. c.args.at < length s.clients) (sym c.attempt_at.ensures.same) c.requires.place

pub go_on-requires-clause-attempted : goal.go_on-requires-clause-attempted
go_on-requires-clause-attempted g c =
    let a = c.in-Ok.ensures.attempt in
    let objects = objects_over c.args.known.now c.args.self.now.hub.store.list (work_of a.0) in
    (objects, c.args.root, c.args.operation.now, subst (λ (ns : List ℕ). IsAttempt objects c.args.root c.args.operation.now ns c.in-Ok.attempt) c.as_slice-2.ensures.value a.2)

pub returns-clause-advances : goal.returns-clause-advances
returns-clause-advances g c = λ told m gathers.
    let a = c.in-Ok.ensures.attempt in
    let objects = objects_over c.args.known.now c.args.self.now.hub.store.list (work_of a.0) in
    let attempted = subst (λ (ns : List ℕ). IsAttempt objects c.args.root c.args.operation.now ns c.in-Ok.attempt) c.as_slice-2.ensures.value a.2 in
    let read = subst (λ (ns : List ℕ). HasRead c.args.known.now objects c.args.root c.args.operation.now ns c.in-Ok.attempt) c.as_slice-2.ensures.value a.3 in
    let held : (x : Member) → slice_get c.args.self.now.clients c.args.at ≡ Some x → is_lost x ≡ false =
    λ x there. sym (c.is_lost_at.ensures.lost x (ap (λ (xs : List Member). slice_get xs c.args.at) (c.as_slice.ensures.value ∙ ap (λ s. s.clients) c.self.view_is) ∙ there)) ∙ c.if-is_lost_at.false in
    subst (λ s. (gathers : StandsGathering s (g.C.Clock.stamps c.args.clock.now) m c.args.at c.args.root c.args.operation.now c.args.known.now c.args.numbers.now.items) → Sees m.machine gathers.transaction objects
    → AdvancesTo m c.args.at c.args.root c.args.operation.now c.go_on.new.self (g.C.Clock.stamps c.go_on.new.clock) c.go_on.new.known c.go_on.new.numbers.items c.go_on.result) c.attempt_at.ensures.same
    (λ gathered sees. c.go_on.ensures.advances objects c.args.root c.args.operation.now attempted read (over_agrees c.args.known.now c.args.self.now.hub.store.list (work_of a.0)) told m gathered sees)
    gathers (sees_over m c.args.at c.args.root c.args.operation.now c.args.self.now _ c.args.known.now c.args.numbers.now.items gathers a.0 a.1 held)

pub returns-clause-hub : goal.returns-clause-hub
returns-clause-hub g c =
    let a = c.in-Ok.ensures.attempt in
    let objects = objects_over c.args.known.now c.args.self.now.hub.store.list (work_of a.0) in
    let attempted = subst (λ (ns : List ℕ). IsAttempt objects c.args.root c.args.operation.now ns c.in-Ok.attempt) c.as_slice-2.ensures.value a.2 in
    let held : (x : Member) → slice_get c.args.self.now.clients c.args.at ≡ Some x → is_lost x ≡ false =
    λ x there. sym (c.is_lost_at.ensures.lost x (ap (λ (xs : List Member). slice_get xs c.args.at) (c.as_slice.ensures.value ∙ ap (λ s. s.clients) c.self.view_is) ∙ there)) ∙ c.if-is_lost_at.false in
    retold (g.St.Store.told × MayGo c.args.self.now (g.C.Clock.stamps c.args.clock.now) c.args.at c.args.known.now c.args.numbers.now.items (λ objects root op. IsAttempt objects root op c.args.numbers.now.items c.in-Ok.attempt)) g.St.Store.lasts g.St.Store.stands
    (g.St.Store.told × MayGather c.args.self.now (g.C.Clock.stamps c.args.clock.now) c.args.at c.args.root c.args.operation.now c.args.known.now c.args.numbers.now.items)
    (λ both. (both.0, (objects, c.args.root, c.args.operation.now, attempted, both.1.0, both.1.1, sees_over both.1.0 c.args.at c.args.root c.args.operation.now c.args.self.now _ c.args.known.now c.args.numbers.now.items both.1.1 a.0 a.1 held)))
    (outcome_of_advance c.go_on.result) c.args.self.now.hub c.go_on.new.self.hub
    (subst (λ s. ReadsLinked (g.St.Store.told × MayGo s (g.C.Clock.stamps c.args.clock.now) c.args.at c.args.known.now c.args.numbers.now.items (λ objects root op. IsAttempt objects root op c.args.numbers.now.items c.in-Ok.attempt)) g.St.Store.lasts g.St.Store.stands (outcome_of_advance c.go_on.result) s.hub c.go_on.new.self.hub) c.attempt_at.ensures.same c.go_on.ensures.hub)

pub returns-clause-kept : goal.returns-clause-kept
returns-clause-kept g c = c.go_on.ensures.kept ∙ ap (λ s. length s.clients) c.attempt_at.ensures.same
