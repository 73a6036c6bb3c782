-- What follows an attempt.
use Rattle.std.proofs.Common.{◌≡◌, ℕ, List, [], inl, refl, subst, sym}
use Rattle.tree_attempts.specs.Calls.{HasRead, IsAttempt}
use Rattle.zodb_core.specs.Outcomes.{Answered, outcome_of_refusal}
use Rattle.client_turns.specs.Gathering.{AdvancesTo, MayGo, MayLearn, StandsGathering, outcome_of_advance}
use Rattle.client_turns.specs.Standing.{MayReadFor}
use Rattle.client_turns.proofs.Advancing.{made_on, reads_for, refused_calm, refused_on, want_asked}
use Rattle.client_turns.proofs.Telling.{retold, still_linked}
use Rattle.client_turns.proofs.clients.Clients.go_on.Goals as goal

pub returns-in-Made-clause-advances : goal.returns-in-Made-clause-advances
returns-in-Made-clause-advances g c = λ objects root op attempted read agrees told m gathers sees.
    made_on m c.args.at root op c.args.self.now _ c.args.known.now c.args.numbers.now.items gathers objects c.in-Made.made sees agrees
    (subst (HasRead c.args.known.now objects root op c.args.numbers.now.items) c.in-Made.is read) (subst (IsAttempt objects root op c.args.numbers.now.items) c.in-Made.is attempted).1

pub returns-in-Made-clause-hub : goal.returns-in-Made-clause-hub
returns-in-Made-clause-hub g c = still_linked (g.St.Store.told × MayGo c.args.self.now (g.C.Clock.stamps c.args.clock.now) c.args.at c.args.known.now c.args.numbers.now.items (λ objects root op. IsAttempt objects root op c.args.numbers.now.items c.args.attempt)) g.St.Store.lasts g.St.Store.stands Answered (inl refl) c.args.self.now.hub

pub returns-in-Made-clause-filled : goal.returns-in-Made-clause-filled
returns-in-Made-clause-filled g c = let a = c.requires.attempted in (subst (IsAttempt a.0 a.1 a.2 c.args.numbers.now.items) c.in-Made.is a.3).1

pub returns-in-Refused-clause-advances : goal.returns-in-Refused-clause-advances
returns-in-Refused-clause-advances g c = λ objects root op attempted read agrees told m gathers sees.
    refused_on m c.args.at root op c.args.self.now _ c.args.known.now c.args.numbers.now.items gathers objects c.in-Refused.why sees agrees
    (subst (HasRead c.args.known.now objects root op c.args.numbers.now.items) c.in-Refused.is read) (subst (IsAttempt objects root op c.args.numbers.now.items) c.in-Refused.is attempted).1

pub returns-in-Refused-clause-hub : goal.returns-in-Refused-clause-hub
returns-in-Refused-clause-hub g c =
    let a = c.requires.attempted in
    still_linked (g.St.Store.told × MayGo c.args.self.now (g.C.Clock.stamps c.args.clock.now) c.args.at c.args.known.now c.args.numbers.now.items (λ objects root op. IsAttempt objects root op c.args.numbers.now.items c.args.attempt)) g.St.Store.lasts g.St.Store.stands (outcome_of_refusal c.in-Refused.why)
    (refused_calm a.0 a.1 a.2 c.in-Refused.why (subst (IsAttempt a.0 a.1 a.2 c.args.numbers.now.items) c.in-Refused.is a.3).0) c.args.self.now.hub

pub returns-in-WantsObject-clause-advances : goal.returns-in-WantsObject-clause-advances
returns-in-WantsObject-clause-advances g c = λ objects root op attempted read agrees told m gathers sees.
    let want = subst (IsAttempt objects root op c.args.numbers.now.items) c.in-WantsObject.is attempted in
    let none : c.args.numbers.now.items ≡ [] = want.0 in
    subst (λ (ns : List ℕ). AdvancesTo m c.args.at root op c.learn.new.self (g.C.Clock.stamps c.learn.new.clock) c.learn.new.known ns c.learn.result) (sym none)
    (c.learn.ensures.advances root op told m (subst (λ (ns : List ℕ). StandsGathering c.args.self.now (g.C.Clock.stamps c.args.clock.now) m c.args.at root op c.args.known.now ns) none gathers)
    (want_asked m c.args.at root op c.args.self.now _ c.args.known.now c.args.numbers.now.items gathers objects sees c.in-WantsObject.oid want.1))

pub returns-in-WantsNumber-clause-advances : goal.returns-in-WantsNumber-clause-advances
returns-in-WantsNumber-clause-advances g c = λ objects root op attempted read agrees told m gathers sees.
    c.draw_more.ensures.advances root op c.args.known.now told m gathers
    (record { objects = objects; sees = sees; lacks = subst (IsAttempt objects root op c.args.numbers.now.items) c.in-WantsNumber.is attempted })

pub returns-in-WantsObject-clause-hub : goal.returns-in-WantsObject-clause-hub
returns-in-WantsObject-clause-hub g c =
    retold (g.St.Store.told × MayLearn c.args.self.now (g.C.Clock.stamps c.args.clock.now) c.args.at c.args.known.now c.in-WantsObject.oid) g.St.Store.lasts g.St.Store.stands
    (g.St.Store.told × MayGo c.args.self.now (g.C.Clock.stamps c.args.clock.now) c.args.at c.args.known.now c.args.numbers.now.items (λ objects root op. IsAttempt objects root op c.args.numbers.now.items c.args.attempt))
    (λ both.
    let want = subst (IsAttempt both.1.0 both.1.1 both.1.2 c.args.numbers.now.items) c.in-WantsObject.is both.1.3 in
    let none : c.args.numbers.now.items ≡ [] = want.0 in (
      both.0,
      (
        both.1.1,
        both.1.2,
        both.1.4,
        subst (λ (ns : List ℕ). StandsGathering c.args.self.now (g.C.Clock.stamps c.args.clock.now) both.1.4 c.args.at both.1.1 both.1.2 c.args.known.now ns) none both.1.5,
        want_asked both.1.4 c.args.at both.1.1 both.1.2 c.args.self.now _ c.args.known.now c.args.numbers.now.items both.1.5 both.1.0 both.1.6 c.in-WantsObject.oid want.1,
      ),
    ))
    (outcome_of_advance c.learn.result) c.args.self.now.hub c.learn.new.self.hub c.learn.ensures.hub

pub returns-in-WantsNumber-clause-hub : goal.returns-in-WantsNumber-clause-hub
returns-in-WantsNumber-clause-hub g c =
    retold (g.St.Store.told × MayReadFor c.args.self.now (g.C.Clock.stamps c.args.clock.now) c.args.at) g.St.Store.lasts g.St.Store.stands
    (g.St.Store.told × MayGo c.args.self.now (g.C.Clock.stamps c.args.clock.now) c.args.at c.args.known.now c.args.numbers.now.items (λ objects root op. IsAttempt objects root op c.args.numbers.now.items c.args.attempt))
    (λ both. (both.0, reads_for both.1.4 c.args.at both.1.1 both.1.2 c.args.self.now _ c.args.known.now c.args.numbers.now.items both.1.5))
    (outcome_of_advance c.draw_more.result) c.args.self.now.hub c.draw_more.new.self.hub c.draw_more.ensures.hub
