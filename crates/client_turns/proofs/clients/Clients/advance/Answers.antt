-- An attempt, and what the call is going to read besides.
use Rattle.std.proofs.Common.{◌≡◌, ◌∙◌, ℕ, true, List, [], Option, Result, subst, sym}
use Rattle.zb_model.specs.declared.refusal.Refusal.{Refusal}
use Rattle.tree_attempts.specs.declared.attempt.Made.{Made}
use Rattle.client_turns.specs.Gathering.{AdvancesTo, MayGather, StandsGathering, outcome_of_advance}
use Rattle.client_turns.specs.OverQuestions.{ReadsLinked}
use Rattle.client_turns.proofs.Advancing.{none_drawn}
use Rattle.client_turns.proofs.Telling.{retold, then_linked}
use Rattle.client_turns.proofs.clients.Clients.advance.Goals as goal

pub returns-then-not-is_empty-clause-advances : goal.returns-then-not-is_empty-clause-advances
returns-then-not-is_empty-clause-advances g c = λ told m gathers.
    subst (λ (r : Option (Result Made Refusal)). AdvancesTo m c.args.at c.args.root c.args.operation.now c.attempt_once.new.self (g.C.Clock.stamps c.attempt_once.new.clock) c.attempt_once.new.known c.attempt_once.new.numbers.items r) c.in_default.is
    (c.attempt_once.ensures.advances told m gathers)

pub returns-then-not-is_empty-clause-hub : goal.returns-then-not-is_empty-clause-hub
returns-then-not-is_empty-clause-hub g c =
    subst (λ (r : Option (Result Made Refusal)). ReadsLinked (g.St.Store.told × MayGather c.args.self.now (g.C.Clock.stamps c.args.clock.now) c.args.at c.args.root c.args.operation.now c.args.known.now c.args.numbers.now.items) g.St.Store.lasts g.St.Store.stands (outcome_of_advance r) c.args.self.now.hub c.attempt_once.new.self.hub) c.in_default.is c.attempt_once.ensures.hub

pub returns-clause-advances : goal.returns-clause-advances
returns-clause-advances g c = λ told m gathers.
    let on = c.if-not-is_empty.false in
    let yes : c.is_empty.result ≡ true = cc in
    let none : c.attempt_once.new.numbers.items ≡ [] = sym c.as_slice.ensures.value ∙ none_drawn c.as_slice.result.now c.is_empty.result c.is_empty.ensures yes in
    subst (λ (ns : List ℕ). AdvancesTo m c.args.at c.args.root c.args.operation.now c.look_ahead.new.self (g.C.Clock.stamps c.look_ahead.new.clock) c.look_ahead.new.known ns c.look_ahead.result) (sym none)
    (c.look_ahead.ensures.advances told m
    (subst (λ (ns : List ℕ). StandsGathering c.attempt_once.new.self (g.C.Clock.stamps c.attempt_once.new.clock) m c.args.at c.args.root c.args.operation.now c.attempt_once.new.known ns) none
    (subst (λ (r : Option (Result Made Refusal)). AdvancesTo m c.args.at c.args.root c.args.operation.now c.attempt_once.new.self (g.C.Clock.stamps c.attempt_once.new.clock) c.attempt_once.new.known c.attempt_once.new.numbers.items r) c.in_default.is
    (c.attempt_once.ensures.advances told m gathers))))

pub returns-clause-hub : goal.returns-clause-hub
returns-clause-hub g c =
    let on = c.if-not-is_empty.false in
    let yes : c.is_empty.result ≡ true = cc in
    let none : c.attempt_once.new.numbers.items ≡ [] = sym c.as_slice.ensures.value ∙ none_drawn c.as_slice.result.now c.is_empty.result c.is_empty.ensures yes in
    then_linked (g.St.Store.told × MayGather c.args.self.now (g.C.Clock.stamps c.args.clock.now) c.args.at c.args.root c.args.operation.now c.args.known.now c.args.numbers.now.items) g.St.Store.lasts g.St.Store.stands (outcome_of_advance c.look_ahead.result) c.args.self.now.hub c.attempt_once.new.self.hub c.look_ahead.new.self.hub
    (subst (λ (r : Option (Result Made Refusal)). ReadsLinked (g.St.Store.told × MayGather c.args.self.now (g.C.Clock.stamps c.args.clock.now) c.args.at c.args.root c.args.operation.now c.args.known.now c.args.numbers.now.items) g.St.Store.lasts g.St.Store.stands (outcome_of_advance r) c.args.self.now.hub c.attempt_once.new.self.hub) c.in_default.is c.attempt_once.ensures.hub)
    (retold (g.St.Store.told × MayGather c.attempt_once.new.self (g.C.Clock.stamps c.attempt_once.new.clock) c.args.at c.args.root c.args.operation.now c.attempt_once.new.known []) g.St.Store.lasts g.St.Store.stands
    (g.St.Store.told × MayGather c.args.self.now (g.C.Clock.stamps c.args.clock.now) c.args.at c.args.root c.args.operation.now c.args.known.now c.args.numbers.now.items)
    (λ both. (
      both.0,
      (
        both.1.0,
        subst (λ (ns : List ℕ). StandsGathering c.attempt_once.new.self (g.C.Clock.stamps c.attempt_once.new.clock) both.1.0 c.args.at c.args.root c.args.operation.now c.attempt_once.new.known ns) none
            (subst (λ (r : Option (Result Made Refusal)). AdvancesTo both.1.0 c.args.at c.args.root c.args.operation.now c.attempt_once.new.self (g.C.Clock.stamps c.attempt_once.new.clock) c.attempt_once.new.known c.attempt_once.new.numbers.items r) c.in_default.is
            (c.attempt_once.ensures.advances both.0 both.1.0 both.1.1)),
      ),
    ))
    (outcome_of_advance c.look_ahead.result) c.attempt_once.new.self.hub c.look_ahead.new.self.hub c.look_ahead.ensures.hub)

pub returns-clause-kept : goal.returns-clause-kept
returns-clause-kept g c = c.look_ahead.ensures.kept ∙ c.attempt_once.ensures.kept
