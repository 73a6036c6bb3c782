-- A call, attempt by attempt.
use Rattle.std.proofs.Common.{◌∙◌, ℕ, List, [], Option, Result, inl, inr, refl, subst, sym}
use Rattle.zb_model.specs.declared.refusal.Refusal.{Refusal}
use Rattle.tree_attempts.specs.declared.attempt.Made.{Made}
use Rattle.zodb_core.specs.Outcomes.{Answered, NoMemory}
use Rattle.client_turns.specs.Gathering.{AdvancesTo, MayGather, StandsGathering, outcome_of_advance}
use Rattle.client_turns.specs.Lines.{outcome_of_result}
use Rattle.client_turns.specs.OverQuestions.{ReadsLinked}
use Rattle.client_turns.specs.Standing.{MayReadFor}
use Rattle.client_turns.proofs.Advancing.{starts, starves}
use Rattle.client_turns.proofs.Telling.{calm_linked, retold, still_linked, then_linked}
use Rattle.client_turns.proofs.clients.Clients.call.Goals as goal

pub loop-i-init : goal.loop-i-init
loop-i-init g c = record {
  gathers = λ told m stands may.
      subst (λ ks. StandsGathering c.args.self.now (g.C.Clock.stamps c.args.clock.now) m c.args.at c.args.root c.args.operation.now ks c.new-numbers.result.items) (sym c.new-known.ensures)
      (subst (λ (ns : List ℕ). StandsGathering c.args.self.now (g.C.Clock.stamps c.args.clock.now) m c.args.at c.args.root c.args.operation.now [] ns) (sym c.new-numbers.ensures.items) (starts m c.args.at c.args.root c.args.operation.now c.args.self.now _ stands may));
  hub = still_linked (g.St.Store.told × MayReadFor c.args.self.now (g.C.Clock.stamps c.args.clock.now) c.args.at) g.St.Store.lasts g.St.Store.stands Answered (inl refl) c.args.self.now.hub;
  kept = refl;
}

pub returns-in-Some-clause-ends : goal.returns-in-Some-clause-ends
returns-in-Some-clause-ends g c = λ told m stands may. c.in-Some.ensures.advances told m (c.loop-i.invariant.gathers told m stands may)

pub returns-in-Some-clause-hub : goal.returns-in-Some-clause-hub
returns-in-Some-clause-hub g c =
    then_linked (g.St.Store.told × MayReadFor c.args.self.now (g.C.Clock.stamps c.args.clock.now) c.args.at) g.St.Store.lasts g.St.Store.stands (outcome_of_result c.in-Some.ended) c.args.self.now.hub c.loop-i.self.hub c.advance.new.self.hub c.loop-i.invariant.hub
    (retold (g.St.Store.told × MayGather c.loop-i.self (g.C.Clock.stamps c.loop-i.clock) c.args.at c.args.root c.args.operation.now c.loop-i.known c.loop-i.numbers.items) g.St.Store.lasts g.St.Store.stands (g.St.Store.told × MayReadFor c.args.self.now (g.C.Clock.stamps c.args.clock.now) c.args.at)
    (λ both. (both.0, (both.1.0, c.loop-i.invariant.gathers both.0 both.1.0 both.1.1 both.1.2))) (outcome_of_result c.in-Some.ended) c.loop-i.self.hub c.advance.new.self.hub c.in-Some.ensures.hub)

pub loop-i-preserved : goal.loop-i-preserved
loop-i-preserved g c = record {
  gathers = λ told m stands may.
      subst (λ (r : Option (Result Made Refusal)). AdvancesTo m c.args.at c.args.root c.args.operation.now c.advance.new.self (g.C.Clock.stamps c.advance.new.clock) c.advance.new.known c.advance.new.numbers.items r) c.in_default.is
      (c.advance.ensures.advances told m (c.loop-i.invariant.gathers told m stands may));
  hub = then_linked (g.St.Store.told × MayReadFor c.args.self.now (g.C.Clock.stamps c.args.clock.now) c.args.at) g.St.Store.lasts g.St.Store.stands Answered c.args.self.now.hub c.loop-i.self.hub c.advance.new.self.hub c.loop-i.invariant.hub
      (retold (g.St.Store.told × MayGather c.loop-i.self (g.C.Clock.stamps c.loop-i.clock) c.args.at c.args.root c.args.operation.now c.loop-i.known c.loop-i.numbers.items) g.St.Store.lasts g.St.Store.stands (g.St.Store.told × MayReadFor c.args.self.now (g.C.Clock.stamps c.args.clock.now) c.args.at)
      (λ both. (both.0, (both.1.0, c.loop-i.invariant.gathers both.0 both.1.0 both.1.1 both.1.2))) Answered c.loop-i.self.hub c.advance.new.self.hub (subst (λ (r : Option (Result Made Refusal)). ReadsLinked (g.St.Store.told × MayGather c.loop-i.self (g.C.Clock.stamps c.loop-i.clock) c.args.at c.args.root c.args.operation.now c.loop-i.known c.loop-i.numbers.items) g.St.Store.lasts g.St.Store.stands (outcome_of_advance r) c.loop-i.self.hub c.advance.new.self.hub) c.in_default.is c.advance.ensures.hub));
  kept = c.advance.ensures.kept ∙ c.loop-i.invariant.kept;
}

pub returns-clause-ends : goal.returns-clause-ends
returns-clause-ends g c = λ told m stands may.
    starves m c.args.at c.args.root c.args.operation.now c.loop-i.self _ c.loop-i.known c.loop-i.numbers.items (c.loop-i.invariant.gathers told m stands may)

pub returns-clause-hub : goal.returns-clause-hub
returns-clause-hub g c = calm_linked (g.St.Store.told × MayReadFor c.args.self.now (g.C.Clock.stamps c.args.clock.now) c.args.at) g.St.Store.lasts g.St.Store.stands NoMemory (inr refl) c.args.self.now.hub c.loop-i.self.hub c.loop-i.invariant.hub
