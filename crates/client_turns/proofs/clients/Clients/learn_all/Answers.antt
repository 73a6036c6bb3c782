-- Objects, one after another.
use Rattle.std.proofs.Common.{◌∙◌, [], Option, Result, arith, inl, length, refl, subst}
use Rattle.std.proofs.lemmas.Option.{slice_get_read}
use Rattle.zb_model.specs.declared.refusal.Refusal.{Refusal}
use Rattle.tree_attempts.specs.declared.attempt.Made.{Made}
use Rattle.zodb_core.specs.Outcomes.{Answered}
use Rattle.client_turns.specs.Gathering.{AdvancesTo, IsAskedOf, MayLearn, MayLearnAll, outcome_of_advance}
use Rattle.client_turns.specs.Lines.{outcome_of_result}
use Rattle.client_turns.specs.OverQuestions.{ReadsLinked}
use Rattle.client_turns.proofs.Advancing.{one_of_all}
use Rattle.client_turns.proofs.Telling.{retold, still_linked, then_linked}
use Rattle.client_turns.proofs.clients.Clients.learn_all.Goals as goal

pub loop-oid-init : goal.loop-oid-init
loop-oid-init g c = record {
  gathers = λ root op told m gathers asked. gathers;
  hub = still_linked (g.St.Store.told × MayLearnAll c.args.self.now (g.C.Clock.stamps c.args.clock.now) c.args.at c.args.known.now c.args.oids.now) g.St.Store.lasts g.St.Store.stands Answered (inl refl) c.args.self.now.hub;
  kept = refl;
  grows = omega arith;
}

pub returns-in-Some-clause-advances : goal.returns-in-Some-clause-advances
returns-in-Some-clause-advances g c = λ root op told m gathers asked.
    let here = c.loop-oid.invariant.gathers root op told m gathers asked in
    c.in-Some.ensures.advances root op told m here (one_of_all (IsAskedOf m c.args.at root op) c.args.oids.now c.loop-oid.oid-index c.oid-item.result asked (slice_get_read c.args.oids.now (length c.args.oids.now) c.loop-oid.oid-index c.oid-item.result refl c.loop-oid-test.true c.oid-item.is))

pub returns-in-Some-clause-hub : goal.returns-in-Some-clause-hub
returns-in-Some-clause-hub g c =
    then_linked (g.St.Store.told × MayLearnAll c.args.self.now (g.C.Clock.stamps c.args.clock.now) c.args.at c.args.known.now c.args.oids.now) g.St.Store.lasts g.St.Store.stands (outcome_of_result c.in-Some.ended) c.args.self.now.hub c.loop-oid.self.hub c.learn_new.new.self.hub c.loop-oid.invariant.hub
    (retold (g.St.Store.told × MayLearn c.loop-oid.self (g.C.Clock.stamps c.loop-oid.clock) c.args.at c.loop-oid.known c.oid-item.result) g.St.Store.lasts g.St.Store.stands (g.St.Store.told × MayLearnAll c.args.self.now (g.C.Clock.stamps c.args.clock.now) c.args.at c.args.known.now c.args.oids.now)
    (λ both.
    (both.0, (both.1.0, both.1.1, both.1.2, c.loop-oid.invariant.gathers both.1.0 both.1.1 both.0 both.1.2 both.1.3 both.1.4, one_of_all (IsAskedOf both.1.2 c.args.at both.1.0 both.1.1) c.args.oids.now c.loop-oid.oid-index c.oid-item.result both.1.4 (slice_get_read c.args.oids.now (length c.args.oids.now) c.loop-oid.oid-index c.oid-item.result refl c.loop-oid-test.true c.oid-item.is)))) (outcome_of_result c.in-Some.ended) c.loop-oid.self.hub c.learn_new.new.self.hub c.in-Some.ensures.hub)

pub returns-then-is_missing-clause-advances : goal.returns-then-is_missing-clause-advances
returns-then-is_missing-clause-advances g c = λ root op told m gathers asked.
    let here = c.loop-oid.invariant.gathers root op told m gathers asked in
    subst (λ (r : Option (Result Made Refusal)). AdvancesTo m c.args.at root op c.learn_new.new.self (g.C.Clock.stamps c.learn_new.new.clock) c.learn_new.new.known [] r) c.in_default.is
    (c.learn_new.ensures.advances root op told m here (one_of_all (IsAskedOf m c.args.at root op) c.args.oids.now c.loop-oid.oid-index c.oid-item.result asked (slice_get_read c.args.oids.now (length c.args.oids.now) c.loop-oid.oid-index c.oid-item.result refl c.loop-oid-test.true c.oid-item.is)))

pub returns-then-is_missing-clause-hub : goal.returns-then-is_missing-clause-hub
returns-then-is_missing-clause-hub g c =
    then_linked (g.St.Store.told × MayLearnAll c.args.self.now (g.C.Clock.stamps c.args.clock.now) c.args.at c.args.known.now c.args.oids.now) g.St.Store.lasts g.St.Store.stands Answered c.args.self.now.hub c.loop-oid.self.hub c.learn_new.new.self.hub c.loop-oid.invariant.hub
    (retold (g.St.Store.told × MayLearn c.loop-oid.self (g.C.Clock.stamps c.loop-oid.clock) c.args.at c.loop-oid.known c.oid-item.result) g.St.Store.lasts g.St.Store.stands (g.St.Store.told × MayLearnAll c.args.self.now (g.C.Clock.stamps c.args.clock.now) c.args.at c.args.known.now c.args.oids.now)
    (λ both.
    (both.0, (both.1.0, both.1.1, both.1.2, c.loop-oid.invariant.gathers both.1.0 both.1.1 both.0 both.1.2 both.1.3 both.1.4, one_of_all (IsAskedOf both.1.2 c.args.at both.1.0 both.1.1) c.args.oids.now c.loop-oid.oid-index c.oid-item.result both.1.4 (slice_get_read c.args.oids.now (length c.args.oids.now) c.loop-oid.oid-index c.oid-item.result refl c.loop-oid-test.true c.oid-item.is)))) Answered c.loop-oid.self.hub c.learn_new.new.self.hub (subst (λ (r : Option (Result Made Refusal)). ReadsLinked (g.St.Store.told × MayLearn c.loop-oid.self (g.C.Clock.stamps c.loop-oid.clock) c.args.at c.loop-oid.known c.oid-item.result) g.St.Store.lasts g.St.Store.stands (outcome_of_advance r) c.loop-oid.self.hub c.learn_new.new.self.hub) c.in_default.is c.learn_new.ensures.hub))

pub loop-oid-preserved : goal.loop-oid-preserved
loop-oid-preserved g c = record {
  gathers = λ root op told m gathers asked.
      let here = c.loop-oid.invariant.gathers root op told m gathers asked in
      subst (λ (r : Option (Result Made Refusal)). AdvancesTo m c.args.at root op c.learn_new.new.self (g.C.Clock.stamps c.learn_new.new.clock) c.learn_new.new.known [] r) c.in_default.is
      (c.learn_new.ensures.advances root op told m here (one_of_all (IsAskedOf m c.args.at root op) c.args.oids.now c.loop-oid.oid-index c.oid-item.result asked (slice_get_read c.args.oids.now (length c.args.oids.now) c.loop-oid.oid-index c.oid-item.result refl c.loop-oid-test.true c.oid-item.is)));
  hub = then_linked (g.St.Store.told × MayLearnAll c.args.self.now (g.C.Clock.stamps c.args.clock.now) c.args.at c.args.known.now c.args.oids.now) g.St.Store.lasts g.St.Store.stands Answered c.args.self.now.hub c.loop-oid.self.hub c.learn_new.new.self.hub c.loop-oid.invariant.hub
      (retold (g.St.Store.told × MayLearn c.loop-oid.self (g.C.Clock.stamps c.loop-oid.clock) c.args.at c.loop-oid.known c.oid-item.result) g.St.Store.lasts g.St.Store.stands (g.St.Store.told × MayLearnAll c.args.self.now (g.C.Clock.stamps c.args.clock.now) c.args.at c.args.known.now c.args.oids.now)
      (λ both.
      (both.0, (both.1.0, both.1.1, both.1.2, c.loop-oid.invariant.gathers both.1.0 both.1.1 both.0 both.1.2 both.1.3 both.1.4, one_of_all (IsAskedOf both.1.2 c.args.at both.1.0 both.1.1) c.args.oids.now c.loop-oid.oid-index c.oid-item.result both.1.4 (slice_get_read c.args.oids.now (length c.args.oids.now) c.loop-oid.oid-index c.oid-item.result refl c.loop-oid-test.true c.oid-item.is)))) Answered c.loop-oid.self.hub c.learn_new.new.self.hub (subst (λ (r : Option (Result Made Refusal)). ReadsLinked (g.St.Store.told × MayLearn c.loop-oid.self (g.C.Clock.stamps c.loop-oid.clock) c.args.at c.loop-oid.known c.oid-item.result) g.St.Store.lasts g.St.Store.stands (outcome_of_advance r) c.loop-oid.self.hub c.learn_new.new.self.hub) c.in_default.is c.learn_new.ensures.hub));
  kept = c.learn_new.ensures.kept ∙ c.loop-oid.invariant.kept;
  grows = omega (arith, c.loop-oid.invariant.grows, c.learn_new.ensures.grows);
}
