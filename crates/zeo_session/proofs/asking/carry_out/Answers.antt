use Rattle.std.proofs.Common.{IfOk, Result, subst}
use Rattle.zeo_desk.specs.Desks.{IsFittingNext}
use Rattle.zeo_desk.specs.declared.next.Next.{Next}
use Rattle.zeo_session.specs.Serving.{HasAsked}
use Rattle.zeo_session.proofs.Steps.{LeadsTo, leads_home, leads_nowhere, leads_on}
use Rattle.zeo_session.proofs.asking.carry_out.Goals as goal

pub returns-in-Send : goal.returns-in-Send
returns-in-Send g c s knows =
    let J = g.J.Origin in
    let here = subst (λ (n : Next). LeadsTo g.St.Store.told J.rules J.list J.counts s c.args.desk.now c.args.next c.steps.now c.steps.desk n) c.in-Send.is (c.steps.invariant.leads s knows) in
    leads_home _ _ _ _ s _ _ _ _ _ here

pub steps-preserved : goal.steps-preserved
steps-preserved g c =
    let J = g.J.Origin in
    let told = g.St.Store.told in
    record {
      can = tt;
      finite = tt;
      fitting = subst (λ (r : Result Next _). IfOk r IsFittingNext) c.in-Ok.is c.ask-behind.ensures.fitting;
      leads = λ s knows.
          let here = subst (λ (n : Next). LeadsTo told J.rules J.list J.counts s c.args.desk.now c.args.next c.steps.now c.steps.desk n) c.in-Step.is (c.steps.invariant.leads s knows) in
          leads_on _ _ _ _ s _ _ _ _ _ _ _ _ here (subst (λ (r : Result Next _). HasAsked told J.rules J.list J.counts c.in-Step.request c.steps.now c.ask-behind.result.0 c.steps.desk c.ask-behind.new.desk r) c.in-Ok.is c.ask-behind.ensures.asked);
    }

pub returns-in-Err : goal.returns-in-Err
returns-in-Err g c s knows =
    let J = g.J.Origin in
    let told = g.St.Store.told in
    let here = subst (λ (n : Next). LeadsTo told J.rules J.list J.counts s c.args.desk.now c.args.next c.steps.now c.steps.desk n) c.in-Step.is (c.steps.invariant.leads s knows) in
    leads_nowhere _ _ _ _ s _ _ _ _ _ _ _ _ here (subst (λ (r : Result Next _). HasAsked told J.rules J.list J.counts c.in-Step.request c.steps.now c.ask-behind.result.0 c.steps.desk c.ask-behind.new.desk r) c.in-Err.is c.ask-behind.ensures.asked)
