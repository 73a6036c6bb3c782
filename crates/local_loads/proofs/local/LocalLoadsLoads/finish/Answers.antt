use Rattle.std.proofs.Common.{ℕ, Bool, subst, ◌∙◌}
use Rattle.local_loads.specs.Making.{IsFrontBehind, IsHubStep}
use Rattle.local_loads.proofs.Calls.{finish_keeps, finish_refused, finish_says}
use Rattle.local_loads.proofs.local.LocalLoadsLoads.finish.Goals as goal

pub returns-clause-committed : goal.returns-clause-committed
returns-clause-committed g c =
    let front = subst (λ (k : ℕ). IsFrontBehind (IsHubStep g.St.Store.told g.St.Store.lasts g.St.Store.stands g.R.Resolver.rules g.F.Refs.named k) c.is_committed.result c.step-reply.new.self.hub.now c.tell.new.self.hub.now (g.C.Clock.stamps c.step-reply.new.self.clock.now) (g.C.Clock.stamps c.tell.new.self.clock.now))
    c.step-reply.ensures.session c.tell.ensures.front in
    finish_says _ _ _ _ _ _ _ _ _ _ _ _ c.step-reply.result _ c.args.self.now.told _ c.finish_answer.result c.step-reply.ensures.made front (c.tell.ensures.told ∙ c.step-reply.ensures.told) c.finish_answer.ensures

pub returns-clause-same : goal.returns-clause-same
returns-clause-same g c =
    let front = subst (λ (k : ℕ). IsFrontBehind (IsHubStep g.St.Store.told g.St.Store.lasts g.St.Store.stands g.R.Resolver.rules g.F.Refs.named k) c.is_committed.result c.step-reply.new.self.hub.now c.tell.new.self.hub.now (g.C.Clock.stamps c.step-reply.new.self.clock.now) (g.C.Clock.stamps c.tell.new.self.clock.now))
    c.step-reply.ensures.session c.tell.ensures.front in
    finish_keeps _ _ _ _ _ _ _ _ _ _ _ _ c.step-reply.result _ c.args.self.now.told _ c.finish_answer.result c.step-reply.ensures.made front (c.tell.ensures.told ∙ c.step-reply.ensures.told)

pub returns-clause-refusal : goal.returns-clause-refusal
returns-clause-refusal g c = finish_refused c.step-reply.result c.finish_answer.result c.finish_answer.ensures

pub returns-clause-makes : goal.returns-clause-makes
returns-clause-makes g c =
    let front = subst (λ (k : ℕ). IsFrontBehind (IsHubStep g.St.Store.told g.St.Store.lasts g.St.Store.stands g.R.Resolver.rules g.F.Refs.named k) c.is_committed.result c.step-reply.new.self.hub.now c.tell.new.self.hub.now (g.C.Clock.stamps c.step-reply.new.self.clock.now) (g.C.Clock.stamps c.tell.new.self.clock.now))
    c.step-reply.ensures.session c.tell.ensures.front in
    record {
      reply = c.step-reply.result;
      behind = c.step-reply.new.self.hub.now;
      left = g.C.Clock.stamps c.step-reply.new.self.clock.now;
      step = c.step-reply.ensures.made;
      front = subst (λ (b : Bool). IsFrontBehind (IsHubStep g.St.Store.told g.St.Store.lasts g.St.Store.stands g.R.Resolver.rules g.F.Refs.named c.args.self.now.session) b c.step-reply.new.self.hub.now c.tell.new.self.hub.now (g.C.Clock.stamps c.step-reply.new.self.clock.now) (g.C.Clock.stamps c.tell.new.self.clock.now)) c.is_committed.ensures front;
      answer = c.finish_answer.ensures;
      last = c.tell.ensures.told ∙ c.step-reply.ensures.told;
    }
