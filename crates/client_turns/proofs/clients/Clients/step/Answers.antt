-- The hub's step is one of the clients' moment.
use Rattle.std.proofs.Common.{◌∙◌, ℕ, List, ap, subst}
use Rattle.std.specs.Prelude.{slice_get}
use Rattle.local_loads.specs.Making.{IsHubStep}
use Rattle.client_turns.specs.declared.member.Member.{Member}
use Rattle.client_turns.proofs.Stepping.{plain_well, step_leads}
use Rattle.client_turns.proofs.clients.Clients.step.Goals as goal

pub returns-clause-made : goal.returns-clause-made
returns-clause-made g c = λ x there.
    subst (λ (n : ℕ). IsHubStep g.St.Store.told g.St.Store.lasts g.St.Store.stands g.R.Resolver.rules g.F.Refs.named n c.args.request c.step.result c.args.self.now.hub c.step.new.self (g.C.Clock.stamps c.args.clock.now) (g.C.Clock.stamps c.step.new.clock))
    (c.session_at-session.ensures.session x (ap (λ (xs : List Member). slice_get xs c.args.at) (c.as_slice.ensures.value ∙ ap (λ s. s.clients) c.self.view_is) ∙ there))
    (subst (λ s. IsHubStep g.St.Store.told g.St.Store.lasts g.St.Store.stands g.R.Resolver.rules g.F.Refs.named c.session_at-session.result c.args.request c.step.result s.hub c.step.new.self (g.C.Clock.stamps c.args.clock.now) (g.C.Clock.stamps c.step.new.clock)) c.self.view_is
    (record {
      step = c.step.ensures.step;
      safe = c.step.ensures.safe;
      side = c.step.ensures.side;
      main = c.step.ensures.main;
      views = c.step.ensures.views;
      database = c.step.ensures.database;
      failed = c.step.ensures.failed;
      closed = c.step.ensures.closed;
      memory = c.step.ensures.memory;
      unread = c.step.ensures.unread;
      unwritten = c.step.ensures.unwritten;
      any_moment = c.step.ensures.any_moment;
    }))

pub returns-clause-step : goal.returns-clause-step
returns-clause-step g c = λ tells m stood x there free.
    step_leads g.St.Store.told g.St.Store.lasts g.St.Store.stands g.R.Resolver.rules g.F.Refs.named tells m c.args.at x c.args.request c.step.result c.args.self.now _ (g.C.Clock.stamps c.args.clock.now) (g.C.Clock.stamps c.step.new.clock) stood there free (plain_well c.args.request c.requires.plain) (returns-clause-made g c x there)
    (ap (λ s. s.clients) c.self.view_is)
