use Rattle.std.proofs.Common.{ap, rules, ◌∙◌}
use Rattle.zodb_core.specs.HubState.{counts_of}
use Rattle.zodb_core.specs.Machine.{with_session}
use Rattle.zodb_top.proofs.Asks.{keeps_opened}
use Rattle.zodb_top.proofs.asking.hub_lines.Goals as goal

pub returns-in-Ok-clause-lines : goal.returns-in-Ok-clause-lines
returns-in-Ok-clause-lines g c = λ told m stands whole.
    c.session_lines.ensures.lines told (with_session m) (c.in-Ok.ensures.stands m stands) (ap (λ s. s.broken) c.open_session.ensures.store ∙ whole)

pub returns-in-Ok-clause-asks : goal.returns-in-Ok-clause-asks
returns-in-Ok-clause-asks g c =
    let asks = c.session_lines.ensures.asks in
    record {
      keeps = λ told m stands whole.
          keeps_opened m c.args.hub.now c.open_session.new.self c.session_lines.new.hub _ _ c.open_session.ensures.store
          (asks.keeps told (with_session m) (c.in-Ok.ensures.stands m stands) (ap (λ s. s.broken) c.open_session.ensures.store ∙ whole));
      failed = search rules;
      calm = λ other. asks.calm other ∙ ap counts_of c.open_session.ensures.store;
      others = asks.others ∙ ap (λ s. s.faults) c.open_session.ensures.store;
      later = search rules;
    }
