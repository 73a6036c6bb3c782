use Rattle.std.proofs.Common.{rules, ap, refl, sym}
use Rattle.client_turns.specs.declared.client.Client.{Client}
use Rattle.client_turns.proofs.Framed.{line_framed}
use Rattle.client_turns.proofs.Lined.{line_over, state_is}
use Rattle.client_turns.proofs.asking.connection_line.Goals as goal

pub returns-clause-line : goal.returns-clause-line
returns-clause-line g c =
    line_over g.St.Store.told g.St.Store.lasts g.St.Store.stands g.R.Resolver.rules g.F.Refs.named c.args.client.now (let y : Client = record { name = c.args.client.now.name; session = c.args.client.now.session; told = c.call_line-answer.new.loads.told; connection = c.call_line-answer.new.connection } in y) c.args.hub.now _ _ _
    (λ l. record { hub = l.hub.now; stamps = g.C.Clock.stamps l.clock.now; last = l.told }) (λ l. l.session) c.new-loads.result c.call_line-answer.new.loads c.new-loads.ensures.session
    (state_is _ _ _ _ _ _ c.new-loads.ensures.hub (ap g.C.Clock.stamps c.new-loads.ensures.clock) c.new-loads.ensures.told)
    (state_is _ _ _ _ _ _ (search rules) (ap g.C.Clock.stamps (search rules)) refl) refl refl
    c.args.line.now c.call_line-answer.result c.call_line-answer.ensures.calls

pub returns-clause-hub : goal.returns-clause-hub
returns-clause-hub g c =
    line_framed g.St.Store.told g.St.Store.lasts g.St.Store.stands g.R.Resolver.rules g.F.Refs.named c.args.hub.now _ c.args.client.now c.call_line-answer.new.connection
    (λ l. record { hub = l.hub.now; stamps = g.C.Clock.stamps l.clock.now; last = l.told }) (λ l. l.session) c.new-loads.result c.call_line-answer.new.loads c.new-loads.ensures.hub (search rules)
    _ _ _ (sym c.new-loads.ensures.session) c.args.line.now c.call_line-answer.result c.call_line-answer.ensures.calls
