use Rattle.client_turns.proofs.OverCalls.{heard_called, told_called, unheard_called}
use Rattle.client_turns.proofs.over.deliver_over.Goals as goal

pub returns-in-Err-clause-line : goal.returns-in-Err-clause-line
returns-in-Err-clause-line g c =
    unheard_called (λ s. s.carrier) (λ s. s.client.now) g.W.Carrier.faults g.W.Carrier.closed g.W.Carrier.told g.W.Carrier.end g.W.Carrier.desk g.W.Carrier.session g.W.Carrier.machine g.W.Carrier.steps g.W.Carrier.later c.args.connection.now c.args.remote.now c.sync.new.self c.sync.result c.in-Err.refusal c.in-Err.is c.sync.ensures.exact

pub returns-clause-line : goal.returns-clause-line
returns-clause-line g c =
    heard_called (λ s. s.carrier) (λ s. s.client.now) g.W.Carrier.faults g.W.Carrier.closed g.W.Carrier.told g.W.Carrier.end g.W.Carrier.desk g.W.Carrier.session g.W.Carrier.machine g.W.Carrier.steps g.W.Carrier.later c.args.connection.now c.deliver.new.self c.args.remote.now c.sync.new.self c.deliver.new.loads c.sync.result c.in-Ok.field-0 c.in-Ok.is c.sync.ensures.exact c.sync.ensures.way.keeps.session c.delivered.result
    (told_called (λ s. s.carrier) (λ s. s.client.now) g.W.Carrier.faults g.W.Carrier.closed g.W.Carrier.told g.W.Carrier.end g.W.Carrier.desk g.W.Carrier.session g.W.Carrier.machine g.W.Carrier.steps g.W.Carrier.later c.args.connection.now c.deliver.new.self c.sync.new.self c.deliver.new.loads c.deliver.result c.deliver.ensures.front c.deliver.ensures.view c.deliver.ensures.between c.deliver.ensures.stands c.deliver.ensures.refused c.deliver.ensures.makes c.deliver.ensures.work c.deliver.ensures.err c.delivered.result c.delivered.ensures)
