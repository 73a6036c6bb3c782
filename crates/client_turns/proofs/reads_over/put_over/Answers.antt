use Rattle.std.proofs.Common.{rules, Err, Ok}
use Rattle.client_turns.proofs.OverReads.{may_called, put_read_called, put_refused_called, put_unread_called}
use Rattle.client_turns.proofs.reads_over.put_over.Goals as goal

pub returns-in-Err-clause-line : goal.returns-in-Err-clause-line
returns-in-Err-clause-line g c =
    put_refused_called (λ s. s.carrier) (λ s. s.client.now) g.W.Carrier.faults g.W.Carrier.closed g.W.Carrier.told g.W.Carrier.end g.W.Carrier.desk g.W.Carrier.session g.W.Carrier.machine g.W.Carrier.steps g.W.Carrier.later c.args.connection.now c.store_all.new.self c.args.remote.now c.args.oid c.args.bytes c.in-Err.refusal
    (may_called (λ s. s.carrier) (λ s. s.client.now) g.W.Carrier.faults g.W.Carrier.closed g.W.Carrier.told g.W.Carrier.end g.W.Carrier.desk g.W.Carrier.session g.W.Carrier.machine g.W.Carrier.steps g.W.Carrier.later c.args.connection.now c.store_all.new.self c.args.remote.now c.new.result (Err c.in-Err.refusal) (search rules) c.in-Err.ensures.leaves c.in-Err.ensures.view c.in-Err.ensures.between)

pub returns-in-Err-base_read-clause-line : goal.returns-in-Err-base_read-clause-line
returns-in-Err-base_read-clause-line g c =
    put_unread_called (λ s. s.carrier) (λ s. s.client.now) g.W.Carrier.faults g.W.Carrier.closed g.W.Carrier.told g.W.Carrier.end g.W.Carrier.desk g.W.Carrier.session g.W.Carrier.machine g.W.Carrier.steps g.W.Carrier.later c.args.connection.now c.store_all.new.self c.read_over.new.connection c.args.remote.now c.read_over.new.remote c.args.oid c.args.bytes c.read_over.result c.base_read.result c.in-Err-base_read.refusal
    (may_called (λ s. s.carrier) (λ s. s.client.now) g.W.Carrier.faults g.W.Carrier.closed g.W.Carrier.told g.W.Carrier.end g.W.Carrier.desk g.W.Carrier.session g.W.Carrier.machine g.W.Carrier.steps g.W.Carrier.later c.args.connection.now c.store_all.new.self c.args.remote.now c.new.result (Ok tt) (search rules) c.in-Ok.ensures.leaves c.in-Ok.ensures.view c.in-Ok.ensures.between) c.read_over.ensures.got c.base_read.ensures c.in-Err-base_read.is

pub returns-clause-line : goal.returns-clause-line
returns-clause-line g c =
    put_read_called (λ s. s.carrier) (λ s. s.client.now) g.W.Carrier.faults g.W.Carrier.closed g.W.Carrier.told g.W.Carrier.end g.W.Carrier.desk g.W.Carrier.session g.W.Carrier.machine g.W.Carrier.steps g.W.Carrier.later c.args.connection.now c.store_all.new.self c.read_over.new.connection c.store.new.self c.args.remote.now c.read_over.new.remote c.store.new._loads c.args.oid c.args.bytes c.read_over.result c.base_read.result c.in-Ok-base_read.base
    (may_called (λ s. s.carrier) (λ s. s.client.now) g.W.Carrier.faults g.W.Carrier.closed g.W.Carrier.told g.W.Carrier.end g.W.Carrier.desk g.W.Carrier.session g.W.Carrier.machine g.W.Carrier.steps g.W.Carrier.later c.args.connection.now c.store_all.new.self c.args.remote.now c.new.result (Ok tt) (search rules) c.in-Ok.ensures.leaves c.in-Ok.ensures.view c.in-Ok.ensures.between) c.read_over.ensures.got c.base_read.ensures c.in-Ok-base_read.is
    c.store.result c.store.ensures.leaves c.store.ensures.view c.store.ensures.between c.store.ensures.loads c.answered.result c.answered.ensures
