use Rattle.std.proofs.Common.{rules, ◌≡◌, ◌∙◌, ap, refl, sym}
use Rattle.zb_script.specs.declared.line.Line.TheVariants as line
use Rattle.client_turns.specs.Calls.{is_unmade}
use Rattle.client_turns.proofs.Called.{line_made}
use Rattle.client_turns.proofs.calls.call_line.Goals as goal

pub returns-in_default-from_slice-clause-calls : goal.returns-in_default-from_slice-clause-calls
returns-in_default-from_slice-clause-calls g c = is_unmade refl refl refl

pub returns-in_default-from_slice-2-clause-calls : goal.returns-in_default-from_slice-2-clause-calls
returns-in_default-from_slice-2-clause-calls g c = is_unmade refl refl refl

pub returns-in-Begin-clause-calls : goal.returns-in-Begin-clause-calls
returns-in-Begin-clause-calls g c =
    line_made g.L.Loads.stands g.L.Loads.fresh g.L.Loads.makes g.L.Loads.state c.args.connection.now c.args.loads.now c.args.line.now line.Begin _ _ _ c.in-Begin.is
    (record { result = c.begin.result; answer = c.begun.ensures; front = c.begin.ensures.front; begun = c.begin.ensures.begun; view = c.begin.ensures.view; stands = c.begin.ensures.stands; refused = c.begin.ensures.refused; makes = c.begin.ensures.makes; err = c.begin.ensures.err })

pub returns-in-Load-clause-calls : goal.returns-in-Load-clause-calls
returns-in-Load-clause-calls g c =
    line_made g.L.Loads.stands g.L.Loads.fresh g.L.Loads.makes g.L.Loads.state c.args.connection.now c.args.loads.now c.args.line.now (line.Load c.in-Load.oid) _ _ _ c.in-Load.is
    (c.load.result, c.data_of.ensures, record { reads = c.load.ensures.reads; view = c.load.ensures.view; between = c.load.ensures.between; stands = c.load.ensures.stands; refused = c.load.ensures.refused; makes = c.load.ensures.makes; work = c.load.ensures.work })

pub returns-in-Get-clause-calls : goal.returns-in-Get-clause-calls
returns-in-Get-clause-calls g c =
    line_made g.L.Loads.stands g.L.Loads.fresh g.L.Loads.makes g.L.Loads.state c.args.connection.now c.args.loads.now c.args.line.now (line.Get c.in-Get.oid) _ _ _ c.in-Get.is
    (c.get.result, c.object_of.ensures, record { waiting = c.get.ensures.waiting; reads = c.get.ensures.reads; view = c.get.ensures.view; between = c.get.ensures.between; stands = c.get.ensures.stands; refused = c.get.ensures.refused; makes = c.get.ensures.makes; work = c.get.ensures.work })

pub returns-in-Check-clause-calls : goal.returns-in-Check-clause-calls
returns-in-Check-clause-calls g c =
    line_made g.L.Loads.stands g.L.Loads.fresh g.L.Loads.makes g.L.Loads.state c.args.connection.now c.args.loads.now c.args.line.now (line.Check c.in-Check.oid c.in-Check.serial) _ _ _ c.in-Check.is
    (record { result = c.check.result; answer = c.answered-in-Check.ensures; leaves = c.check.ensures.leaves; kept = c.check.ensures.loads; view = c.check.ensures.view; between = c.check.ensures.between })

pub returns-in-Delete-clause-calls : goal.returns-in-Delete-clause-calls
returns-in-Delete-clause-calls g c =
    line_made g.L.Loads.stands g.L.Loads.fresh g.L.Loads.makes g.L.Loads.state c.args.connection.now c.args.loads.now c.args.line.now (line.Delete c.in-Delete.oid c.in-Delete.base) _ _ _ c.in-Delete.is
    (record { result = c.delete.result; answer = c.answered-in-Delete.ensures; leaves = c.delete.ensures.leaves; kept = c.delete.ensures.loads; view = c.delete.ensures.view; between = c.delete.ensures.between })

pub returns-in-Savepoint-clause-calls : goal.returns-in-Savepoint-clause-calls
returns-in-Savepoint-clause-calls g c =
    line_made g.L.Loads.stands g.L.Loads.fresh g.L.Loads.makes g.L.Loads.state c.args.connection.now c.args.loads.now c.args.line.now line.Savepoint _ _ _ c.in-Savepoint.is
    (record { change = record { result = c.savepoint.result; answer = c.saved.ensures; leaves = c.savepoint.ensures.leaves; kept = c.savepoint.ensures.loads; view = c.savepoint.ensures.view; between = c.savepoint.ensures.between }; number = c.savepoint.ensures.number })

pub returns-in-Rollback-clause-calls : goal.returns-in-Rollback-clause-calls
returns-in-Rollback-clause-calls g c =
    line_made g.L.Loads.stands g.L.Loads.fresh g.L.Loads.makes g.L.Loads.state c.args.connection.now c.args.loads.now c.args.line.now (line.Rollback c.in-Rollback.number) _ _ _ c.in-Rollback.is
    (record { result = c.rollback.result; answer = c.answered-in-Rollback.ensures; leaves = c.rollback.ensures.leaves; kept = c.rollback.ensures.loads; view = c.rollback.ensures.view; between = c.rollback.ensures.between })

pub returns-in-Vote-clause-calls : goal.returns-in-Vote-clause-calls
returns-in-Vote-clause-calls g c =
    line_made g.L.Loads.stands g.L.Loads.fresh g.L.Loads.makes g.L.Loads.state c.args.connection.now c.args.loads.now c.args.line.now (line.Vote c.in-Vote.user c.in-Vote.description) _ _ _ c.in-Vote.is
    (record { result = c.vote.result; answer = c.answered-in-Vote.ensures; voted = c.vote.ensures.voted; err = c.vote.ensures.err; view = c.vote.ensures.view; refused = c.vote.ensures.refused; makes = c.vote.ensures.makes })

pub returns-in-Finish-clause-calls : goal.returns-in-Finish-clause-calls
returns-in-Finish-clause-calls g c =
    line_made g.L.Loads.stands g.L.Loads.fresh g.L.Loads.makes g.L.Loads.state c.args.connection.now c.args.loads.now c.args.line.now line.Finish _ _ _ c.in-Finish.is
    (record { result = c.finish.result; answer = c.finished.ensures; ended = c.finish.ensures.ended; left = c.finish.ensures.committed; refused = c.finish.ensures.refused; makes = c.finish.ensures.makes; err = c.finish.ensures.err; same = c.finish.ensures.same })

pub returns-in-Abort-clause-calls : goal.returns-in-Abort-clause-calls
returns-in-Abort-clause-calls g c =
    line_made g.L.Loads.stands g.L.Loads.fresh g.L.Loads.makes g.L.Loads.state c.args.connection.now c.args.loads.now c.args.line.now line.Abort _ _ _ c.in-Abort.is
    (record { result = c.abort.result; answer = c.answered-in-Abort.ensures; ended = c.abort.ensures.ended; dropped = c.abort.ensures.dropped; refused = c.abort.ensures.refused; makes = c.abort.ensures.makes; err = c.abort.ensures.err; same = c.abort.ensures.same })

pub returns-in-Deliver-clause-calls : goal.returns-in-Deliver-clause-calls
returns-in-Deliver-clause-calls g c =
    line_made g.L.Loads.stands g.L.Loads.fresh g.L.Loads.makes g.L.Loads.state c.args.connection.now c.args.loads.now c.args.line.now line.Deliver _ _ _ c.in-Deliver.is
    (record { result = c.deliver.result; answer = c.delivered.ensures; front = c.deliver.ensures.front; view = c.deliver.ensures.view; between = c.deliver.ensures.between; stands = c.deliver.ensures.stands; refused = c.deliver.ensures.refused; makes = c.deliver.ensures.makes; work = c.deliver.ensures.work; err = c.deliver.ensures.err })

pub returns-in-Ok-clause-calls : goal.returns-in-Ok-clause-calls
returns-in-Ok-clause-calls g c =
    let copied : c.in-Ok.bytes ≡ c.in-Store.bytes = search rules in
    line_made g.L.Loads.stands g.L.Loads.fresh g.L.Loads.makes g.L.Loads.state c.args.connection.now c.args.loads.now c.args.line.now (line.Store c.in-Store.oid c.in-Store.base c.in-Ok.bytes) _ _ _
    (c.in-Store.is ∙ ap (λ b. line.Store c.in-Store.oid c.in-Store.base b) (sym copied))
    (record { result = c.store.result; answer = c.answered.ensures; leaves = c.store.ensures.leaves; kept = c.store.ensures.loads; view = c.store.ensures.view; between = c.store.ensures.between })

pub returns-in-Ok-from_slice-clause-calls : goal.returns-in-Ok-from_slice-clause-calls
returns-in-Ok-from_slice-clause-calls g c =
    let copied : c.in-Ok-from_slice.bytes ≡ c.in-Put.bytes = search rules in
    line_made g.L.Loads.stands g.L.Loads.fresh g.L.Loads.makes g.L.Loads.state c.args.connection.now c.args.loads.now c.args.line.now (line.Put c.in-Put.oid c.in-Ok-from_slice.bytes) _ _ _
    (c.in-Put.is ∙ ap (λ b. line.Put c.in-Put.oid b) (sym copied))
    (record { result = c.put.result; answer = c.answered-in-Put.ensures; waiting = c.put.ensures.waiting; reads = c.put.ensures.reads; refused = c.put.ensures.refused; view = c.put.ensures.view; between = c.put.ensures.between })

pub returns-in-Undo-clause-calls : goal.returns-in-Undo-clause-calls
returns-in-Undo-clause-calls g c =
    let copied : c.as_slice-in-Undo.result.now ≡ c.in-Undo.tids = search rules in
    line_made g.L.Loads.stands g.L.Loads.fresh g.L.Loads.makes g.L.Loads.state c.args.connection.now c.args.loads.now c.args.line.now (line.Undo c.in-Undo.user c.in-Undo.description c.as_slice-in-Undo.result.now) _ _ _
    (c.in-Undo.is ∙ ap (λ ts. line.Undo c.in-Undo.user c.in-Undo.description ts) (sym copied))
    (record { result = c.undo.result; answer = c.answered-in-Undo.ensures; voted = c.undo.ensures.voted; err = c.undo.ensures.err; view = c.undo.ensures.view; refused = c.undo.ensures.refused; makes = c.undo.ensures.makes })
