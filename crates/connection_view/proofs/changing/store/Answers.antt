use Rattle.zb_model.specs.declared.data.Content.TheVariants.{Held}
use Rattle.connection_view.proofs.Waits.{stored_leaves}
use Rattle.connection_view.proofs.changing.store.Goals as goal

pub returns : goal.returns
returns c =
    let old = c.work.inside in
    record {
      leaves = stored_leaves old.front old.switches old.is_voted old.waiting c.store.new.self (record { oid = c.args.oid; base = c.args.base; content = Held c.args.bytes }) c.store.result c.args.work.now c.store_told.result c.work.view_is c.if-work.false
          c.store.ensures.answer c.store.ensures.ok c.store.ensures.err c.store.ensures.checks c.store.ensures.savepoints c.store_told.ensures;
    }
