use Rattle.std.proofs.Common.{◌+◌}
use Rattle.std.specs.Prelude.{filter}
use Rattle.zb_model.specs.Database.{is_below, revisions}
use Rattle.zb_model.specs.Lasts.{last_serial-is}
use Rattle.mapping_store.proofs.packing.serial_to.Goals as goal

pub loop-transaction-init : goal.loop-transaction-init
loop-transaction-init c = last_serial-is (filter (is_below (c.args.tid + 1)) (revisions c.args.oid c.args.list.now))
