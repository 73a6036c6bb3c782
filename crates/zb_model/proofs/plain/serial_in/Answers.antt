use Rattle.zb_model.specs.Database.{revisions}
use Rattle.zb_model.specs.Lasts.{last_serial-is}
use Rattle.zb_model.proofs.plain.serial_in.Goals as goal

pub loop-transaction-init : goal.loop-transaction-init
loop-transaction-init c = last_serial-is (revisions c.args.oid c.args.list.now)
