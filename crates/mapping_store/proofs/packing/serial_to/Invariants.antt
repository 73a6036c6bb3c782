use Rattle.std.proofs.Common.{◌≡◌, ◌+◌, drop}
use Rattle.std.specs.Prelude.{filter}
use Rattle.zb_model.specs.Database.{is_below, revisions}
use Rattle.zb_model.specs.Lasts.{last_serial}
use Rattle.zb_model.specs.Packing.{serial_up_to}
use Rattle.mapping_store.proofs.packing.serial_to.Given as goal

abbrev pub invariant-loop-transaction : goal.invariant-loop-transaction
invariant-loop-transaction l = last_serial l.serial (filter (is_below (l.fn.tid + 1)) (revisions l.fn.oid (drop l.transaction-index l.list))) ≡ serial_up_to l.fn.tid l.fn.oid l.list
