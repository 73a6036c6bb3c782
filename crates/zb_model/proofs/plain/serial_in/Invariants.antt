use Rattle.std.proofs.Common.{◌≡◌, drop}
use Rattle.zb_model.specs.Database.{revisions, serial_of}
use Rattle.zb_model.specs.Lasts.{last_serial}
use Rattle.zb_model.proofs.plain.serial_in.Given as goal

abbrev pub invariant-loop-transaction : goal.invariant-loop-transaction
invariant-loop-transaction l = last_serial l.serial (revisions l.fn.oid (drop l.transaction-index l.list)) ≡ serial_of l.fn.oid l.list
