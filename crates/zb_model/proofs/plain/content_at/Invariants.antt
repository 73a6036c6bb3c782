use Rattle.std.proofs.Common.{◌≡◌, drop}
use Rattle.zb_model.specs.Voting.{revision_at}
use Rattle.zb_model.proofs.plain.content_at.Given as goal

abbrev pub invariant-loop-transaction : goal.invariant-loop-transaction
invariant-loop-transaction l = revision_at l.fn.oid l.fn.serial (drop l.transaction-index l.list) ≡ revision_at l.fn.oid l.fn.serial l.list
