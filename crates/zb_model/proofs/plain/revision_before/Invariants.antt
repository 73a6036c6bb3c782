use Rattle.std.proofs.Common.{◌≡◌, drop}
use Rattle.std.specs.Prelude.{filter}
use Rattle.std.specs.List.{last_or}
use Rattle.zb_model.specs.Database.{is_below, revision_below, revisions}
use Rattle.zb_model.specs.Seen.{seen_revision}
use Rattle.zb_model.proofs.plain.revision_before.Given as goal

abbrev pub invariant-loop-transaction : goal.invariant-loop-transaction
invariant-loop-transaction l = last_or (seen_revision l.last) (filter (is_below l.fn.front) (revisions l.fn.oid (drop l.transaction-index l.list))) ≡ revision_below l.fn.oid l.fn.front l.list
