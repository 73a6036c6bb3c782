use Rattle.std.proofs.Common.{◌≡◌, ◌++◌, drop, map}
use Rattle.std.specs.Prelude.{filter}
use Rattle.zb_model.specs.Lists.{is_before, is_unpacked, log_line}
use Rattle.mapping_store.proofs.gathering.gather_undo_log_before.Given as goal

abbrev pub invariant-loop-transaction : goal.invariant-loop-transaction
invariant-loop-transaction l = l.lines.items ++ map log_line (filter is_unpacked (filter (is_before l.fn.below) (drop l.transaction-index l.list))) ≡ map log_line (filter is_unpacked (filter (is_before l.fn.below) l.list))
