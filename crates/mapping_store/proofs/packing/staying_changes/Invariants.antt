use Rattle.std.proofs.Common.{◌≡◌, ◌++◌, drop}
use Rattle.std.specs.Prelude.{filter}
use Rattle.zb_model.specs.Packing.{stays}
use Rattle.mapping_store.proofs.packing.staying_changes.Given as goal

abbrev pub invariant-loop-change : goal.invariant-loop-change
invariant-loop-change l = l.staying ++ filter (stays l.fn.tid l.fn.keep l.fn.list l.fn.transaction.tid) (drop l.change-index l.fn.transaction.changes) ≡ filter (stays l.fn.tid l.fn.keep l.fn.list l.fn.transaction.tid) l.fn.transaction.changes
