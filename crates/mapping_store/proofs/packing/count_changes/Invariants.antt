use Rattle.std.proofs.Common.{◌≡◌, ◌+◌, drop}
use Rattle.zb_model.specs.Packs.{change_count}
use Rattle.mapping_store.proofs.packing.count_changes.Given as goal

abbrev pub invariant-loop-transaction : goal.invariant-loop-transaction
invariant-loop-transaction l = l.count + change_count (drop l.transaction-index l.list) ≡ change_count l.list
