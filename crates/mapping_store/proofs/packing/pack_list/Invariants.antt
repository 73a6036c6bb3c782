use Rattle.std.proofs.Common.{◌≡◌, ◌++◌, drop}
use Rattle.std.specs.List.{filter_map}
use Rattle.zb_model.specs.Packing.{packed_by, packed_one}
use Rattle.mapping_store.proofs.packing.pack_list.Given as goal

abbrev pub invariant-loop-transaction : goal.invariant-loop-transaction
invariant-loop-transaction l = l.packed.items ++ filter_map (packed_one l.fn.tid l.fn.keep l.fn.list) (drop l.transaction-index l.list) ≡ packed_by l.fn.tid l.fn.keep l.fn.list
