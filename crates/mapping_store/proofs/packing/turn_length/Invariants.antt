use Rattle.std.proofs.Common.{◌≡◌, ◌+◌, ◌++◌, take, drop}
use Rattle.zb_model.specs.Packs.{change_count, turn_from}
use Rattle.mapping_store.proofs.packing.turn_length.Given as goal

-- what a turn copies are those so far, and those that it copies still
abbrev pub invariant-loop-transaction : goal.invariant-loop-transaction
invariant-loop-transaction l = record {
  number : l.number ≡ l.transaction-index;
  counted : l.count + change_count (drop l.transaction-index l.list) ≡ change_count l.list;
  turn : turn_from 0 l.list ≡ take l.transaction-index l.list ++ turn_from l.count (drop l.transaction-index l.list);
}
