use Rattle.std.proofs.Common.{◌≡◌, ◌++◌, take, map}
use Rattle.std.specs.List.{AllByRecursion}
use Rattle.fs_records.specs.Blocks.{records_text}
use Rattle.fs_records.specs.Writing.{written_of, HasRoom}
use Rattle.fs_records.proofs.writing.write_records.Given as goal

abbrev pub invariant-loop-change : goal.invariant-loop-change
invariant-loop-change l = record {
  text : l.text.items ≡ l.fn.text.items ++ records_text l.at l.new.tid (map (written_of l.places.entries) (take l.change-index l.new.changes));
  room : AllByRecursion HasRoom (map (written_of l.places.entries) (take l.change-index l.new.changes));
}
