use Rattle.std.proofs.Common.{◌≡◌, ◌++◌}
use Rattle.zeo_values.specs.Values.{id_text, list_of}
use Rattle.zeo_values.specs.WrittenLaws.{list_rest}
use Rattle.zeo_values.proofs.values.put_tids.Given as goal

abbrev pub invariant-loop-tid : goal.invariant-loop-tid
invariant-loop-tid l = l.text.items ++ list_rest id_text l.tid-index l.tids ≡ l.fn.text.items ++ list_of id_text l.tids
