use Rattle.std.proofs.Common.{◌≡◌, ◌++◌}
use Rattle.zeo_values.specs.Values.{id_text, list_of}
use Rattle.zeo_values.specs.WrittenLaws.{list_rest}
use Rattle.zeo_values.proofs.values.put_oids.Given as goal

abbrev pub invariant-loop-oid : goal.invariant-loop-oid
invariant-loop-oid l = l.text.items ++ list_rest id_text l.oid-index l.oids ≡ l.fn.text.items ++ list_of id_text l.oids
