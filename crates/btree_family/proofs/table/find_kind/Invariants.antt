-- What the rows from here on give is what all give.
use Rattle.std.proofs.Common.{◌≡◌, drop, map}
use Rattle.btree_family.specs.Classes.{class_seen, kind_in}
use Rattle.btree_family.proofs.table.find_kind.Given as goal

abbrev pub invariant-loop-row : goal.invariant-loop-row
invariant-loop-row l = kind_in (map class_seen (drop l.row-index l.rows)) l.module_name l.kind ≡ kind_in (map class_seen l.rows) l.module_name l.kind
