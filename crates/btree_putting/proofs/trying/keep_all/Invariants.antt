use Rattle.std.proofs.Common.{length}
use Rattle.btree_family.specs.Classes.{class_seen}
use Rattle.btree_putting.proofs.Tried.{TriedSo}
use Rattle.btree_putting.proofs.trying.keep_all.Given as goal

abbrev pub invariant-puts : goal.invariant-puts
invariant-puts l = TriedSo (class_seen l.family.row.now) (class_seen l.family.leaf.now) l.fn.puts l.kept l.left

abbrev pub decreases-puts : goal.decreases-puts
decreases-puts l = length l.left
