use Rattle.std.proofs.Common.{◌≡◌, length}
use Rattle.std.specs.Prelude.{map}
use Rattle.btree_family.specs.Classes.{class_seen}
use Rattle.btree_putting.specs.Kept.{AreKept, kept_put}
use Rattle.btree_putting.proofs.Rows.{StoredSo}
use Rattle.btree_putting.proofs.storing.store_all.Given as goal

abbrev pub invariant-puts : goal.invariant-puts
invariant-puts g l = record {
  stored : StoredSo g.S.Space.told (class_seen l.family.row.now) (class_seen l.family.leaf.now) (map kept_put l.fn.kept) (map kept_put l.left)
      (g.S.Space.contents l.fn.space) (g.S.Space.contents l.space) (g.S.Space.log l.fn.space) (g.S.Space.log l.space);
  kept : AreKept (class_seen l.family.row.now) (class_seen l.family.leaf.now) l.left;
  refusals : g.S.Space.told → g.S.Space.refusals l.space ≡ g.S.Space.refusals l.fn.space;
}

abbrev pub decreases-puts : goal.decreases-puts
decreases-puts g l = length l.left
