use Rattle.std.proofs.Common.{◌≡◌, ◌^◌, ◌<◌, ◌++◌, ◌∷◌, [], List, length}
use Rattle.btree_shapes.specs.declared.space.Call.{Call}
use Rattle.btree_shapes.specs.declared.space.Call.TheVariants.{Read}
use Rattle.btree_shapes.specs.Met.{ReadsUpTo}
use Rattle.btree_shapes.specs.Nodes.{objects_of}
use Rattle.btree_maps.specs.Visits.{left_of, cost_of, met_by, met_left, visited, SameLength}
use Rattle.btree_maps.proofs.walk.walk_all.Given as goal

abbrev pub invariant-walk : goal.invariant-walk
invariant-walk g l = record {
  room : length l.walk.way < 2 ^ 64;
  same : SameLength l.walk.way l.walk.lefts;
  gives : left_of l.fn.fits l.fn.span (objects_of (g.S.Space.contents l.fn.space) l.fn.tree.root) l.walk ≡ visited l.fn.fits l.fn.span (objects_of (g.S.Space.contents l.fn.space) l.fn.tree.root) l.fn.tree.root;
  met : g.S.Space.told → (base : List Call) → g.S.Space.log l.fn.space ≡ base ++ Read l.fn.tree.root ∷ []
      → ReadsUpTo (met_by l.fn.span (objects_of (g.S.Space.contents l.fn.space) l.fn.tree.root) l.fn.tree.root)
      (met_left l.fn.span (objects_of (g.S.Space.contents l.fn.space) l.fn.tree.root) l.walk.way l.walk.lefts) base (g.S.Space.log l.space);
  contents : g.S.Space.contents l.space ≡ g.S.Space.contents l.fn.space;
  refusals : g.S.Space.told → g.S.Space.refusals l.space ≡ g.S.Space.refusals l.fn.space;
}

abbrev pub decreases-walk : goal.decreases-walk
decreases-walk g l = cost_of l.fn.span (objects_of (g.S.Space.contents l.fn.space) l.fn.tree.root) l.walk.way l.walk.lefts
