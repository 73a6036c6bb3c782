use Rattle.std.proofs.Common.{◌≡◌, ◌+◌, ◌^◌, ◌++◌, length}
use Rattle.pickle_graph.specs.Graph.{AllBelow}
use Rattle.std.specs.Prelude.{map}
use Rattle.btree_shapes.specs.declared.space.Call.TheVariants.{Drew}
use Rattle.btree_setting.proofs.drawing.draw_all.Given as goal

abbrev pub invariant-draws : goal.invariant-draws
invariant-draws g l = record {
  numbers : AllBelow (2 ^ 64) l.oids;
  counted : length l.oids + l.left ≡ l.fn.count;
  log : g.S.Space.told → g.S.Space.log l.space ≡ g.S.Space.log l.fn.space ++ map Drew l.oids;
  contents : g.S.Space.contents l.space ≡ g.S.Space.contents l.fn.space;
  refusals : g.S.Space.told → g.S.Space.refusals l.space ≡ g.S.Space.refusals l.fn.space;
}

abbrev pub decreases-draws : goal.decreases-draws
decreases-draws g l = l.left
