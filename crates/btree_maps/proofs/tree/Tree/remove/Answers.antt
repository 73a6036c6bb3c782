use Rattle.btree_maps.proofs.Removed.{removes_in}
use Rattle.btree_maps.proofs.tree.Tree.remove.Goals as goal

pub returns-clause-sound : goal.returns-clause-sound
returns-clause-sound g c = λ kind m t. removes_in g.S.Space.told (g.S.Space.contents c.args.space.now) _ (g.S.Space.log c.args.space.now) _ c.args.self.now.root _ _ c.remove.ensures.ways kind m t
