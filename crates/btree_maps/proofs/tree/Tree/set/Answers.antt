use Rattle.btree_maps.proofs.Results.{sets_in}
use Rattle.btree_maps.proofs.tree.Tree.set.Goals as goal

pub returns-clause-sound : goal.returns-clause-sound
returns-clause-sound g c = λ kind m two three t k known draws. sets_in g.S.Space.told (g.S.Space.contents c.args.space.now) _ (g.S.Space.log c.args.space.now) _ c.args.self.now.root _ _ _ _ c.set.ensures.ways kind m two three t k known draws
