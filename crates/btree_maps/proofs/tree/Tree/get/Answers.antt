use Rattle.btree_maps.proofs.Looking.{gets_in_tree, cost_in_tree}
use Rattle.btree_maps.proofs.tree.Tree.get.Goals as goal

pub returns-clause-sound : goal.returns-clause-sound
returns-clause-sound g c = λ kind m t k f. gets_in_tree (g.S.Space.contents c.args.space.now) c.args.self.now.root kind m c.args.key.now _ t k f c.look_up.ensures.answer

pub returns-clause-cost : goal.returns-clause-cost
returns-clause-cost g c = λ kind h s i k f t. cost_in_tree g.S.Space.told _ (g.S.Space.contents c.args.space.now) c.args.self.now.root c.args.key.now _ _ c.look_up.ensures.log kind h s i k f t
