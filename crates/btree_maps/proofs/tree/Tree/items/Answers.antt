use Rattle.btree_maps.proofs.Visiting.{items_of_tree}
use Rattle.btree_maps.proofs.tree.Tree.items.Goals as goal

pub returns-clause-sound : goal.returns-clause-sound
returns-clause-sound g c = λ kind m t. items_of_tree (g.S.Space.contents c.args.space.now) c.args.self.now.root kind m _ t c.all_items.ensures.answer
