use Rattle.btree_maps.proofs.Visiting.{range_of_tree}
use Rattle.btree_maps.proofs.tree.Tree.range.Goals as goal

pub returns-clause-sound : goal.returns-clause-sound
returns-clause-sound g c = λ kind m t kl kh fl fh. range_of_tree (g.S.Space.contents c.args.space.now) c.args.self.now.root kind m c.args.from.now c.args.to.now _ t kl kh fl fh c.items_between.ensures.answer
