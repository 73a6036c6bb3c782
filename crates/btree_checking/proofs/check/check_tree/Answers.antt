-- What the verdict means.
use Rattle.btree_checking.proofs.Sound.{means_tree}
use Rattle.btree_checking.proofs.check.check_tree.Goals as goal

pub returns-clause-tree : goal.returns-clause-tree
returns-clause-tree g c = means_tree (g.S.Space.contents c.args.space.now) c.args.root c.walk_tree.result c.checked_is_sound.ensures c.walk_tree.ensures.verdict
