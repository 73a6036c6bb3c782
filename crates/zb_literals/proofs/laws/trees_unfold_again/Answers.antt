use Rattle.zb_literals.proofs.UnfoldLaws.{tree_unfolds}
use Rattle.zb_literals.proofs.laws.trees_unfold_again.Goals as goal

pub returns : goal.returns
returns c levels v h = tree_unfolds levels v h
