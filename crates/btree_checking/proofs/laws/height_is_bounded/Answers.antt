-- No way down has more objects than there are numbers.
use Rattle.btree_checking.proofs.Heights.{height_bounded}
use Rattle.btree_checking.proofs.laws.height_is_bounded.Goals as goal

pub returns : goal.returns
returns c = height_bounded
