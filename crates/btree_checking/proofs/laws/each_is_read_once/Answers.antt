-- A walk reads no object twice.
use Rattle.btree_checking.proofs.Once.{read_once}
use Rattle.btree_checking.proofs.laws.each_is_read_once.Goals as goal

pub returns : goal.returns
returns c = read_once
