-- The class that is found is one of the table.
use Rattle.btree_family.specs.Classes.{leaf_kind}
use Rattle.btree_family.proofs.Lines.{leaf_line}
use Rattle.btree_family.proofs.table.leaf_of.Goals as goal

pub returns-clause-global : goal.returns-clause-global
returns-clause-global c = leaf_line c.args.class.now.«module».now (leaf_kind c.args.class.now.kind) c.find_leaf.result c.find_leaf.ensures
