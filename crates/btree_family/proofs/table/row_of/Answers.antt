-- The class that is found is one of the table.
use Rattle.btree_family.proofs.Lines.{row_line}
use Rattle.btree_family.proofs.table.row_of.Goals as goal

pub returns-clause-global : goal.returns-clause-global
returns-clause-global c = row_line c.args.module_name.now c.args.class_name.now c.find_class.result c.find_class.ensures
