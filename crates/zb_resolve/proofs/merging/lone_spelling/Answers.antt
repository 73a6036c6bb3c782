use Rattle.btree_family.specs.Classes.{class_seen}
use Rattle.zb_resolve.proofs.Whole.{lone_spelled}
use Rattle.zb_resolve.proofs.merging.lone_spelling.Goals as goal

pub returns : goal.returns
returns c = lone_spelled c.lone_states_are_spelled.ensures.spelled (class_seen c.args.row.now) c.args.leaf.now.items c.lone_state.result c.lone_state.ensures
