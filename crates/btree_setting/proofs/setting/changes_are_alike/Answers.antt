use Rattle.btree_setting.proofs.Alike.{changes_are_alike}
use Rattle.btree_setting.proofs.setting.changes_are_alike.Goals as goal

pub returns : goal.returns
returns c = changes_are_alike c.alike_records_are_kept.ensures c.same_graphs_hold_the_same.ensures c.links_stand_apart.ensures c.written_objects_read_back.ensures
