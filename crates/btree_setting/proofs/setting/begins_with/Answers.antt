use Rattle.btree_setting.proofs.Ahead.{front_same}
use Rattle.btree_setting.proofs.setting.begins_with.Goals as goal

pub returns : goal.returns
returns c e = front_same _ _ _ _ c.split_at.ensures.front c.eq.ensures e
