-- A sound tree is found sound.
use Rattle.btree_checking.proofs.Sound.{sound_checked}
use Rattle.btree_checking.proofs.laws.sound_is_checked.Goals as goal

pub returns : goal.returns
returns c = sound_checked
