-- What is found sound is a sound tree.
use Rattle.btree_checking.proofs.Contents.{rows}
use Rattle.btree_checking.proofs.Sound.{checked_sound}
use Rattle.btree_shapes.specs.Nodes.{objects_of}
use Rattle.btree_checking.proofs.laws.checked_is_sound.Goals as goal

pub returns : goal.returns
returns c = λ contents root. checked_sound (objects_of contents root) (rows contents root) root
