-- The test on the table, and what it means for each class.
use Rattle.std.proofs.Common.{refl}
use Rattle.btree_family.specs.Classes.{classes}
use Rattle.btree_family.proofs.Once.{class_in-names, same_place}
use Rattle.btree_family.proofs.laws.classes_stand_once.Goals as goal

pub returns-clause-once : goal.returns-clause-once
returns-clause-once c = λ i j a b at_i at_j p q. same_place classes i j a b refl at_i at_j p q

pub returns-clause-found : goal.returns-clause-found
returns-clause-found c = λ i class here. class_in-names classes i class refl here
