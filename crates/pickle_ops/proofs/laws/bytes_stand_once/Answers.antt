-- The test on the table, and what it means at each row.
use Rattle.std.proofs.Common.{refl}
use Rattle.pickle_ops.specs.declared.table.TheConstants.{TABLE}
use Rattle.pickle_ops.proofs.Once.{row_in-byte, same_place}
use Rattle.pickle_ops.proofs.laws.bytes_stand_once.Goals as goal

pub returns-clause-once : goal.returns-clause-once
returns-clause-once c = λ i j a b at_i at_j same. same_place TABLE.rows i j a b refl at_i at_j same

pub returns-clause-found : goal.returns-clause-found
returns-clause-found c = λ i row here. row_in-byte TABLE.rows i row refl here
