use Rattle.std.proofs.Common.{arith}
use Rattle.zb_volume.proofs.memory.measure.Goals as goal

pub returns-clause-bytes : goal.returns-clause-bytes
returns-clause-bytes c = λ k. omega (arith, c.type_inv.bytes k)
