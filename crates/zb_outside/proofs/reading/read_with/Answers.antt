use Rattle.std.proofs.Common.{arith, ℕ, length-take}
use Rattle.zb_outside.specs.WrittenLaws.{taken_more}
use Rattle.zb_outside.proofs.reading.read_with.Goals as goal

pub returns-then-is_err-clause-taken : goal.returns-then-is_err-clause-taken
returns-then-is_err-clause-taken g c =
    taken_more _ _ _ _ _ _ _ c.reading.invariant.given c.in_ok-count.ensures.bytes.0 (omega (arith, c.in_ok-count.ensures.fits, length-take {A = ℕ}))
