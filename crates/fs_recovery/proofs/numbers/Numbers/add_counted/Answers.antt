use Rattle.std.proofs.Common.{arith}
use Rattle.std.proofs.lemmas.Grind.{common_steps}
use Rattle.fs_recovery.proofs.Tallies.{numbers-push}
use Rattle.fs_recovery.proofs.numbers.Numbers.add_counted.Goals as goal

pub returns-clause-ok : goal.returns-clause-ok
returns-clause-ok c = λ list t tid_is packed_is count most numbers.
    numbers-push list t c.args.self.now _ c.args.counted.changes c.args.counted.greatest numbers count most
    (grind (arith, common_steps, c.in_ok-push.ensures.items, c.total.ensures, tid_is, packed_is))
    (grind (arith, common_steps, c.greater-self-inside.ensures))
    (rw (packed_is, tid_is) (grind (arith, common_steps, c.point_with-self-inside.ensures)))
