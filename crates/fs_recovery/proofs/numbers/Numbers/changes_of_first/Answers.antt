use Rattle.std.proofs.Common.{Some, None, arith}
use Rattle.fs_recovery.proofs.Tallies.{first_counted}
use Rattle.fs_recovery.proofs.numbers.Numbers.changes_of_first.Goals as goal

pub returns-in-Some : goal.returns-in-Some
returns-in-Some c = λ list within are. first_counted list c.args.self.now c.args.count (Some c.in-Some.tally) (omega (arith, c.if-count-eq0.false)) within are c.in-Some.ensures

pub returns-in-None : goal.returns-in-None
returns-in-None c = λ list within are. first_counted list c.args.self.now c.args.count None (omega (arith, c.if-count-eq0.false)) within are c.in-None.ensures
