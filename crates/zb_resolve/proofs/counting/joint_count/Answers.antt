use Rattle.std.proofs.Common.{◌+ℤ◌, FitsSigned, rules}
use Rattle.std.specs.Int.{w128}
use Rattle.zb_resolve.proofs.Counts.{sum_less, less_sum}
use Rattle.zb_resolve.proofs.counting.joint_count.Goals as goal

pub returns-then-committed-stored : goal.returns-then-committed-stored
returns-then-committed-stored c =
    let fits : FitsSigned w128 (c.args.committed +ℤ c.args.stored) = search rules in
    sum_less c.checked_sub.result c.args.committed c.args.stored c.args.old c.ranges.committed c.ranges.stored c.ranges.old fits c.checked_sub.ensures

pub returns-in-Some : goal.returns-in-Some
returns-in-Some c =
    less_sum c.checked_add.result c.args.committed c.args.stored c.args.old c.in-Some.added c.ranges.committed c.ranges.stored c.ranges.old c.in-Some.ensures c.checked_add.ensures
