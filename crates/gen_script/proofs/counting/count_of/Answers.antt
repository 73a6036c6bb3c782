use Rattle.std.proofs.Common.{arith}
use Rattle.gen_script.proofs.Counts.{counts_done, counts_more}
use Rattle.gen_script.proofs.counting.count_of.Goals as goal

pub loop-k-preserved : goal.loop-k-preserved
loop-k-preserved c =
    counts_more c.args.client c.args.rounds c.loop-k.count c.loop-k.k c.in_round-count.result c.loop-k.invariant (omega (arith, c.loop-k-test.true)) c.in_round-count.ensures.value c.in_round-count.ensures.small

pub returns : goal.returns
returns c = counts_done c.args.client c.args.rounds c.loop-k.count c.loop-k.k c.requires.client c.loop-k.invariant (omega (arith, c.loop-k-test.false))
