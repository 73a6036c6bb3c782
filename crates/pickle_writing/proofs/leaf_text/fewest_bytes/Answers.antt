use Rattle.std.proofs.Common.{◌∙◌, arith}
use Rattle.pickle_writing.proofs.Pieces.{fewest_on, limit_next}
use Rattle.pickle_writing.proofs.leaf_text.fewest_bytes.Goals as goal

pub loop-more-preserved : goal.loop-more-preserved
loop-more-preserved c =
    let i = c.loop-more.invariant in
    let some = c.loop-more-test.true in
    record {
      same = fewest_on c.loop-more.more c.loop-more.size c.args.magnitude c.loop-more.limit some i.bound c.if-magnitude-limit.false ∙ i.same;
      left = omega (arith, some, i.left);
      low = omega (arith, i.low);
      bound = limit_next c.loop-more.size c.loop-more.limit (omega (arith, i.low)) i.bound;
    }
