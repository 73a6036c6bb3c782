use Rattle.std.proofs.Common.{◌≡◌, ◌+◌, ◌*◌, ◌-◌, ◌^◌, ◌≤◌}
use Rattle.pickle_writing.specs.Spelling.{fewest}
use Rattle.pickle_writing.proofs.leaf_text.fewest_bytes.Given as goal

-- what is left to try gives what all of it gives
abbrev pub invariant-loop-more : goal.invariant-loop-more
invariant-loop-more l = record {
  same : fewest l.more l.size l.magnitude ≡ fewest 11 5 l.magnitude;
  left : l.size + l.more ≡ 16;
  low : 5 ≤ l.size;
  bound : l.limit ≡ 2 ^ (8 * l.size - 1);
}

abbrev pub decreases-loop-more : goal.decreases-loop-more
decreases-loop-more l = l.more
