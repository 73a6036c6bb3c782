use Rattle.std.proofs.Common.{length, ◌-◌, ◌≡◌}
use Rattle.tree_attempts.proofs.Recalled.{SameSo}
use Rattle.tree_attempts.proofs.cache.same_bytes.Given as goal

abbrev pub invariant-bytes : goal.invariant-bytes
invariant-bytes l = record {
  long : length l.a ≡ length l.b;
  same : SameSo l.a l.b l.place l.same;
}

abbrev pub decreases-bytes : goal.decreases-bytes
decreases-bytes l = length l.a - l.place
