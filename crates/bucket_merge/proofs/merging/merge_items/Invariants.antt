use Rattle.std.proofs.Common.{◌+◌, length}
use Rattle.bucket_merge.proofs.Walks.{Walked}
use Rattle.bucket_merge.proofs.merging.merge_items.Given as goal

-- what is merged and what is left give the whole
abbrev pub invariant-keys : goal.invariant-keys
invariant-keys l = Walked l.fn.old l.fn.committed l.fn.stored l.a l.b l.c l.merged

abbrev pub decreases-keys : goal.decreases-keys
decreases-keys l = length l.a + length l.b + length l.c
