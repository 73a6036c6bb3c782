-- Where the keys from here on are so, all are.
use Rattle.std.proofs.Common.{drop}
use Rattle.btree_family.specs.Buckets.{keys_of}
use Rattle.bucket_state.specs.FlatGraphs.{AreSignedKeys}
use Rattle.btree_putting.proofs.straight.see_all_signed.Given as goal

abbrev pub invariant-loop-item : goal.invariant-loop-item
invariant-loop-item l = AreSignedKeys (keys_of (drop l.item-index l.items)) → AreSignedKeys (keys_of l.items)
