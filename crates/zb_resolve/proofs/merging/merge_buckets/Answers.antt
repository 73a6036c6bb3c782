use Rattle.zb_resolve.specs.States.{depth_of}
use Rattle.zb_resolve.proofs.Whole.{merged_shallow}
use Rattle.zb_resolve.proofs.Buckets.{merged_writable, refusal_writable}
use Rattle.zb_resolve.proofs.merging.merge_buckets.Goals as goal

pub leaf_bytes-requires-clause-keys : goal.leaf_bytes-requires-clause-keys
leaf_bytes-requires-clause-keys c =
    merged_writable c.args.old.now c.args.committed.now c.args.stored.now c.in-Ok.leaf c.requires.old c.requires.committed c.requires.stored c.in-Ok.ensures

pub leaf_bytes-requires-clause-shallow : goal.leaf_bytes-requires-clause-shallow
leaf_bytes-requires-clause-shallow c =
    merged_shallow (depth_of c.args.row.now.kind) c.args.old.now c.args.committed.now c.args.stored.now c.in-Ok.leaf c.requires.committed_depth c.requires.stored_depth c.in-Ok.ensures

pub refused-requires : goal.refused-requires
refused-requires c =
    refusal_writable c.args.old.now c.args.committed.now c.args.stored.now c.in-Err.refusal c.requires.old c.requires.committed c.requires.stored c.in-Err.ensures
