use Rattle.btree_family.specs.Classes.{class_seen}
use Rattle.zb_resolve.proofs.state.read_leaf.Goals as goal

pub returns-clause-shallow : goal.returns-clause-shallow
returns-clause-shallow c = c.keep_depth.ensures.bucket (class_seen c.args.row.now) c.in_ok-bucket.bucket c.in_ok-bucket.ensures.bucket
