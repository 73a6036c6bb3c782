-- What was read may stand in a bucket.
use Rattle.btree_family.specs.Classes.{class_seen}
use Rattle.std.proofs.Common.{List, sym, subst}
use Rattle.btree_family.specs.declared.bucket.Item.{Item}
use Rattle.btree_family.specs.Buckets.{keys_of}
use Rattle.bucket_state.specs.Writable.{AreWritable}
use Rattle.bucket_state.proofs.Sound.{items_bucket, items_writable}
use Rattle.bucket_state.proofs.reading.read_contents.Goals as goal

pub new-requires : goal.new-requires
new-requires c = record { bucket = items_bucket (class_seen c.args.row.now) c.args.pickle.now.nodes c.args.pickle.now.root c.in-Some.members.now c.in_ok-items.items c.nodes.ensures.graph c.in_ok-items.ensures }

pub returns-clause-writable : goal.returns-clause-writable
returns-clause-writable c =
    subst (λ (x : List Item). AreWritable (keys_of x)) (sym c.new.ensures.items)
    (items_writable (class_seen c.args.row.now) c.args.pickle.now.nodes c.args.pickle.now.root c.in-Some.members.now c.in_ok-items.items c.nodes.ensures.graph c.in_ok-items.ensures)
