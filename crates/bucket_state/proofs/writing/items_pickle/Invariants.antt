-- What the items from here on make of what is laid so far is the whole.
use Rattle.std.proofs.Common.{◌≡◌, drop}
use Rattle.btree_family.specs.Buckets.{keys_of}
use Rattle.bucket_state.specs.Written.{laid_all, no_graphs, item_graphs}
use Rattle.bucket_state.specs.Writable.{AreWritable}
use Rattle.bucket_state.proofs.writing.items_pickle.Given as goal

abbrev pub invariant-loop-item : goal.invariant-loop-item
invariant-loop-item l = record {
  whole : laid_all l.side (item_graphs (drop l.item-index l.items)) ≡ laid_all no_graphs (item_graphs l.items);
  writable : AreWritable (keys_of (drop l.item-index l.items));
}
