-- What the branches from here on make of what is laid so far is the whole.
use Rattle.std.proofs.Common.{◌≡◌, drop}
use Rattle.btree_family.specs.Classes.{class_seen}
use Rattle.bucket_state.specs.Trees.{separators_of}
use Rattle.bucket_state.specs.Written.{laid_all, child_graphs}
use Rattle.bucket_state.specs.Writable.{AreWritable}
use Rattle.bucket_state.proofs.writing.lay_branches.Given as goal

abbrev pub invariant-loop-branch : goal.invariant-loop-branch
invariant-loop-branch l = record {
  whole : laid_all l.side (child_graphs (class_seen l.child) (drop l.branch-index l.branches)) ≡ laid_all l.initial.side (child_graphs (class_seen l.child) l.branches);
  writable : AreWritable (separators_of (drop l.branch-index l.branches));
}
