-- What the branches from here on add to what is written gives the whole.
use Rattle.std.proofs.Common.{◌≡◌, ◌++◌, drop}
use Rattle.btree_family.specs.Classes.{class_seen}
use Rattle.bucket_state.specs.Flat.{texts_of}
use Rattle.bucket_state.specs.InnerText.{child_texts}
use Rattle.bucket_state.proofs.inner_text.with_children.Given as goal

abbrev pub invariant-loop-branch : goal.invariant-loop-branch
invariant-loop-branch l =
    l.all ++ texts_of (child_texts (class_seen l.child) (drop l.branch-index l.branches)) ≡ l.fn.text ++ texts_of (child_texts (class_seen l.child) l.branches)
