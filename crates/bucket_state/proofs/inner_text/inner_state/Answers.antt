-- The parts of the text, one behind the other.
use Rattle.std.proofs.Common.{◌++◌, ◌+◌, ◌*◌, length, ap, ◌∙◌}
use Rattle.btree_family.specs.Classes.{class_seen}
use Rattle.bucket_state.specs.Flat.{texts_of}
use Rattle.bucket_state.specs.InnerText.{child_texts}
use Rattle.bucket_state.proofs.InnerPieces.{inner_written}
use Rattle.bucket_state.proofs.inner_text.inner_state.Goals as goal

pub returns : goal.returns
returns c =
    inner_written (class_seen c.args.child.now) (class_seen c.args.leaf.now) c.args.inner.now c.in_ok-count.count c.in_ok-start.start c.in_ok-head.head c.in_ok-text.text c.in_ok-children.children c.in_ok-all.all
    (c.in_ok-count.ensures ∙ ap (λ branches. length branches * 2 + 1) c.as_slice-branches.ensures)
    c.in_ok-start.ensures c.in_ok-head.ensures
    (c.in_ok-text.ensures ∙ ap (λ branches. c.in_ok-head.head ++ texts_of (child_texts (class_seen c.args.child.now) branches)) c.as_slice-branches.ensures)
    c.in_ok-children.ensures c.in_ok-all.ensures
