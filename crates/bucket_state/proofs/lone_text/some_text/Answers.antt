-- The parts of the text, one behind the other.
use Rattle.std.proofs.Common.{subst, ◌∙◌}
use Rattle.std.specs.Prelude.{length}
use Rattle.std.specs.Option.{IfSome}
use Rattle.btree_family.specs.Classes.{class_seen}
use Rattle.bucket_state.specs.Flat.{IsWithItems, members_of}
use Rattle.bucket_state.proofs.LonePieces.{tree_text}
use Rattle.bucket_state.proofs.lone_text.some_text.Goals as goal

pub returns : goal.returns
returns c =
    tree_text (class_seen c.args.row.now) c.args.items.now c.in_ok-count.count c.in-Some.text c.in_ok-inner.inner c.in_ok-all.all
    c.requires
    (c.in_ok-count.ensures ∙ (λ k. members_of (c.has_values.ensures k) (length c.args.items.now)))
    (subst (λ start. IsWithItems (class_seen c.args.row.now) start c.args.items.now c.in-Some.text) c.in_ok-start.ensures
    (subst (λ o. IfSome o (IsWithItems (class_seen c.args.row.now) c.in_ok-start.start c.args.items.now)) c.in-Some.is c.in_ok-text.ensures))
    c.in_ok-inner.ensures
    c.in_ok-all.ensures
