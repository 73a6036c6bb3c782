-- The parts of the text, one behind the other.
use Rattle.std.proofs.Common.{◌++◌, subst, ap, ◌∙◌}
use Rattle.std.specs.Prelude.{length}
use Rattle.std.specs.Option.{IfSome}
use Rattle.btree_family.specs.Classes.{class_seen}
use Rattle.bucket_state.specs.Flat.{IsWithItems, tuple_start, members_of, next_text}
use Rattle.bucket_state.proofs.FlatPieces.{state_text}
use Rattle.bucket_state.proofs.flat.flat_state.Goals as goal

pub returns : goal.returns
returns c =
    let same = c.as_slice-items.ensures ∙ c.items.ensures.items in
    state_text (class_seen c.args.row.now) c.args.bucket.now c.in_ok-count.count c.in-Some.text c.in_ok-inner.inner c.in_ok-all.all
    (c.in_ok-count.ensures ∙ (λ k. members_of (c.has_values.ensures k) (length (same k))))
    (subst (λ items. IsWithItems (class_seen c.args.row.now) (tuple_start c.in_ok-count.count) items c.in-Some.text) same
    (subst (λ start. IsWithItems (class_seen c.args.row.now) start c.as_slice-items.result.now c.in-Some.text) c.in_ok-start.ensures
    (subst (λ o. IfSome o (IsWithItems (class_seen c.args.row.now) c.in_ok-start.start c.as_slice-items.result.now)) c.in-Some.is c.in_ok-text.ensures)))
    c.in_ok-inner.ensures
    (c.in_ok-all.ensures ∙ ap (λ next. c.in_ok-inner.inner ++ next_text (class_seen c.args.row.now) next) c.next.ensures)
