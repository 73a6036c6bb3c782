use Rattle.std.proofs.Common.{◌≡◌, ◌++◌, Option, Some, sym, ◌∙◌, ap}
use Rattle.btree_family.specs.declared.bucket.Item.{Item}
use Rattle.bucket_merge.specs.Walk.{least_of_all, as_list}
use Rattle.bucket_merge.proofs.Walks.{walked_refused, walked_next}
use Rattle.bucket_merge.proofs.merging.merge_items.Goals as goal

pub returns-then-is_changed_by_both : goal.returns-then-is_changed_by_both
returns-then-is_changed_by_both c =
    let e : least_of_all c.keys.a.now c.keys.b.now c.keys.c.now ≡ Some c.in-Some.key.now = sym c.in-Some.ensures in
    walked_refused c.args.old.now c.args.committed.now c.args.stored.now c.keys.a.now c.keys.b.now c.keys.c.now c.keys.merged c.in-Some.key.now c.in_ok-clone.field-0
    _ _ _ c.keys.invariant e c.split_at.ensures.first c.split_at-in-Some.ensures.first c.split_at-in-Some-2.ensures.first
    (sym c.if-is_changed_by_both.ensures) c.in_ok-clone.ensures.cases

pub keys-preserved : goal.keys-preserved
keys-preserved c =
    let e : least_of_all c.keys.a.now c.keys.b.now c.keys.c.now ≡ Some c.in-Some.key.now = sym c.in-Some.ensures in
    walked_next c.args.old.now c.args.committed.now c.args.stored.now c.keys.a.now c.keys.b.now c.keys.c.now c.keys.merged _ _ _ _ c.in-Some.key.now
    _ _ _ c.keys.invariant e c.split_at.ensures.first c.split_at-in-Some.ensures.first c.split_at-in-Some-2.ensures.first
    c.split_at.ensures.rest c.split_at-in-Some.ensures.rest c.split_at-in-Some-2.ensures.rest
    (sym c.if-is_changed_by_both.ensures) (c.in_ok-merged.ensures ∙ ap (λ (o : Option Item). c.keys.merged ++ as_list o) c.kept.ensures)
