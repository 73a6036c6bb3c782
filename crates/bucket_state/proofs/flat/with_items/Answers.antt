-- One item more.
use Rattle.std.proofs.Common.{◌∷◌, [], drop, ◌+◌, subst, sym, ap, ◌∙◌}
use Rattle.std.specs.Option.{IfSome}
use Rattle.std.proofs.lemmas.List.{drop_more}
use Rattle.btree_family.specs.Classes.{class_seen}
use Rattle.bucket_state.specs.Flat.{IsWithItems}
use Rattle.bucket_state.proofs.FlatPieces.{one_more}
use Rattle.bucket_state.proofs.flat.with_items.Goals as goal

pub loop-item-preserved : goal.loop-item-preserved
loop-item-preserved c = λ text h. c.loop-item.invariant text
    (subst (λ items. IsWithItems (class_seen c.args.row.now) c.loop-item.all items text) (sym (drop_more c.args.items.now c.loop-item.item-index c.item-item.result c.loop-item-test.true ∙ ap (λ item. item ∷ drop (c.loop-item.item-index + 1) c.args.items.now) (sym c.item-item.is)))
    (one_more (class_seen c.args.row.now) c.loop-item.all c.item-item.result c.in-Some.more
    (subst (λ o. IfSome o (IsWithItems (class_seen c.args.row.now) c.loop-item.all (c.item-item.result ∷ []))) c.in-Some.is c.in_ok-with_item.ensures)
    (drop (c.loop-item.item-index + 1) c.args.items.now) text h))
