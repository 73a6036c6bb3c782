use Rattle.std.proofs.Common.{◌≡◌, ◌∷◌, List, ◌∙◌}
use Rattle.std.specs.Vec.Iter.{into_iter_items, into_iter_len}
use Rattle.zb_model.specs.declared.pending.PendingStore.{PendingStore}
use Rattle.commit_phases.specs.TakingLaws.{one_fewer}
use Rattle.savepoints.specs.Log.{all_whole}
use Rattle.savepoints.proofs.Undoing.{notes_more, rest_stored}
use Rattle.savepoints.proofs.noting.put_each.Goals as goal

pub loop-store-preserved : goal.loop-store-preserved
loop-store-preserved c =
    let inv = c.loop-store.invariant in
    let p : PendingStore = c.in-Some.store in
    let items : List PendingStore = into_iter_items c.loop-store.store-iterator in
    let left : List PendingStore = into_iter_items c.next.new.self in
    let is : items ≡ p ∷ left = c.in-Some.ensures.steps.0 in
    record {
      are_left = one_fewer (into_iter_len c.loop-store.store-iterator) (into_iter_len c.next.new.self) items left p is c.in-Some.ensures.steps.1 inv.are_left;
      notes = notes_more c.args.pending.now.stores c.loop-store.pending.stores c.put_noting.new.pending.stores c.args.log.now.items c.loop-store.log.items c.put_noting.new.log.items inv.notes c.put_noting.ensures.notes;
      contents = notes_more c.args.pending.now.stores c.loop-store.pending.stores c.put_noting.new.pending.stores (all_whole c.args.contents.now.items) (all_whole c.loop-store.contents.items) (all_whole c.put_noting.new.contents.items) inv.contents c.put_noting.ensures.contents;
      checks = c.put_noting.ensures.checks ∙ inv.checks;
      rest = rest_stored c.args.pending.now.stores c.args.stores c.loop-store.pending.stores _ items left p is c.in_ok-put_noting.ensures.answer c.in_ok-put_noting.ensures.ok inv.rest;
    }
