use Rattle.std.proofs.Common.{◌≡◌, ◌∷◌, List, ◌∙◌}
use Rattle.std.specs.Vec.Iter.{into_iter_items, into_iter_len}
use Rattle.zb_model.specs.declared.pending.PendingStore.{PendingStore}
use Rattle.commit_phases.specs.Kept.{stores_of}
use Rattle.commit_phases.specs.TakingLaws.{one_fewer}
use Rattle.commit_phases.proofs.Restoring.{rest_stored}
use Rattle.commit_phases.proofs.several.put_each.Goals as goal

pub loop-store-preserved : goal.loop-store-preserved
loop-store-preserved c =
    let inv = c.loop-store.invariant in
    let p : PendingStore = c.in-Some.store in
    let items : List PendingStore = into_iter_items c.loop-store.store-iterator in
    let left : List PendingStore = into_iter_items c.next.new.self in
    let is : items ≡ p ∷ left = c.in-Some.ensures.steps.0 in
    record {
      are_left = one_fewer (into_iter_len c.loop-store.store-iterator) (into_iter_len c.next.new.self) items left p is c.in-Some.ensures.steps.1 inv.are_left;
      are = c.put_noting.ensures.stores;
      size = c.in_ok-size.ensures.size;
      restored = c.put_noting.ensures.restored ∙ inv.restored;
      rest = rest_stored (stores_of c.args.stores.now.entries) c.args.list (stores_of c.loop-store.stores.entries) _ items left p is c.in_ok-size.ensures.answer c.in_ok-size.ensures.ok inv.rest;
    }
