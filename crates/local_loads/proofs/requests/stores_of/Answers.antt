use Rattle.std.proofs.Common.{◌≡◌, ◌+◌, ◌∷◌, List, length, sym, ap, subst, ◌∙◌, arith}
use Rattle.std.specs.Prelude.{All}
use Rattle.std.specs.Vec.Iter.{into_iter_items, into_iter_len}
use Rattle.std.proofs.lemmas.List.Elements.{All-rest}
use Rattle.zb_model.specs.declared.pending.PendingStore.{PendingStore}
use Rattle.zb_model.specs.Database.{IsRecord}
use Rattle.local_loads.proofs.Waiting.{all_wait, one_more_waits}
use Rattle.local_loads.proofs.requests.stores_of.Goals as goal

pub loop-store-init : goal.loop-store-init
loop-store-init c =
    let gives = c.into_iter-store-iterator.ensures.into_iter_gives in
    let is = gives.0 ∙ c.into_vec-store-items.ensures in
    record {
      ends = omega (arith, gives.1, ap (λ (ps : List PendingStore). length ps) gives.0, c.into_vec-store-items.result.ok.0);
      left_filled = subst (λ (ps : List PendingStore). All (λ p. IsRecord p.content) ps) (sym is) c.requires.stores.filled;
      rest = all_wait _ _ c.args.stores c.new-pending.ensures.stores is c.requires.stores.distinct;
      checks = c.new-pending.ensures.checks;
    }

pub loop-store-preserved : goal.loop-store-preserved
loop-store-preserved c =
    let inv = c.loop-store.invariant in
    let p : PendingStore = c.in-Some.store in
    let items : List PendingStore = into_iter_items c.loop-store.store-iterator in
    let left : List PendingStore = into_iter_items c.next.new.self in
    let is : items ≡ p ∷ left = c.in-Some.ensures.steps.0 in
    let fewer : into_iter_len c.next.new.self + 1 ≡ into_iter_len c.loop-store.store-iterator = c.in-Some.ensures.steps.1 in
    let ends : into_iter_len c.loop-store.store-iterator ≡ length items = inv.ends in
    let lengths : length items ≡ length (p ∷ left) = ap (λ (ps : List PendingStore). length ps) is in
    record {
      ends = omega (arith, fewer, ends, lengths);
      left_filled = All-rest (λ (q : PendingStore). IsRecord q.content) p left items is inv.left_filled;
      rest = one_more_waits c.loop-store.pending.stores c.put.new.self.stores items left p c.args.stores is c.in-Ok.ensures.ok inv.rest;
      checks = c.put.ensures.checks ∙ inv.checks;
    }
