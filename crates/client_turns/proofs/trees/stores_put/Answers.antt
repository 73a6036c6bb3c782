use Rattle.std.proofs.Common.{◌≡◌, ◌+◌, ◌<◌, ◌∷◌, ◌++◌, List, length, sym, ap, subst, arith}
use Rattle.std.specs.Prelude.{All}
use Rattle.std.specs.Vec.Iter.{into_iter_items, into_iter_len}
use Rattle.std.proofs.lemmas.List.Elements.{All-head, All-push, All-rest}
use Rattle.zb_model.specs.declared.data.Content.TheVariants.{Held}
use Rattle.zb_model.specs.declared.pending.PendingStore.{PendingStore}
use Rattle.zb_model.specs.Database.{IsRecord}
use Rattle.tree_attempts.specs.declared.put.TreePut.{TreePut}
use Rattle.client_turns.specs.Trees.{stores_put}
use Rattle.client_turns.proofs.Calling.{stores_more}
use Rattle.client_turns.proofs.trees.stores_put.Goals as goal

pub loop-put-preserved : goal.loop-put-preserved
loop-put-preserved c =
    let inv = c.loop-put.invariant in
    let p : TreePut = c.in-Some.put in
    let done : List PendingStore = c.loop-put.stores in
    let store : PendingStore = record { oid = p.oid; base = p.base; content = Held p.bytes } in
    let items : List TreePut = into_iter_items c.loop-put.put-iterator in
    let left : List TreePut = into_iter_items c.next.new.self in
    let is : items ≡ p ∷ left = c.in-Some.ensures.steps.0 in
    let fewer : into_iter_len c.next.new.self + 1 ≡ into_iter_len c.loop-put.put-iterator = c.in-Some.ensures.steps.1 in
    let ends : into_iter_len c.loop-put.put-iterator ≡ length items = inv.ends in
    let lengths : length items ≡ length (p ∷ left) = ap (λ (ps : List TreePut). length ps) is in
    let first : 0 < length p.bytes = All-head (λ (p : TreePut). 0 < length p.bytes) p left (subst (λ (ps : List TreePut). All (λ p. 0 < length p.bytes) ps) is inv.filled) in
    record {
      ends = omega (arith, fewer, ends, lengths);
      filled = All-rest (λ (p : TreePut). 0 < length p.bytes) p left items is inv.filled;
      records = subst (λ (ps : List PendingStore). All (λ p. IsRecord p.content) ps) (sym c.in_ok-push.ensures.ok) (All-push (λ (p : PendingStore). IsRecord p.content) done store inv.records first);
      rest = subst (λ (ps : List PendingStore). ps ++ stores_put left ≡ stores_put c.args.puts) (sym c.in_ok-push.ensures.ok) (stores_more done p left items c.args.puts is inv.rest);
    }
