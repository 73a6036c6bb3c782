use Rattle.std.proofs.Common.{◌≡◌, ◌+◌, ◌≤◌, ◌∷◌, ◌++◌, List, length, map, sym, ap, subst, ◌∙◌, arith}
use Rattle.std.specs.Prelude.{All}
use Rattle.std.specs.List.{sum_by}
use Rattle.std.specs.Vec.Iter.{into_iter_items, into_iter_len}
use Rattle.std.proofs.lemmas.List.Elements.{All-head, All-push, All-rest}
use Rattle.zb_model.specs.declared.new_transaction.NewChange.{NewChange}
use Rattle.zb_model.specs.declared.pending.PendingStore.{PendingStore}
use Rattle.zb_model.specs.Database.{serial_of, IsRecord}
use Rattle.zb_model.specs.Stores.{StoreState}
use Rattle.commit_phases.specs.Decision.{changes_of_stores}
use Rattle.zb_model.specs.Voting.{IsHeld, voted_change}
use Rattle.commit_phases.specs.Resolving.{behind_changes, held_count, record_count}
use Rattle.commit_phases.specs.Voted.{AreCurrentRecords, IsNewRecord}
use Rattle.commit_phases.proofs.Settling.{few_more, kept_twice, oids_more, rest_more}
use Rattle.commit_phases.proofs.deciding.changes_of.Goals as goal

pub loop-pending-preserved : goal.loop-pending-preserved
loop-pending-preserved g c =
    let old : StoreState = g.St.Store.state c.args.store.now in
    let mid : StoreState = g.St.Store.state c.loop-pending.store in
    let inv = c.loop-pending.invariant in
    let read = c.in_ok-change.ensures.read in
    let p : PendingStore = c.in-Some.pending in
    let change : NewChange = c.in_ok-change.change in
    let done : List NewChange = c.loop-pending.changes in
    let items : List PendingStore = into_iter_items c.loop-pending.pending-iterator in
    let left : List PendingStore = into_iter_items c.next.new.self in
    let is : items ≡ p ∷ left = c.in-Some.ensures.steps.0 in
    let fewer : into_iter_len c.next.new.self + 1 ≡ into_iter_len c.loop-pending.pending-iterator = c.in-Some.ensures.steps.1 in
    let ends : into_iter_len c.loop-pending.pending-iterator ≡ length items = inv.ends in
    let lengths : length items ≡ length (p ∷ left) = ap (λ (ps : List PendingStore). length ps) is in
    record {
      same = kept_twice old mid (g.St.Store.state c.change_of.new.store) inv.same read.same;
      counted = read.answered ∙ inv.counted;
      ends = omega (arith, fewer, ends, lengths);
      oids = subst (λ (cs : List NewChange). map (λ c. c.oid) cs ++ map (λ p. p.oid) left ≡ map (λ p. p.oid) c.args.stores) (sym c.in_ok-keep.ensures)
          (oids_more done change p left items c.args.stores is c.in_ok-change.ensures.oid inv.oids);
      left_filled = All-rest (λ (p : PendingStore). IsRecord p.content) p left items is inv.left_filled;
      filled = subst (λ (cs : List NewChange). All (λ c. IsNewRecord c.content) cs) (sym c.in_ok-keep.ensures)
          (All-push (λ (c : NewChange). IsNewRecord c.content) done change inv.filled c.in_ok-change.ensures.filled);
      few = subst (λ (cs : List NewChange). sum_by (λ c. record_count c.content) cs + sum_by (λ p. held_count p.content) left ≤ sum_by (λ p. held_count p.content) c.args.stores) (sym c.in_ok-keep.ensures)
          (few_more done change p left items _ is c.in_ok-change.ensures.few inv.few);
      rest = λ told. subst (λ (cs : List NewChange). changes_of_stores (g.R.Resolver.rules c.args.resolver.now) old.list c.args.stores ≡ behind_changes (map (voted_change old.list) cs) (changes_of_stores (g.R.Resolver.rules c.args.resolver.now) old.list left)) (sym c.in_ok-keep.ensures)
          (rest_more (g.R.Resolver.rules c.args.resolver.now) old.list mid.list p left items done change _ (ap (λ (s : StoreState). s.list) inv.same) is (c.in_ok-change.ensures.decided told) (inv.rest told));
      left_current = λ told current. All-rest (λ (p : PendingStore). IsHeld p.content × (p.base ≡ serial_of p.oid old.list)) p left items is (inv.left_current told current);
      unread = λ told current.
          let same : mid ≡ old = inv.unread told current in
          let here : IsHeld p.content × (p.base ≡ serial_of p.oid old.list) = All-head (λ (p : PendingStore). IsHeld p.content × (p.base ≡ serial_of p.oid old.list)) p left (subst (λ (ps : List PendingStore). AreCurrentRecords old.list ps) is (inv.left_current told current)) in
          c.in_ok-change.ensures.unread told here.0 (here.1 ∙ ap (λ (s : StoreState). serial_of p.oid s.list) (sym same)) ∙ same;
    }
