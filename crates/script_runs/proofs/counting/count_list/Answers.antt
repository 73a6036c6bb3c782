use Rattle.std.proofs.Common.{◌≡◌, ◌++◌, ℕ, List, Some, ap, refl, subst, ◌∙◌}
use Rattle.std.specs.FinSet.{len}
use Rattle.zb_model.specs.declared.data.Transaction.{Transaction}
use Rattle.zb_model.specs.Queries.{oids_of, transaction_at}
use Rattle.zb_model.specs.Stores.{StoreState}
use Rattle.script_runs.specs.Counted.{held_among}
use Rattle.script_runs.proofs.Held.{counted_all, counted_first, counted_more, read_then}
use Rattle.script_runs.proofs.counting.count_list.Goals as goal

pub loop-count-init : goal.loop-count-init
loop-count-init g c = record {
  same = refl;
  faults = refl;
  counted = λ told. counted_first (g.St.Store.state c.args.store.now).list c.new-found.result (g.met.St.Store.database c.args.store.now told c.requires.whole) c.new-found.ensures;
}

pub returns-in_default-clause-transactions : goal.returns-in_default-clause-transactions
returns-in_default-clause-transactions g c = λ told.
    let list = (g.St.Store.state c.args.store.now).list in
    let here : (g.St.Store.state c.loop-count.store).list ≡ list = ap (λ (s : StoreState). s.list) c.loop-count.invariant.same in
    (counted_all list (g.St.Store.state c.loop-count.store).list c.loop-count.seen c.loop-count.count c.loop-count.found (c.loop-count.invariant.counted told) here c.first_tid_after.result (c.first_tid_after.ensures told) c.in_default.is).0

pub returns-in_default-clause-objects : goal.returns-in_default-clause-objects
returns-in_default-clause-objects g c = λ told.
    let list = (g.St.Store.state c.args.store.now).list in
    let here : (g.St.Store.state c.loop-count.store).list ≡ list = ap (λ (s : StoreState). s.list) c.loop-count.invariant.same in
    c.len.ensures.count
    ∙ ap len (counted_all list (g.St.Store.state c.loop-count.store).list c.loop-count.seen c.loop-count.count c.loop-count.found (c.loop-count.invariant.counted told) here c.first_tid_after.result (c.first_tid_after.ensures told) c.in_default.is).1

pub loop-count-preserved : goal.loop-count-preserved
loop-count-preserved g c =
    let old = g.St.Store.state c.args.store.now in
    let now = g.St.Store.state c.loop-count.store in
    let here : now.list ≡ old.list = ap (λ (s : StoreState). s.list) c.loop-count.invariant.same in
    record {
      same = read_then old now (g.St.Store.state c.find_objects.new.store) c.loop-count.invariant.same c.find_objects.ensures.read.same;
      faults = c.in_ok-find_objects.ensures.read.answered ∙ c.loop-count.invariant.faults;
      counted = λ told.
          counted_more old.list now.list c.loop-count.seen c.loop-count.count c.loop-count.found (c.loop-count.invariant.counted told) here c.first_tid_after.result (c.first_tid_after.ensures told) c.in-Some.tid c.find_objects.new.found c.in-Some.is
          (subst (λ (list : List Transaction). (x : Transaction) (before : List ℕ) → transaction_at c.in-Some.tid list ≡ Some x → c.loop-count.found ≡ held_among list before → c.find_objects.new.found ≡ held_among list (before ++ oids_of x)) here
          (c.in_ok-find_objects.ensures.found told));
    }
