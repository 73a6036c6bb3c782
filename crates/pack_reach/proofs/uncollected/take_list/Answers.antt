use Rattle.std.proofs.Common.{◌≡◌, ℕ, ◌∙◌, refl, sym, ap, subst, arith}
use Rattle.zb_model.specs.Queries.{first_tid_after, transaction_at}
use Rattle.zb_model.specs.Stores.{StoreState}
use Rattle.pack_reach.proofs.Overtaking.{read_then}
use Rattle.pack_reach.specs.Uncollected.{AreTaken}
use Rattle.pack_reach.proofs.Reading.{next_from, none_next}
use Rattle.pack_reach.proofs.Seeing.{all_seen}
use Rattle.pack_reach.proofs.Taking.{taken_first, taken_more}
use Rattle.pack_reach.proofs.uncollected.take_list.Goals as goal

pub loop-i-init : goal.loop-i-init
loop-i-init g c = record {
  same = refl;
  faults = refl;
  taken = λ told. taken_first (g.St.Store.state c.args.store.now).list c.args.marks.now (g.met.St.Store.database c.args.store.now told c.requires.whole) c.requires.none;
  count = λ told. omega arith;
}

pub loop-i-preserved : goal.loop-i-preserved
loop-i-preserved g c =
    let list = (g.St.Store.state c.args.store.now).list in
    let here : (g.St.Store.state c.loop-i.store).list ≡ list = ap (λ (s : StoreState). s.list) c.loop-i.invariant.same in
    record {
      same = read_then (g.St.Store.state c.args.store.now) (g.St.Store.state c.loop-i.store) (g.St.Store.state c.take_objects.new.store) c.loop-i.invariant.same c.take_objects.ensures.read.same;
      faults = c.in_ok-take_objects.ensures.read.answered ∙ c.loop-i.invariant.faults;
      taken = λ told.
          let f = next_from c.loop-i.seen c.in-Some.tid (g.St.Store.state c.loop-i.store).list list c.first_tid_after.result here (c.first_tid_after.ensures told) c.in-Some.is in
          let more = taken_more list c.loop-i.seen c.loop-i.marks c.take_objects.new.marks f.transaction (c.loop-i.invariant.taken told) f.next (c.in_ok-take_objects.ensures.taken told f.transaction (ap (transaction_at c.in-Some.tid) here ∙ f.at)) in
          subst (λ (n : ℕ). AreTaken list n c.take_objects.new.marks) f.tid_is more.1;
      count = λ told.
          let f = next_from c.loop-i.seen c.in-Some.tid (g.St.Store.state c.loop-i.store).list list c.first_tid_after.result here (c.first_tid_after.ensures told) c.in-Some.is in
          let more = taken_more list c.loop-i.seen c.loop-i.marks c.take_objects.new.marks f.transaction (c.loop-i.invariant.taken told) f.next (c.in_ok-take_objects.ensures.taken told f.transaction (ap (transaction_at c.in-Some.tid) here ∙ f.at)) in
          let count = c.loop-i.invariant.count told in
          omega (arith, count, more.0, f.tid_is);
    }

pub returns-in_default-clause-all : goal.returns-in_default-clause-all
returns-in_default-clause-all g c = λ told.
    let list = (g.St.Store.state c.args.store.now).list in
    let here : (g.St.Store.state c.loop-i.store).list ≡ list = ap (λ (s : StoreState). s.list) c.loop-i.invariant.same in
    none_next c.loop-i.seen list (ap (first_tid_after c.loop-i.seen) (sym here) ∙ sym (c.first_tid_after.ensures told) ∙ c.in_default.is)

pub returns-clause-all : goal.returns-clause-all
returns-clause-all g c = λ told.
    let count = c.loop-i.invariant.count told in
    all_seen c.loop-i.seen (g.St.Store.state c.args.store.now).list (g.met.St.Store.database c.args.store.now told c.requires.whole) (omega (arith, count, c.loop-i-test.false))
