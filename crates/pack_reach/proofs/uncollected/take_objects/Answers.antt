use Rattle.std.proofs.Common.{◌≡◌, sym, ap, ◌∙◌, arith}
use Rattle.std.specs.Ordering.{nat_cmp}
use Rattle.std.specs.FinSet.{FinSet, insert}
use Rattle.zb_model.specs.Stores.{StoreState}
use Rattle.pack_reach.specs.Uncollected.{with_change}
use Rattle.pack_reach.proofs.Overtaking.{read_then}
use Rattle.pack_reach.proofs.Reading.{got, got_all, got_none, with_all, with_more}
use Rattle.pack_reach.proofs.uncollected.take_objects.Goals as goal

pub loop-number-preserved : goal.loop-number-preserved
loop-number-preserved g c =
    let old = g.St.Store.state c.args.store.now in
    let here : (g.St.Store.state c.loop-number.store).list ≡ old.list = ap (λ (s : StoreState). s.list) c.loop-number.invariant.same in
    record {
      same = read_then old (g.St.Store.state c.loop-number.store) (g.St.Store.state c.change_at.new.self) c.loop-number.invariant.same c.change_at.ensures.read.same;
      faults = c.in_ok-change.ensures.read.answered ∙ c.loop-number.invariant.faults;
      taken = λ told x at.
          let is = got c.args.tid c.loop-number.number (g.St.Store.state c.loop-number.store).list old.list x c.in_ok-change.field-0 c.in-Some.change here at (c.in_ok-change.ensures.found told) c.in-Some.is in
          let one : c.insert.new.self ≡ insert c.loop-number.marks c.in-Some.change.oid = c.in_ok-insert.ensures.ok in
          one ∙ ap (λ (s : FinSet nat_cmp). with_change s c.in-Some.change) (c.loop-number.invariant.taken told x at) ∙ sym (with_more c.args.marks.now x.changes c.loop-number.number c.in-Some.change is);
    }

pub returns-in_default-clause-taken : goal.returns-in_default-clause-taken
returns-in_default-clause-taken g c = λ told x at.
    let old = g.St.Store.state c.args.store.now in
    let here : (g.St.Store.state c.loop-number.store).list ≡ old.list = ap (λ (s : StoreState). s.list) c.loop-number.invariant.same in
    with_all c.args.marks.now x.changes c.loop-number.number c.loop-number.marks (c.loop-number.invariant.taken told x at)
    (got_none c.args.tid c.loop-number.number (g.St.Store.state c.loop-number.store).list old.list x c.in_ok-change.field-0 here at (c.in_ok-change.ensures.found told) c.in_default.is)

pub returns-clause-taken : goal.returns-clause-taken
returns-clause-taken g c = λ told x at.
    with_all c.args.marks.now x.changes c.loop-number.number c.loop-number.marks (c.loop-number.invariant.taken told x at)
    (got_all c.args.tid c.changes_to-count.result c.loop-number.number (g.St.Store.state c.args.store.now).list x at (c.changes_to-count.ensures told) (omega (arith, c.loop-number-test.false)))
