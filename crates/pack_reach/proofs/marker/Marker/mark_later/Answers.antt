use Rattle.std.proofs.Common.{rules, ◌≡◌, inr, sym, ap, arith}
use Rattle.zb_model.specs.SerialLaws.{database_rises}
use Rattle.zb_model.specs.Queries.{first_after}
use Rattle.zb_model.specs.Stores.{StoreState}
use Rattle.pack_reach.proofs.Seeing.{all_seen, next_was}
use Rattle.pack_reach.proofs.marker.Marker.mark_later.Goals as goal

pub returns-in_err-mark_next-clause-marks : goal.returns-in_err-mark_next-clause-marks
returns-in_err-mark_next-clause-marks g c = λ told k.
    let list = (g.St.Store.state c.args.store.now).list in
    let same : (g.St.Store.state c.loop-i.store).list ≡ list = ap (λ (s : StoreState). s.list) c.loop-i.invariant.same in
    c.mark_next.ensures.marks told list (database_rises list (g.met.St.Store.database c.args.store.now told c.requires.whole)) (sym (ap (first_after c.loop-i.self.seen) same)) (c.loop-i.invariant.marks told k)

pub loop-i-preserved : goal.loop-i-preserved
loop-i-preserved g c =
    let list = (g.St.Store.state c.args.store.now).list in
    let same : (g.St.Store.state c.loop-i.store).list ≡ list = ap (λ (s : StoreState). s.list) c.loop-i.invariant.same in
    record {
      same = search rules;
      faults = search rules;
      keeps = search rules;
      counted = search rules;
      marks = λ told k. c.mark_next.ensures.marks told list (database_rises list (g.met.St.Store.database c.args.store.now told c.requires.whole)) (sym (ap (first_after c.loop-i.self.seen) same)) (c.loop-i.invariant.marks told k);
      seen = λ told.
          let seen = c.loop-i.invariant.seen told in
          let next = next_was (g.St.Store.state c.loop-i.store).list c.loop-i.self c.mark_next.new.self c.in_ok-mark_next.field-0 c.if-not-branch.false (c.in_ok-mark_next.ensures.next told) in
          omega (arith, seen, next.0);
    }

pub returns-clause-all : goal.returns-clause-all
returns-clause-all g c = λ told.
    let seen = c.loop-i.invariant.seen told in
    inr (all_seen c.loop-i.self.seen (g.St.Store.state c.args.store.now).list (g.met.St.Store.database c.args.store.now told c.requires.whole) (omega (arith, seen, c.loop-i-test.false)))
