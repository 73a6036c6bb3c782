use Rattle.std.proofs.Common.{◌≡◌, List, [], ◌++◌, None, Some, ◌∙◌, refl, sym, ap, subst, arith}
use Rattle.std.specs.Option.{option_map}
use Rattle.zb_model.specs.declared.data.Transaction.{Transaction}
use Rattle.zb_model.specs.Database.{newest_tid}
use Rattle.zb_model.specs.Queries.{first_after}
use Rattle.zb_model.specs.SerialLaws.{RisesTo, database_rises}
use Rattle.zb_model.specs.Stores.{StoreState}
use Rattle.pack_reach.specs.Late.{late_with}
use Rattle.pack_reach.specs.Marking.{HasGrown, IsLeastFollowed, IsMarking, MarkerState}
use Rattle.pack_reach.specs.Outcomes.{AreCommitsMarked}
use Rattle.pack_reach.proofs.Finishing.{keeps_then, may_of, same_grown}
use Rattle.pack_reach.proofs.Later.{marks_stand}
use Rattle.pack_reach.proofs.Overtaking.{ComesLate, comes_first, comes_last, comes_next, none_followed, not_past, read_then}
use Rattle.pack_reach.proofs.Seeing.{all_seen, next_none, next_was}
use Rattle.pack_reach.proofs.marker.Marker.mark_commits.Goals as goal

pub loop-i-init : goal.loop-i-init
loop-i-init g c = record {
  same = refl;
  faults = refl;
  keeps = record { tid = refl; kept = λ o h. h };
  counted = refl;
  may_mark = λ told may. marks_stand (g.F.Refs.named c.args.refs.now) (g.St.Store.state c.args.store.now).list c.args.self.now (g.met.St.Store.database c.args.store.now told c.requires) may;
  seen = λ told. omega arith;
  late = λ told front commits grown whole.
      let is = g.met.St.Store.database c.args.store.now told c.requires in
      comes_first (g.F.Refs.named c.args.refs.now) front commits c.args.self.now (subst (λ (l : List Transaction). RisesTo 0 (newest_tid l) l) grown.split (database_rises (g.St.Store.state c.args.store.now).list is)) grown.above whole;
}

pub returns-in_err-mark_next-clause-may_mark : goal.returns-in_err-mark_next-clause-may_mark
returns-in_err-mark_next-clause-may_mark g c = λ told may.
    let named = g.F.Refs.named c.args.refs.now in
    let list = (g.St.Store.state c.args.store.now).list in
    let is = g.met.St.Store.database c.args.store.now told c.requires in
    let same : (g.St.Store.state c.loop-i.store).list ≡ list = ap (λ (s : StoreState). s.list) c.loop-i.invariant.same in
    let read : IsMarking named list c.mark_next.new.self = c.mark_next.ensures.marks told list (database_rises list is) (sym (ap (first_after c.loop-i.self.seen) same)) (c.loop-i.invariant.may_mark told may) in
    may_of named list c.mark_next.new.self read

pub returns-then-not-branch-clause-late : goal.returns-then-not-branch-clause-late
returns-then-not-branch-clause-late g c = λ told front commits grown whole.
    let named = g.F.Refs.named c.args.refs.now in
    let same : (g.St.Store.state c.loop-i.store).list ≡ front ++ commits = ap (λ (s : StoreState). s.list) c.loop-i.invariant.same ∙ grown.split in
    let next = next_none (g.St.Store.state c.loop-i.store).list c.loop-i.self c.mark_next.new.self c.in_ok-mark_next.field-0 c.if-not-branch.true (c.in_ok-mark_next.ensures.next told) in
    let none : first_after c.loop-i.self.seen (front ++ commits) ≡ None = ap (first_after c.loop-i.self.seen) (sym same) ∙ next.0 in
    subst (λ (m : MarkerState). AreCommitsMarked named front commits c.args.self.now m c.loop-i.late) (sym next.1) (comes_last named front commits c.args.self.now c.loop-i.self c.loop-i.late (c.loop-i.invariant.late told front commits grown whole) none)

pub returns-in_err-least-clause-may_mark : goal.returns-in_err-least-clause-may_mark
returns-in_err-least-clause-may_mark g c = λ told may.
    let named = g.F.Refs.named c.args.refs.now in
    let list = (g.St.Store.state c.args.store.now).list in
    let is = g.met.St.Store.database c.args.store.now told c.requires in
    let same : (g.St.Store.state c.loop-i.store).list ≡ list = ap (λ (s : StoreState). s.list) c.loop-i.invariant.same in
    let read : IsMarking named list c.mark_next.new.self = c.mark_next.ensures.marks told list (database_rises list is) (sym (ap (first_after c.loop-i.self.seen) same)) (c.loop-i.invariant.may_mark told may) in
    let then : (g.St.Store.state c.mark_next.new.store).list ≡ list = ap (λ (s : StoreState). s.list) c.mark_next.ensures.read.same ∙ same in
    may_of named list c.follow_all.new.self (c.follow_all.ensures.marks told list [] (subst (HasGrown c.mark_next.new.self.tid list []) (sym then) (same_grown c.mark_next.new.self.tid list)) read)

pub loop-i-preserved : goal.loop-i-preserved
loop-i-preserved g c = record {
  same = read_then (g.St.Store.state c.args.store.now) (g.St.Store.state c.mark_next.new.store) (g.St.Store.state c.follow_all.new.store)
      (read_then (g.St.Store.state c.args.store.now) (g.St.Store.state c.loop-i.store) (g.St.Store.state c.mark_next.new.store) c.loop-i.invariant.same c.mark_next.ensures.read.same) c.follow_all.ensures.read.same;
  faults = c.in_ok-least.ensures.read.answered ∙ c.in_ok-mark_next.ensures.read.answered ∙ c.loop-i.invariant.faults;
  keeps = keeps_then c.args.self.now c.mark_next.new.self c.follow_all.new.self (keeps_then c.args.self.now c.loop-i.self c.mark_next.new.self c.loop-i.invariant.keeps c.mark_next.ensures.keeps) c.follow_all.ensures.keeps;
  counted = c.follow_all.ensures.counted ∙ c.mark_next.ensures.counted ∙ c.loop-i.invariant.counted;
  may_mark = λ told may.
      let named = g.F.Refs.named c.args.refs.now in
      let list = (g.St.Store.state c.args.store.now).list in
      let is = g.met.St.Store.database c.args.store.now told c.requires in
      let same : (g.St.Store.state c.loop-i.store).list ≡ list = ap (λ (s : StoreState). s.list) c.loop-i.invariant.same in
      let read : IsMarking named list c.mark_next.new.self = c.mark_next.ensures.marks told list (database_rises list is) (sym (ap (first_after c.loop-i.self.seen) same)) (c.loop-i.invariant.may_mark told may) in
      let then : (g.St.Store.state c.mark_next.new.store).list ≡ list = ap (λ (s : StoreState). s.list) c.mark_next.ensures.read.same ∙ same in
      c.follow_all.ensures.marks told list [] (subst (HasGrown c.mark_next.new.self.tid list []) (sym then) (same_grown c.mark_next.new.self.tid list)) read;
  seen = λ told.
      let count = c.loop-i.invariant.seen told in
      let kept = c.follow_all.ensures.seen in
      let next = next_was (g.St.Store.state c.loop-i.store).list c.loop-i.self c.mark_next.new.self c.in_ok-mark_next.field-0 c.if-not-branch.false (c.in_ok-mark_next.ensures.next told) in
      omega (arith, count, next.0, kept);
  late = λ told front commits grown whole.
      let named = g.F.Refs.named c.args.refs.now in
      let old = c.args.self.now in
      let a = c.loop-i.self in
      let m = c.mark_next.new.self in
      let b = c.follow_all.new.self in
      let is = g.met.St.Store.database c.args.store.now told c.requires in
      let rises : RisesTo 0 (newest_tid (front ++ commits)) (front ++ commits) = subst (λ (l : List Transaction). RisesTo 0 (newest_tid l) l) grown.split (database_rises (g.St.Store.state c.args.store.now).list is) in
      let same : (g.St.Store.state c.loop-i.store).list ≡ front ++ commits = ap (λ (s : StoreState). s.list) c.loop-i.invariant.same ∙ grown.split in
      let then : (g.St.Store.state c.mark_next.new.store).list ≡ front ++ commits = ap (λ (s : StoreState). s.list) c.mark_next.ensures.read.same ∙ same in
      let before = c.loop-i.invariant.late told front commits grown whole in
      let next = next_was (g.St.Store.state c.loop-i.store).list a m c.in_ok-mark_next.field-0 c.if-not-branch.false (c.in_ok-mark_next.ensures.next told) in
      let seen : c.self.inside.seen ≡ b.seen = ap (λ (s : MarkerState). s.seen) c.self.view_is in
      let answer : c.late_with-late.result ≡ late_with c.loop-i.late c.in_ok-least.least b.seen = c.late_with-late.ensures ∙ ap (late_with c.loop-i.late c.in_ok-least.least) seen in
      let first = none_followed (g.St.Store.state c.mark_next.new.store).list a m before.all.line c.mark_next.ensures.fresh c.mark_next.ensures.keeps.kept in
      subst (ComesLate named front commits old b) (sym answer)
      (comes_next named front commits old a m b c.loop-i.late c.in_ok-least.least rises grown.above before
      (record {
        next = sym (ap (λ (l : List Transaction). option_map (λ (x : Transaction). x.tid) (first_after a.seen l)) same) ∙ next.1 ∙ ap Some (sym c.follow_all.ensures.seen);
        read = λ f r s k. c.mark_next.ensures.marks told f r (s ∙ sym (ap (first_after a.seen) same)) k;
        follows = λ f l h k. c.follow_all.ensures.marks told f l (subst (HasGrown m.tid f l) (sym then) h) k;
        first_tid = c.mark_next.ensures.keeps.tid;
        tid = c.follow_all.ensures.keeps.tid ∙ c.mark_next.ensures.keeps.tid;
        kept = λ o h. c.follow_all.ensures.keeps.kept o (c.mark_next.ensures.keeps.kept o h);
        line = not_past b c.in_ok-least.ensures.all;
        followed = subst (λ (l : List Transaction). IsLeastFollowed l a.set b c.in_ok-least.least) then (c.in_ok-least.ensures.least told a.set first);
      }));
}

pub returns-clause-late : goal.returns-clause-late
returns-clause-late g c = λ told front commits grown whole.
    let named = g.F.Refs.named c.args.refs.now in
    let list = (g.St.Store.state c.args.store.now).list in
    let seen = c.loop-i.invariant.seen told in
    let none : first_after c.loop-i.self.seen (front ++ commits) ≡ None = ap (first_after c.loop-i.self.seen) (sym grown.split) ∙ all_seen c.loop-i.self.seen list (g.met.St.Store.database c.args.store.now told c.requires) (omega (arith, seen, c.loop-i-test.false)) in
    comes_last named front commits c.args.self.now c.loop-i.self c.loop-i.late (c.loop-i.invariant.late told front commits grown whole) none
