use Rattle.std.proofs.Common.{◌≡◌, ℕ, take, sym, ap, subst, ◌∙◌, arith}
use Rattle.zb_model.specs.Stores.{StoreState}
use Rattle.pack_reach.specs.Marking.{IsChangeRead, MayReadChange}
use Rattle.pack_reach.specs.MemberLaws.{each_implies}
use Rattle.pack_reach.proofs.Growing.{change_kept, only_then, sound_then}
use Rattle.pack_reach.proofs.Overtaking.{read_then}
use Rattle.pack_reach.proofs.Reading.{each_got, each_more_got, each_up_to, got, got_all, got_none, has_its_tid}
use Rattle.pack_reach.proofs.marker.Marker.read_transaction.Goals as goal

pub returns-in_err-read_change-clause-sound : goal.returns-in_err-read_change-clause-sound
returns-in_err-read_change-clause-sound g c = λ told list x at may.
    let named = g.F.Refs.named c.args.refs.now in
    let old = g.St.Store.state c.args.store.now in
    let here : (g.St.Store.state c.loop-number.store).list ≡ old.list = ap (λ (s : StoreState). s.list) c.loop-number.invariant.same in
    let is = got c.args.tid c.loop-number.number (g.St.Store.state c.loop-number.store).list old.list x c.in_ok-change.field-0 c.in-Some.change here at (c.in_ok-change.ensures.found told) c.in-Some.is in
    let one = each_got (MayReadChange named c.args.self.now.tid list x.tid) x.changes c.loop-number.number c.in-Some.change may is in
    sound_then named list c.args.self.now c.loop-number.self c.read_change.new.self c.loop-number.invariant.only c.read_change.ensures.only (c.loop-number.invariant.sound told list x at may)
    (c.read_change.ensures.sound list (subst (λ (t : ℕ). MayReadChange named t list c.args.tid c.in-Some.change) (sym c.loop-number.invariant.only.tid) (subst (λ (t : ℕ). MayReadChange named c.args.self.now.tid list t c.in-Some.change) (has_its_tid c.args.tid old.list x at) one)))

pub loop-number-preserved : goal.loop-number-preserved
loop-number-preserved g c =
    let named = g.F.Refs.named c.args.refs.now in
    let old = g.St.Store.state c.args.store.now in
    let here : (g.St.Store.state c.loop-number.store).list ≡ old.list = ap (λ (s : StoreState). s.list) c.loop-number.invariant.same in
    record {
      same = read_then old (g.St.Store.state c.loop-number.store) (g.St.Store.state c.change_at.new.self) c.loop-number.invariant.same c.change_at.ensures.read.same;
      faults = c.in_ok-change.ensures.read.answered ∙ c.loop-number.invariant.faults;
      only = only_then c.args.self.now c.loop-number.self c.read_change.new.self c.loop-number.invariant.only c.read_change.ensures.only;
      sound = λ told list x at may.
          let is = got c.args.tid c.loop-number.number (g.St.Store.state c.loop-number.store).list old.list x c.in_ok-change.field-0 c.in-Some.change here at (c.in_ok-change.ensures.found told) c.in-Some.is in
          let one = each_got (MayReadChange named c.args.self.now.tid list x.tid) x.changes c.loop-number.number c.in-Some.change may is in
          sound_then named list c.args.self.now c.loop-number.self c.read_change.new.self c.loop-number.invariant.only c.read_change.ensures.only (c.loop-number.invariant.sound told list x at may)
          (c.read_change.ensures.sound list (subst (λ (t : ℕ). MayReadChange named t list c.args.tid c.in-Some.change) (sym c.loop-number.invariant.only.tid) (subst (λ (t : ℕ). MayReadChange named c.args.self.now.tid list t c.in-Some.change) (has_its_tid c.args.tid old.list x at) one)));
      read = λ told x at.
          let is = got c.args.tid c.loop-number.number (g.St.Store.state c.loop-number.store).list old.list x c.in_ok-change.field-0 c.in-Some.change here at (c.in_ok-change.ensures.found told) c.in-Some.is in
          each_more_got (IsChangeRead named c.read_change.new.self x.tid) x.changes c.loop-number.number c.in-Some.change
          (each_implies (IsChangeRead named c.loop-number.self x.tid) (IsChangeRead named c.read_change.new.self x.tid) (λ d h. change_kept named c.loop-number.self c.read_change.new.self x.tid d c.read_change.ensures.only h) (take c.loop-number.number x.changes) (c.loop-number.invariant.read told x at))
          is (subst (λ (t : ℕ). IsChangeRead named c.read_change.new.self t c.in-Some.change) (sym (has_its_tid c.args.tid old.list x at)) c.in_ok-read_change.ensures.read);
    }

pub returns-in_default-clause-read : goal.returns-in_default-clause-read
returns-in_default-clause-read g c = λ told x at.
    let named = g.F.Refs.named c.args.refs.now in
    let old = g.St.Store.state c.args.store.now in
    let here : (g.St.Store.state c.loop-number.store).list ≡ old.list = ap (λ (s : StoreState). s.list) c.loop-number.invariant.same in
    each_up_to (IsChangeRead named c.loop-number.self x.tid) x.changes c.loop-number.number (c.loop-number.invariant.read told x at)
    (got_none c.args.tid c.loop-number.number (g.St.Store.state c.loop-number.store).list old.list x c.in_ok-change.field-0 here at (c.in_ok-change.ensures.found told) c.in_default.is)

pub returns-clause-read : goal.returns-clause-read
returns-clause-read g c = λ told x at.
    let named = g.F.Refs.named c.args.refs.now in
    each_up_to (IsChangeRead named c.loop-number.self x.tid) x.changes c.loop-number.number (c.loop-number.invariant.read told x at)
    (got_all c.args.tid c.changes_to-count.result c.loop-number.number (g.St.Store.state c.args.store.now).list x at (c.changes_to-count.ensures told) (omega (arith, c.loop-number-test.false)))
