use Rattle.std.proofs.Common.{ℕ, ◌<◌, ◌++◌, List, arith, inl, inr, ap, drop, length, length-append, length-take, ◌∙◌, sym, subst}
use Rattle.zb_base.specs.Counts.{rose_after}
use Rattle.zeo_desk.specs.Desks.{DeskState}
use Rattle.zeo_session.specs.Serving.{HasServedSoFar}
use Rattle.zeo_session.proofs.Links.{fault_rose, link_begun, link_on, link_over, link_stopped, link_unread}
use Rattle.zeo_session.proofs.serving.serve_link.Goals as goal

pub returns-in_default-clause-served : goal.returns-in_default-clause-served
returns-in_default-clause-served g c = link_unread _ _ _ _ _ _ _

pub serving-init : goal.serving-init
serving-init g c =
    let J = g.J.Origin in
    let left = g.I.Source.left c.args.link_in.now in
    let known = g.O.Sink.taken c.args.link_out.now in
    record {
      can = tt;
      finite = tt;
      some = omega (arith, c.in-Ok.ensures.len);
      counted_in = omega arith;
      counted_out = omega arith;
      served = subst (λ (d : DeskState). HasServedSoFar g.St.Store.told J.rules J.list J.counts c.args.pass c.args.pass d c.new-frames.result left left known known) (sym c.new-desk.ensures)
          (link_begun g.St.Store.told J.rules J.list J.counts c.args.pass c.new-frames.result left known (c.new-frames.ensures.begun, λ is. let both = sym c.new-frames.ensures.ended ∙ is in cc));
    }

pub next_payloads-requires : goal.next_payloads-requires
next_payloads-requires g c = subst (λ (bs : List ℕ). 0 < length bs) (sym c.deref_mut.ensures.value) c.serving.invariant.some

pub returns-in-Err-clause-served : goal.returns-in-Err-clause-served
returns-in-Err-clause-served g c =
    let so = c.serving.invariant.served in
    link_over _ _ _ _ _ _ _ _ _ _ _ _ so c.in-Err.end _ _ (c.in-Err.ensures.come so.came so.given so.come)

pub returns-in-Err-served-clause-served : goal.returns-in-Err-served-clause-served
returns-in-Err-served-clause-served g c =
    let so = c.serving.invariant.served in
    link_stopped _ _ _ _ _ _ _ _ _ _ _ _ so _ _ _ _ _ _ (c.in-Ok-next_payloads.ensures.come so.came so.given so.come) _ _ c.in-Err-served.is c.serve_payloads-behind.ensures.taken

pub returns-in-Err-clause-faults : goal.returns-in-Err-clause-faults
returns-in-Err-clause-faults g c =
    let so = c.serving.invariant in
    record {
      counted_in = omega (arith, so.counted_in, c.next_payloads.ensures.faults.counted);
      counted_out = so.counted_out;
      fault = λ is. inl (rose_after _ _ _ so.counted_in (c.in-Err.ensures.faults.fault is));
    }

pub returns-in-Err-served-clause-faults : goal.returns-in-Err-served-clause-faults
returns-in-Err-served-clause-faults g c =
    let so = c.serving.invariant in
    let sent = c.serve_payloads-behind.ensures.faults in
    record {
      counted_in = omega (arith, so.counted_in, c.next_payloads.ensures.faults.counted);
      counted_out = omega (arith, so.counted_out, sent.counted);
      fault = λ is. inr (rose_after _ _ _ so.counted_out (fault_rose _ _ _ _ c.in-Err-served.is sent is));
    }

pub serving-preserved : goal.serving-preserved
serving-preserved g c =
    let so = c.serving.invariant.served in
    let read = c.next_payloads.new.piece in
    let more = drop (length read) c.serving.piece.items in
    record {
      can = tt;
      finite = tt;
      some = omega (arith, c.serving.invariant.some, ap (λ (bs : List ℕ). length bs) c.deref_mut.ensures.value, c.deref_mut.ensures.len, c.next_payloads.auto.piece, length-take c.serving.piece.len (read ++ more), length-append read more);
      counted_in = omega (arith, c.serving.invariant.counted_in, c.next_payloads.ensures.faults.counted);
      counted_out = omega (arith, c.serving.invariant.counted_out, c.serve_payloads-behind.ensures.faults.counted);
      served = link_on _ _ _ _ _ _ _ _ _ _ _ _ so _ _ _ _ _ _ (c.in-Ok-next_payloads.ensures.come so.came so.given so.come) _ _ c.in_default-served.is c.serve_payloads-behind.ensures.taken;
    }
