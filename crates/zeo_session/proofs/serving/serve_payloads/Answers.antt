use Rattle.std.proofs.Common.{◌≡◌, ℕ, ◌+◌, ◌∷◌, List, length, arith, ap, ◌∙◌, sym, subst}
use Rattle.std.specs.Vec.Iter.{into_iter_items, into_iter_len}
use Rattle.zeo_session.proofs.Links.{TakesFront, all_served, next_served, next_stopped, none_left, none_served}
use Rattle.zeo_session.proofs.serving.serve_payloads.Goals as goal

pub loop-payload-init : goal.loop-payload-init
loop-payload-init g c =
    let J = g.J.Origin in
    let known = g.O.Sink.taken c.args.link_out.now in
    let gives = c.into_iter-payload-iterator.ensures.into_iter_gives in
    record {
      ends = omega (arith, gives.1, ap (λ (ps : List (List ℕ)). length ps) gives.0, c.into_vec-payload-items.result.ok.0);
      counted = omega arith;
      taken = λ s knows.
          subst (λ (ps : List (List ℕ)). TakesFront g.St.Store.told J.rules J.list J.counts s c.args.pass c.args.desk.now c.args.desk.now c.args.payloads ps known known)
          (sym (gives.0 ∙ c.into_vec-payload-items.ensures)) (none_served g.St.Store.told J.rules J.list J.counts s c.args.pass c.args.desk.now c.args.payloads known knows);
    }

pub returns-in-Err-clause-taken : goal.returns-in-Err-clause-taken
returns-in-Err-clause-taken g c s knows =
    next_stopped _ _ _ _ s _ _ _ _ _ _ _ _ _ _ _ _ _ _ c.in-Some.ensures.steps.0 c.as_slice.ensures.value (c.loop-payload.invariant.taken s knows) c.serve_message-behind.ensures.taken _ c.in-Err.is

pub loop-payload-preserved : goal.loop-payload-preserved
loop-payload-preserved g c =
    let items : List (List ℕ) = into_iter_items c.loop-payload.payload-iterator in
    let left : List (List ℕ) = into_iter_items c.next.new.self in
    let is : items ≡ c.in-Some.payload ∷ left = c.in-Some.ensures.steps.0 in
    let fewer : into_iter_len c.next.new.self + 1 ≡ into_iter_len c.loop-payload.payload-iterator = c.in-Some.ensures.steps.1 in
    record {
      ends = omega (arith, fewer, c.loop-payload.invariant.ends, ap (λ (ps : List (List ℕ)). length ps) is);
      counted = omega (arith, c.loop-payload.invariant.counted, c.serve_message-behind.ensures.faults.counted);
      taken = λ s knows.
          next_served _ _ _ _ s _ _ _ _ _ _ _ _ _ _ _ _ _ _ is c.as_slice.ensures.value (c.loop-payload.invariant.taken s knows) c.serve_message-behind.ensures.taken _ c.in_default.is;
    }

pub returns-clause-taken : goal.returns-clause-taken
returns-clause-taken g c s knows =
    let items : List (List ℕ) = into_iter_items c.loop-payload.payload-iterator in
    let none : length items ≡ 0 = omega (arith, c.loop-payload.invariant.ends, c.in-None.ensures.steps.0) in
    all_served _ _ _ _ _ s _ _ _ _ _ _ _ (none_left items none) (c.loop-payload.invariant.taken s knows)
