use Rattle.std.proofs.Common.{◌≡◌, ℕ, ◌+◌, ◌∷◌, List, length, ap, arith}
use Rattle.std.specs.Vec.Iter.{into_iter_items, into_iter_len}
use Rattle.hub_carrier.proofs.Serves.{one_more, stopped}
use Rattle.hub_carrier.proofs.serving.serve_messages.Goals as goal

pub returns-in-Err : goal.returns-in-Err
returns-in-Err g c =
    let items : List (List ℕ) = into_iter_items c.loop-payload.payload-iterator in
    let left : List (List ℕ) = into_iter_items c.next.new.self in
    let payload : List ℕ = c.in-Some.payload in
    let is : items ≡ payload ∷ left = c.in-Some.ensures.steps.0 in
    record { served = (stopped _ _ _ _ _ items _ _ _ c.loop-payload.invariant.so payload _ left _ _ is c.as_slice.ensures.value c.in-Err.ensures.served.0, c.in-Err.ensures.served.1) }

pub loop-payload-preserved : goal.loop-payload-preserved
loop-payload-preserved g c =
    let items : List (List ℕ) = into_iter_items c.loop-payload.payload-iterator in
    let left : List (List ℕ) = into_iter_items c.next.new.self in
    let payload : List ℕ = c.in-Some.payload in
    let is : items ≡ payload ∷ left = c.in-Some.ensures.steps.0 in
    let fewer : into_iter_len c.next.new.self + 1 ≡ into_iter_len c.loop-payload.payload-iterator = c.in-Some.ensures.steps.1 in
    let ends : into_iter_len c.loop-payload.payload-iterator ≡ length items = c.loop-payload.invariant.ends in
    let lengths : length items ≡ length (payload ∷ left) = ap (λ (ps : List (List ℕ)). length ps) is in
    record {
      ends = omega (arith, fewer, ends, lengths);
      so = one_more _ _ _ _ _ items _ _ _ c.loop-payload.invariant.so payload _ left _ _ _ is c.as_slice.ensures.value c.in-Ok.ensures.served;
    }
