use Rattle.std.proofs.Common.{◌≡◌, ℕ, ◌+◌, List, [], ◌∷◌, ◌++◌, Ok, drop, subst}
use Rattle.zeo_client.specs.Hearing.{Held}
use Rattle.zeo_client.specs.Taking.{IsTaken}
use Rattle.zeo_client.proofs.Takings.{goes_on, is_starved}
use Rattle.zeo_client.proofs.taking.take_all.Goals as goal

pub returns-in-Err-push-clause-taken : goal.returns-in-Err-push-clause-taken
returns-in-Err-push-clause-taken c =
    let first : Held = record { cache = c.args.cache.now; standing = c.args.standing.now } in
    let old : Held = record { cache = c.loop-payload.cache; standing = c.loop-payload.standing } in
    let new : Held = record { cache = c.take_one.new.cache; standing = c.take_one.new.standing } in
    let one : IsTaken c.args.number c.args.last.now c.payload-item.result old (Ok c.in-Ok.message) new = rw (c.as_slice.ensures.value, c.in-Ok.is) at c.take_one.ensures.taken in
    is_starved c.args.number c.args.last.now c.args.payloads.now (drop (c.loop-payload.payload-index + 1) c.args.payloads.now) first new (c.loop-payload.messages ++ c.in-Ok.message ∷ [])
    (goes_on c.args.number c.args.last.now c.args.payloads.now c.loop-payload.payload-index c.payload-item.result first old new c.loop-payload.messages c.in-Ok.message c.loop-payload-test.true c.loop-payload.invariant
    (subst (λ (p : List ℕ). IsTaken c.args.number c.args.last.now p old (Ok c.in-Ok.message) new) c.payload-item.is one))
