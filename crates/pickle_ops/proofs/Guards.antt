-- What a test in front of a result shows.
use Rattle.std.proofs.Common.{◌≡◌, Bool, true, false, Result, Ok, Err, refl, cond}

-- the test that refuses did not hold
pub past_guard : {X E : Type 0} (b : Bool) (fault : E) (r : Result X E) (x : X) → cond b (Err fault) r ≡ Ok x → (b ≡ false) × (r ≡ Ok x)
past_guard true fault r x h = cc
past_guard false fault r x h = (refl, h)

-- the test that lets through held
pub through_guard : {X E : Type 0} (b : Bool) (fault : E) (r : Result X E) (x : X) → cond b r (Err fault) ≡ Ok x → (b ≡ true) × (r ≡ Ok x)
through_guard true fault r x h = (refl, h)
through_guard false fault r x h = cc
