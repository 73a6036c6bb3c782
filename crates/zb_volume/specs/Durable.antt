-- What a crash leaves at each moment while an area is changed and synced, and while Side takes Main's place.
use Rattle.std.proofs.Common.{◌≡◌, ◌⊎◌, inl, inr, false, ℕ, List, ◌∷◌, Result, OnOk, OnErr, refl, sym, subst}
use Rattle.zb_volume.specs.declared.areas.Area.{Area}
use Rattle.zb_volume.specs.declared.areas.Area.TheVariants.{Main, Side, Hint}
use Rattle.zb_volume.specs.Calls.{Event, Call, made, Synced, Replaced, touches}
use Rattle.zb_volume.specs.Disk.{disk, seen, IsSettled}
use Rattle.zb_volume.specs.Images.{CrashLeaves, CrashLeavesWith}
use Rattle.zb_volume.specs.Faults.{Fails}
use Rattle.zb_volume.specs.Moments.{Leaves, LeavesOnly, StaysAs, here}
use Rattle.zb_volume.specs.Lasting.{settled_only, more_left, new_left, synced_leaves}
use Rattle.zb_volume.specs.Runs.{goes_on, stays_on}

-- a call that puts the content w into the area
pub change_leaves : {T E : Type 0} (r : Result T E) (log new : List Event) (a : Area) (w : List ℕ) (call : Call) → Leaves a (CrashLeavesWith log a w) (made call ∷ log)
    → OnOk r (new ≡ made call ∷ log) → OnErr r (Fails (made call) log new) → LeavesOnly a (CrashLeavesWith log a w) log new
change_leaves r log new a w call leaves = goes_on r a (CrashLeavesWith log a w) (made call) log log new (here (more_left (disk log a).pending w)) leaves

-- and its sync
pub sync_leaves : {T E : Type 0} (r : Result T E) (log mid new : List Event) (a : Area) (w : List ℕ) → CrashLeaves log a (seen log a) → seen mid a ≡ w → LeavesOnly a (CrashLeavesWith log a w) log mid
    → OnOk r (new ≡ Synced a ∷ mid) → OnErr r (Fails (Synced a) mid new) → LeavesOnly a (CrashLeavesWith log a w) log new
sync_leaves r log mid new a w left is so_far = goes_on r a (CrashLeavesWith log a w) (Synced a) log mid new so_far
    (synced_leaves mid a (CrashLeavesWith log a w) (subst (CrashLeavesWith log a w) (sym is) (new_left (disk log a).pending w (seen log a) left)))

-- the area is then settled with that content
pub sure : (mid new : List Event) (a : Area) → new ≡ Synced a ∷ mid → IsSettled new a × (seen new a ≡ seen mid a)
sure mid new Main is = subst (λ (l : List Event). IsSettled l Main × (seen l Main ≡ seen mid Main)) (sym is) (refl, refl)
sure mid new Side is = subst (λ (l : List Event). IsSettled l Side × (seen l Side ≡ seen mid Side)) (sym is) (refl, refl)
sure mid new Hint is = subst (λ (l : List Event). IsSettled l Hint × (seen l Hint ≡ seen mid Hint)) (sym is) (refl, refl)

-- any two calls in a row leave the areas that they aren't about
pub one_stays : {T E : Type 0} (r : Result T E) (log new : List Event) (call : Call) (b : Area) → touches call b ≡ false → OnOk r (new ≡ made call ∷ log) → OnErr r (Fails (made call) log new) → StaysAs b log new
one_stays r log new call b not = stays_on r b (made call) log log new not (here refl)

pub next_stays : {T E : Type 0} (r : Result T E) (log mid new : List Event) (call : Call) (b : Area) → touches call b ≡ false → StaysAs b log mid → OnOk r (new ≡ made call ∷ mid) → OnErr r (Fails (made call) mid new) → StaysAs b log new
next_stays r log mid new call b not so_far = stays_on r b (made call) log mid new not so_far

-- Main's old images, or the bytes of Side
abbrev pub OldOrSide : List Event → List ℕ → Type 0
OldOrSide log c = CrashLeaves log Main c ⊎ (c ≡ seen log Side)

-- Side is synced
pub sync_side_leaves : {T E : Type 0} (r : Result T E) (log new : List Event) → OnOk r (new ≡ Synced Side ∷ log) → OnErr r (Fails (Synced Side) log new) → LeavesOnly Main (OldOrSide log) log new
sync_side_leaves r log new = goes_on r Main (OldOrSide log) (Synced Side) log log new (here (λ c left. inl left)) (λ c left. inl left)

-- and becomes Main
pub replace_leaves : {T E : Type 0} (r : Result T E) (log mid new : List Event) → mid ≡ Synced Side ∷ log → LeavesOnly Main (OldOrSide log) log mid
    → OnOk r (new ≡ Replaced ∷ mid) → OnErr r (Fails Replaced mid new) → LeavesOnly Main (OldOrSide log) log new
replace_leaves r log mid new is so_far = goes_on r Main (OldOrSide log) Replaced log mid new so_far
    (subst (λ (l : List Event). Leaves Main (OldOrSide log) (Replaced ∷ l)) (sym is) (settled_only (seen log Side) (OldOrSide log) (inr refl)))
