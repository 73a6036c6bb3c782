-- How a run of calls goes on, for the proofs of those who make the calls.
use Rattle.std.proofs.Common.{◌≡◌, ◌⊎◌, inl, inr, ⊎_elim, Bool, true, false, if◌then◌else◌, ℕ, zero, suc, ◌+◌, ◌≤◌, length, drop, arith, List, [], ◌∷◌, ◌++◌, Result, Ok, Err, OnOk, OnErr, sym, ◌∙◌, refl, subst}
use Rattle.std.proofs.lemmas.Bool.{true≢false}
use Rattle.zb_volume.specs.declared.areas.Area.{Area}
use Rattle.zb_volume.specs.declared.areas.Area.TheVariants.{Main, Side, Hint}
use Rattle.zb_volume.specs.Calls.{Event, Call, WriteAt, CutTo, SyncOf, Replace, made, area_content, touches, same_area}
use Rattle.zb_volume.specs.Disk.{Pending, Disk, disk, after_call}
use Rattle.zb_volume.specs.Images.{MayLeave}
use Rattle.zb_volume.specs.Faults.{Fails}
use Rattle.zb_volume.specs.Moments.{Along, here, more, Leaves, LeavesOnly, LeftSince, StaysAs}

pub MayLeave-append : (ps qs : List Pending) (c : List ℕ) → MayLeave (ps ++ qs) c → MayLeave ps c ⊎ MayLeave qs c
MayLeave-append [] qs c left = inr left
MayLeave-append (p ∷ ps) qs c (inl image) = inl (inl image)
MayLeave-append (p ∷ ps) qs c (inr left) = ⊎_elim (λ l. inl (inr l)) (λ r. inr r) (MayLeave-append ps qs c left)

-- what holds at every moment holds at the last one
pub along_now : (P : List Event → Type 0) (old log : List Event) → Along P old log → P log
along_now P old log (here p) = p
along_now P old _ (more p rest) = p

pub half_way : (b : Bool) (d e : Disk) (now : List ℕ) (Q : List ℕ → Type 0) → ((c : List ℕ) → MayLeave d.pending c → Q c) → ((c : List ℕ) → MayLeave e.pending c → Q c)
    → (c : List ℕ) → MayLeave (if b then record { now = now; pending = d.pending ++ e.pending } else d).pending c → Q c
half_way true d e now Q before behind c left = ⊎_elim (before c) (behind c) (MayLeave-append d.pending e.pending c left)
half_way false d e now Q before behind c left = before c left

-- one call more, after which a crash leaves what has Q, whether the call is done or fails
pub goes_on : {T E : Type 0} (r : Result T E) (a : Area) (Q : List ℕ → Type 0) (e : Event) (old log new : List Event) → LeavesOnly a Q old log → Leaves a Q (made e.call ∷ log)
    → OnOk r (new ≡ made e.call ∷ log) → OnErr r (Fails e log new) → LeavesOnly a Q old new
goes_on (Ok _) a Q e old log new so_far done ok err = subst (λ (l : List Event). LeavesOnly a Q old l) (sym ok) (more done so_far)
goes_on (Err _) a Q e old log new so_far done ok err = ⊎_elim
    (λ same. subst (λ (l : List Event). LeavesOnly a Q old l) (sym same) so_far)
    (λ fails. subst (λ (l : List Event). LeavesOnly a Q old l) (sym fails.1)
    (more (half_way (touches e.call a) (disk log a) (after_call e.call (disk log) a) (area_content fails.0 a) Q (along_now (Leaves a Q) old log so_far) done) so_far))
    err

untouched : (b : Bool) (d e : Disk) → b ≡ false → (if b then e else d) ≡ d
untouched true d e is = absurd (true≢false is)
untouched false d e is = refl

-- a call leaves each area that it isn't about
pub after_call-other : (call : Call) (log : List Event) (a : Area) → touches call a ≡ false → after_call call (disk log) a ≡ disk log a
after_call-other (WriteAt b at bytes) log a not = untouched (same_area b a) (disk log a) _ not
after_call-other (CutTo b n) log a not = untouched (same_area b a) (disk log a) _ not
after_call-other (SyncOf b) log a not = untouched (same_area b a) (disk log a) _ not
after_call-other Replace log Main not = absurd (true≢false not)
after_call-other Replace log Side not = absurd (true≢false not)
after_call-other Replace log Hint not = refl

-- one call more, which isn't about this area
pub stays_on : {T E : Type 0} (r : Result T E) (a : Area) (e : Event) (old log new : List Event) → touches e.call a ≡ false → StaysAs a old log
    → OnOk r (new ≡ made e.call ∷ log) → OnErr r (Fails e log new) → StaysAs a old new
stays_on (Ok _) a e old log new not so_far ok err = subst (λ (l : List Event). StaysAs a old l) (sym ok) (more (after_call-other e.call log a not ∙ along_now (λ l. disk l a ≡ disk old a) old log so_far) so_far)
stays_on (Err _) a e old log new not so_far ok err = ⊎_elim
    (λ is. subst (λ (l : List Event). StaysAs a old l) (sym is) so_far)
    (λ fails. subst (λ (l : List Event). StaysAs a old l) (sym fails.1)
    (more (untouched (touches e.call a) (disk log a) _ not ∙ along_now (λ l. disk l a ≡ disk old a) old log so_far) so_far))
    err

-- one run after another
pub joined : (P : List Event → Type 0) (old mid new : List Event) → Along P old mid → Along P mid new → Along P old new
joined P old mid _ first (here p) = first
joined P old mid _ first (more p rest) = more p (joined P old mid _ first rest)

-- less is said
pub weaker : (P R : List Event → Type 0) (old new : List Event) → ((log : List Event) → P log → R log) → Along P old new → Along R old new
weaker P R old _ less (here p) = here (less old p)
weaker P R old _ less (more p rest) = more (less _ p) (weaker P R old _ less rest)

pub leaves_less : (a : Area) (P Q : List ℕ → Type 0) (old new : List Event) → ((c : List ℕ) → P c → Q c) → LeavesOnly a P old new → LeavesOnly a Q old new
leaves_less a P Q old new less = weaker (Leaves a P) (Leaves a Q) old new (λ log leaves c left. less c (leaves c left))

-- an area that stays as it was leaves what it left
pub stays_leaves : (a : Area) (Q : List ℕ → Type 0) (old new : List Event) → Leaves a Q old → StaysAs a old new → LeavesOnly a Q old new
stays_leaves a Q old new leaves = weaker (λ log. disk log a ≡ disk old a) (Leaves a Q) old new (λ log is c left. leaves c (subst (λ (d : Disk). MayLeave d.pending c) is left))

along_at : (P : List Event → Type 0) (old new : List Event) → Along P old new → (n : ℕ) → n + length old ≤ length new → P (drop n new)
along_at P old _ (here p) zero le = p
along_at P old _ (here p) (suc n) le = absurd (omega arith)
along_at P old _ (more p rest) zero le = p
along_at P old _ (more {e} {log} p rest) (suc n) le = along_at P old log rest n (omega arith)

-- the same by the clock
pub by_the_clock : (a : Area) (Q : List ℕ → Type 0) (old new : List Event) → LeavesOnly a Q old new → (c : List ℕ) → LeftSince new (length old) a c → Q c
by_the_clock a Q old new leaves c left = along_at (Leaves a Q) old new leaves left.0 left.1 c left.2
