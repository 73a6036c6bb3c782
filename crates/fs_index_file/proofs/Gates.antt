-- What a crash leaves of an index file while its gate is closed or opened.
use Rattle.std.proofs.Common.{◌≡◌, ◌⊎◌, inl, inr, ℕ, ◌+◌, ◌<◌, ◌≤◌, zero, suc, List, [], ◌∷◌, length, take, drop, get_or, Result, OnOk, OnErr, refl, sym, ap, subst, ◌∙◌, arith}
use Rattle.std.specs.List.{AllByRecursion}
use Rattle.std.proofs.lemmas.Bool.{cases_eq, cases_lt}
use Rattle.std.proofs.lemmas.List.{ext_get_or, get_or-drop, get_or_past, length-drop}
use Rattle.zb_volume.specs.declared.areas.Area.{Area}
use Rattle.zb_volume.specs.declared.areas.Area.TheVariants.{Hint}
use Rattle.zb_volume.specs.Calls.{Event, Cut}
use Rattle.zb_volume.specs.Disk.{Pending, Disk, disk, seen, settled, with_content, written, IsSettled}
use Rattle.zb_volume.specs.Images.{HadByte, IsImage, MayLeave, MayRead, CrashLeavesWith}
use Rattle.zb_volume.specs.Faults.{Fails}
use Rattle.zb_volume.specs.Lasting.{seen-cut, settled_leaves, settled_mix, written_end}
use Rattle.zb_volume.specs.Moments.{LeavesOnly, StaysAs, here}
use Rattle.zb_volume.specs.Runs.{along_now, goes_on, joined, leaves_less, weaker}
use Rattle.fs_index.specs.Places.{Kept}
use Rattle.fs_recovery.specs.declared.tally.Tally.{Tally}
use Rattle.fs_index_file.specs.Honest.{IsHintOf}
use Rattle.fs_index_file.specs.Writes.{IsClosed, IsOldOr, IsOldOrClosed, IsOldOrHint, IsRestOf}

-- ---- one byte

open_some : (c : List ℕ) → get_or c 0 0 ≡ 1 → 0 < length c
open_some c is = elim (cases_lt 0 (length c)) [
  | inl some ↦ some
  | inr none ↦ absurd (omega (arith, is, get_or_past c 0 0 none))
]

-- an image of bytes and those with a closed gate is closed, or those bytes
pub old_or_closed : (t c : List ℕ) → IsImage t ((0 ∷ drop 1 t) ∷ []) c → IsOldOrClosed t c
old_or_closed t c image = elim (cases_eq (get_or c 0 0) 1) [
  | inr shut ↦ inr shut
  | inl one_is ↦ (
      let some = open_some c one_is in
      let gate : get_or t 0 0 ≡ 1 = first (get_or c 0 0) one_is (image.bytes 0 some) in
      let long = open_some t gate in
      let same : length c ≡ length t = omega (arith, image.no_shorter, image.no_longer, length-drop 1 t, long) in
      inl (ext_get_or 0 c t same (λ k h. each k h one_is (image.bytes k h))))
]
  where
    first : (v : ℕ) → v ≡ 1 → MayRead t ((0 ∷ drop 1 t) ∷ []) 0 v → get_or t 0 0 ≡ 1
    first v one_is (inl is) = sym is ∙ one_is
    first v one_is (inr (inl had)) = absurd (omega (arith, one_is, had.1))
    first v one_is (inr (inr none)) = absurd none

    each : (k : ℕ) → k < length c → get_or c 0 0 ≡ 1 → MayRead t ((0 ∷ drop 1 t) ∷ []) k (get_or c k 0) → get_or c k 0 ≡ get_or t k 0
    each k h one_is (inl is) = is
    each zero h one_is (inr (inl had)) = absurd (omega (arith, one_is, had.1))
    each (suc k) h one_is (inr (inl had)) = had.1 ∙ get_or-drop 1 t k 0 ∙ ap (λ (i : ℕ). get_or t i 0) (let e : 1 + k ≡ suc k = omega arith in e)
    each k h one_is (inr (inr none)) = absurd none

-- an image of closed bytes and the same with an open gate is closed, or the latter
pub new_or_closed : (rest c : List ℕ) → IsImage (0 ∷ rest) ((1 ∷ rest) ∷ []) c → IsClosed c ⊎ (c ≡ 1 ∷ rest)
new_or_closed rest c image = elim (cases_eq (get_or c 0 0) 1) [
  | inr shut ↦ inl shut
  | inl one_is ↦ (
      let same : length c ≡ length (1 ∷ rest) = omega (arith, image.no_shorter, image.no_longer) in
      inr (ext_get_or 0 c (1 ∷ rest) same (λ k h. each k one_is (image.bytes k h))))
]
  where
    each : (k : ℕ) → get_or c 0 0 ≡ 1 → MayRead (0 ∷ rest) ((1 ∷ rest) ∷ []) k (get_or c k 0) → get_or c k 0 ≡ get_or (1 ∷ rest) k 0
    each zero one_is is = one_is
    each (suc k) one_is (inl is) = is
    each (suc k) one_is (inr (inl had)) = had.1
    each (suc k) one_is (inr (inr none)) = absurd none

-- ---- whatever is pending is closed

abbrev pub ArePendingClosed : List Pending → Type 0
ArePendingClosed [] = Unit {0}
ArePendingClosed (p ∷ ps) = IsClosed p.synced × AllByRecursion IsClosed p.since × ArePendingClosed ps

had_closed : (since : List (List ℕ)) (v : ℕ) → AllByRecursion IsClosed since → HadByte since 0 v → v ≡ 1 → ⊥
had_closed [] v all had is = had
had_closed (x ∷ xs) v all (inl here_is) is = all.0 (sym here_is.1 ∙ is)
had_closed (x ∷ xs) v all (inr had) is = had_closed xs v all.1 had is

closed_image : (s : List ℕ) (since : List (List ℕ)) (c : List ℕ) → IsClosed s → AllByRecursion IsClosed since → IsImage s since c → IsClosed c
closed_image s since c first all image one_is = by_cases (image.bytes 0 (open_some c one_is))
  where
    by_cases : MayRead s since 0 (get_or c 0 0) → ⊥
    by_cases (inl is) = first (sym is ∙ one_is)
    by_cases (inr had) = had_closed since (get_or c 0 0) all had one_is

pub closed_left : (ps : List Pending) (c : List ℕ) → ArePendingClosed ps → MayLeave ps c → IsClosed c
closed_left [] c all left = absurd left
closed_left (p ∷ ps) c all (inl image) = closed_image p.synced p.since c all.0 all.1 image
closed_left (p ∷ ps) c all (inr left) = closed_left ps c all.2 left

closed_with : (ps : List Pending) (w : List ℕ) → ArePendingClosed ps → IsClosed w → ArePendingClosed (with_content w ps)
closed_with [] w all here_closed = tt
closed_with (p ∷ ps) w all here_closed = (all.0, (here_closed, all.1), closed_with ps w all.2 here_closed)

settled_closed : (log : List Event) → IsSettled log Hint → IsClosed (seen log Hint) → ArePendingClosed (disk log Hint).pending
settled_closed log is shut = subst (λ (d : Disk). ArePendingClosed d.pending) (sym is) (shut, tt, tt)

-- ---- calls

pub shut_is : (t : List ℕ) → written t 0 (0 ∷ []) ≡ 0 ∷ drop 1 t
shut_is t = refl

pub shut_closed : (t : List ℕ) → IsClosed (0 ∷ drop 1 t)
shut_closed t e = omega (arith, e)

-- a file of nothing has no gate
pub none_closed : (t : List ℕ) → length t ≡ 0 → IsClosed t
none_closed t none one_is = absurd (omega (arith, none, open_some t one_is))

-- the gate is closed and synced
pub shut_leaves : (old new : List Event) → IsSettled old Hint → LeavesOnly Hint (CrashLeavesWith old Hint (written (seen old Hint) 0 (0 ∷ []))) old new → LeavesOnly Hint (IsOldOrClosed (seen old Hint)) old new
shut_leaves old new is leaves =
    leaves_less Hint (CrashLeavesWith old Hint (written (seen old Hint) 0 (0 ∷ []))) (IsOldOrClosed (seen old Hint)) old new
    (settled_mix old Hint (written (seen old Hint) 0 (0 ∷ [])) (IsOldOrClosed (seen old Hint)) is (λ c image. old_or_closed (seen old Hint) c image)) leaves

pub less : (t n : List ℕ) (old new : List Event) → LeavesOnly Hint (IsOldOrClosed t) old new → LeavesOnly Hint (IsOldOr t n) old new
less t n old new leaves = leaves_less Hint (IsOldOrClosed t) (IsOldOr t n) old new (λ c h. elim h [ inl is ↦ inl is | inr shut ↦ inr (inl shut) ]) leaves

-- a closed file is cut
pub cut_closed : {T E : Type 0} (r : Result T E) (old new : List Event) → IsSettled old Hint → IsClosed (seen old Hint) → IsClosed (take 1 (seen old Hint)) → OnOk r (new ≡ Cut Hint 1 ∷ old) → OnErr r (Fails (Cut Hint 1) old new) → LeavesOnly Hint IsClosed old new
cut_closed r old new is shut front done failed =
    goes_on r Hint IsClosed (Cut Hint 1) old old new (here (settled_leaves old Hint IsClosed is shut))
    (λ c left. closed_left (with_content (take 1 (seen old Hint)) (disk old Hint).pending) c (closed_with (disk old Hint).pending (take 1 (seen old Hint)) (settled_closed old is shut) front) left) done failed

-- and written behind its gate
pub rest_closed : (old cut new : List Event) (w : List ℕ) → IsSettled old Hint → IsClosed (seen old Hint) → IsClosed (take 1 (seen old Hint)) → cut ≡ Cut Hint 1 ∷ old → IsClosed w → LeavesOnly Hint (CrashLeavesWith cut Hint w) cut new → LeavesOnly Hint IsClosed cut new
rest_closed old cut new w is shut front cut_is closed leaves =
    let pending : ArePendingClosed (disk cut Hint).pending = subst (λ (l : List Event). ArePendingClosed (disk l Hint).pending) (sym cut_is) (closed_with (disk old Hint).pending (take 1 (seen old Hint)) (settled_closed old is shut) front) in
    leaves_less Hint (CrashLeavesWith cut Hint w) IsClosed cut new (λ c left. closed_left (with_content w (disk cut Hint).pending) c (closed_with (disk cut Hint).pending w pending closed) left) leaves

-- the gate is opened
pub open_leaves : (t rest : List ℕ) (old new : List Event) → IsSettled old Hint → seen old Hint ≡ 0 ∷ rest → LeavesOnly Hint (CrashLeavesWith old Hint (written (seen old Hint) 0 (1 ∷ []))) old new → LeavesOnly Hint (IsOldOr t (1 ∷ rest)) old new
open_leaves t rest old new is now leaves =
    leaves_less Hint (CrashLeavesWith old Hint (written (seen old Hint) 0 (1 ∷ []))) (IsOldOr t (1 ∷ rest)) old new
    (settled_mix old Hint (written (seen old Hint) 0 (1 ∷ [])) (IsOldOr t (1 ∷ rest)) is (λ c image. inr (new_or_closed rest c (subst (λ (s : List ℕ). IsImage s (written s 0 (1 ∷ []) ∷ []) c) now image)))) leaves

pub then_closed : (t n : List ℕ) (old mid new : List Event) → LeavesOnly Hint (IsOldOr t n) old mid → LeavesOnly Hint IsClosed mid new → LeavesOnly Hint (IsOldOr t n) old new
then_closed t n old mid new first second = joined _ old mid new first (leaves_less Hint IsClosed (IsOldOr t n) mid new (λ c shut. inr (inl shut)) second)

-- ---- one call after another: the gate was closed at `mid`

pub now_closed : (t : List ℕ) (mid : List Event) → seen mid Hint ≡ 0 ∷ drop 1 t → IsClosed (seen mid Hint)
now_closed t mid is = subst (λ (b : List ℕ). IsClosed b) (sym is) (shut_closed t)

pub front_closed : (t : List ℕ) (mid : List Event) → seen mid Hint ≡ 0 ∷ drop 1 t → IsClosed (take 1 (seen mid Hint))
front_closed t mid is = subst (λ (b : List ℕ). IsClosed (take 1 b)) (sym is) (λ e. omega (arith, e))

pub cut_is : (t : List ℕ) (mid cut : List Event) → seen mid Hint ≡ 0 ∷ drop 1 t → cut ≡ Cut Hint 1 ∷ mid → seen cut Hint ≡ 0 ∷ []
cut_is t mid cut is made = ap (λ (l : List Event). seen l Hint) made ∙ seen-cut mid Hint 1 ∙ ap (take 1) is

pub rest_now : (rest : List ℕ) (cut : List Event) → seen cut Hint ≡ 0 ∷ [] → written (seen cut Hint) 1 rest ≡ 0 ∷ rest
rest_now rest cut is = ap (λ (b : List ℕ). written b 1 rest) is ∙ written_end (0 ∷ []) rest 1 refl

pub cut_then : {T E : Type 0} (r : Result T E) (t n : List ℕ) (old mid cut : List Event) → LeavesOnly Hint (IsOldOr t n) old mid → IsSettled mid Hint → seen mid Hint ≡ 0 ∷ drop 1 t
    → OnOk r (cut ≡ Cut Hint 1 ∷ mid) → OnErr r (Fails (Cut Hint 1) mid cut) → LeavesOnly Hint (IsOldOr t n) old cut
cut_then r t n old mid cut first settled is done failed = then_closed t n old mid cut first (cut_closed r mid cut settled (now_closed t mid is) (front_closed t mid is) done failed)

pub rest_then : (t n rest : List ℕ) (old mid cut new : List Event) → LeavesOnly Hint (IsOldOr t n) old cut → IsSettled mid Hint → seen mid Hint ≡ 0 ∷ drop 1 t → cut ≡ Cut Hint 1 ∷ mid
    → LeavesOnly Hint (CrashLeavesWith cut Hint (written (seen cut Hint) 1 rest)) cut new → LeavesOnly Hint (IsOldOr t n) old new
rest_then t n rest old mid cut new first settled is made leaves =
    let closed : IsClosed (written (seen cut Hint) 1 rest) = subst (λ (b : List ℕ). IsClosed b) (sym (rest_now rest cut (cut_is t mid cut is made))) (λ e. omega (arith, e)) in
    then_closed t n old cut new first (rest_closed mid cut new (written (seen cut Hint) 1 rest) settled (now_closed t mid is) (front_closed t mid is) made closed leaves)

pub open_then : (t rest : List ℕ) (old mid new : List Event) → LeavesOnly Hint (IsOldOr t (1 ∷ rest)) old mid → IsSettled mid Hint → seen mid Hint ≡ 0 ∷ rest
    → LeavesOnly Hint (CrashLeavesWith mid Hint (written (seen mid Hint) 0 (1 ∷ []))) mid new → LeavesOnly Hint (IsOldOr t (1 ∷ rest)) old new
open_then t rest old mid new first settled is leaves = joined _ old mid new first (open_leaves t rest mid new settled is leaves)

pub some_there : (x : ℕ) (xs : List ℕ) (log : List Event) → seen log Hint ≡ x ∷ xs → 1 ≤ length (seen log Hint)
some_there x xs log is = subst (λ (b : List ℕ). 1 ≤ length b) (sym is) (omega arith)

-- an area that stays, and stays
pub stays_then : (a : Area) (old mid new : List Event) → StaysAs a old mid → StaysAs a mid new → StaysAs a old new
stays_then a old mid new first second = joined (λ log. disk log a ≡ disk old a) old mid new first (weaker (λ log. disk log a ≡ disk mid a) (λ log. disk log a ≡ disk old a) mid new (λ log is. is ∙ along_now (λ l. disk l a ≡ disk old a) old mid first) second)

-- ---- nothing was changed

pub nothing_moved : (a : Area) (old new : List Event) → new ≡ old → StaysAs a old new
nothing_moved a old new same = subst (λ (l : List Event). StaysAs a old l) (sym same) (here refl)

pub nothing_done : (old new : List Event) → IsSettled old Hint → new ≡ old → LeavesOnly Hint (IsOldOrClosed (seen old Hint)) old new
nothing_done old new is same = subst (λ (l : List Event). LeavesOnly Hint (IsOldOrClosed (seen old Hint)) old l) (sym same) (here (settled_leaves old Hint (IsOldOrClosed (seen old Hint)) is (inl refl)))

pub nothing_written : (kept : Kept) (tallies : List Tally) (end : ℕ) (old : List Event) → IsSettled old Hint → LeavesOnly Hint (IsOldOrHint (seen old Hint) kept tallies end) old old
nothing_written kept tallies end old is = here (settled_leaves old Hint (IsOldOrHint (seen old Hint) kept tallies end) is (inl refl))

-- ---- the whole file

hint_of : (kept : Kept) (tallies : List Tally) (end : ℕ) (rest : List ℕ) → IsRestOf kept tallies end rest → IsHintOf kept tallies end (1 ∷ rest)
hint_of kept tallies end rest is = (is.0, is.1, is.2, ap (λ (b : List ℕ). 1 ∷ b) is.3)

pub written_leaves : (t rest bytes : List ℕ) (kept : Kept) (given tallies : List Tally) (end : ℕ) (old new : List Event) → bytes ≡ rest → given ≡ tallies → IsRestOf kept given end rest
    → LeavesOnly Hint (IsOldOr t (1 ∷ bytes)) old new → LeavesOnly Hint (IsOldOrHint t kept tallies end) old new
written_leaves t rest bytes kept given tallies end old new bytes_are given_are is leaves =
    let whole : IsHintOf kept tallies end (1 ∷ bytes) = subst (λ (b : List ℕ). IsHintOf kept tallies end (1 ∷ b)) (sym bytes_are) (subst (λ (ts : List Tally). IsHintOf kept ts end (1 ∷ rest)) given_are (hint_of kept given end rest is)) in
    leaves_less Hint (IsOldOr t (1 ∷ bytes)) (IsOldOrHint t kept tallies end) old new (λ c h. each c h whole) leaves
  where
    each : (c : List ℕ) → IsOldOr t (1 ∷ bytes) c → IsHintOf kept tallies end (1 ∷ bytes) → IsOldOrHint t kept tallies end c
    each c (inl is) whole = inl is
    each c (inr (inl shut)) whole = inr (inl shut)
    each c (inr (inr is)) whole = inr (inr (subst (λ (b : List ℕ). IsHintOf kept tallies end b) (sym is) whole))
