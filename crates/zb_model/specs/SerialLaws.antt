-- The revisions of an object in a database rise, so that a look-up below a front finds the one with a serial, and the last one. For the proofs of those who read stores.
use Rattle.std.proofs.Common.{◌≡◌, ℕ, suc, ◌+◌, ◌<◌, ◌≤◌, ◌⊎◌, inl, inr, Bool, true, false, cond, eqb, ltb, List, [], ◌∷◌, map, filter, add-one, Option, Some, None, refl, sym, ap, ◌∙◌, arith}
use native.Mathlib.Numerals.{unary_clauses}
use Rattle.std.specs.List.{find, filter_map, last_or}
use Rattle.std.specs.List.Sorted.{IsStrictlyIncreasing}
use Rattle.std.specs.Option.{option_map_or}
use Rattle.std.proofs.lemmas.Bool.{eqb-true, eqb-false, ltb-true, ltb-false, lt-ltb, ne_eqb, eq-eqb}
use Rattle.zb_model.specs.declared.data.Change.{Change}
use Rattle.zb_model.specs.declared.data.Transaction.{Transaction}
use Rattle.zb_model.specs.Database.{IsDatabase, ObjectRevision, change_in, is_below, newest_tid, revision_below, revision_in, revisions}
use Rattle.zb_model.specs.Voting.{has_serial, revision_at}

-- ---- tids and serials that rise, up to a bound

abbrev pub RisesTo : ℕ → ℕ → List Transaction → Type 0
RisesTo low high [] = low ≤ high
RisesTo low high (t ∷ ts) = (low < t.tid) × RisesTo t.tid high ts

abbrev pub SerialsTo : ℕ → ℕ → List ObjectRevision → Type 0
SerialsTo low high [] = low ≤ high
SerialsTo low high (r ∷ rs) = (low < r.serial) × SerialsTo r.serial high rs

abbrev last_tid : ℕ → List Transaction → ℕ
last_tid low [] = low
last_tid low (t ∷ ts) = last_tid t.tid ts

last_tid-is : (t : Transaction) (ts : List Transaction) → last_tid t.tid ts ≡ option_map_or (λ (x : Transaction). x.tid) (last_or (Some t) ts) 0
last_tid-is t [] = refl
last_tid-is t (x ∷ ts) = last_tid-is x ts

newest_is : (ts : List Transaction) → last_tid 0 ts ≡ newest_tid ts
newest_is [] = refl
newest_is (t ∷ ts) = last_tid-is t ts

rises : (low : ℕ) (ts : List Transaction) → IsStrictlyIncreasing (low ∷ map (λ t. t.tid) ts) → RisesTo low (last_tid low ts) ts
rises low [] h = omega arith
rises low (t ∷ ts) h = (h 0 (omega arith), rises t.tid ts (λ k l. rw add-one (simp unary_clauses at (h (suc k) (omega arith)))))

pub database_rises : (list : List Transaction) → IsDatabase list → RisesTo 0 (newest_tid list) list
database_rises list is = rw (sym (newest_is list)) (rises 0 list is.rising)

last_within : (low high : ℕ) (ts : List Transaction) → RisesTo low high ts → last_tid low ts ≤ high
last_within low high [] h = h
last_within low high (t ∷ ts) h = last_within t.tid high ts h.1

-- the newest of transactions that rise to a bound is within it
pub newest_within : (high : ℕ) (ts : List Transaction) → RisesTo 0 high ts → newest_tid ts ≤ high
newest_within high ts h = rw (sym (newest_is ts)) (last_within 0 high ts h)

lower : (low low' high : ℕ) (rs : List ObjectRevision) → low ≤ low' → SerialsTo low' high rs → SerialsTo low high rs
lower low low' high [] l h = omega (arith, l, h)
lower low low' high (r ∷ rs) l h = (omega (arith, l, h.0), h.1)

pub serials : (oid low high : ℕ) (ts : List Transaction) → RisesTo low high ts → SerialsTo low high (revisions oid ts)
serials oid low high [] h = h
serials oid low high (t ∷ ts) h = by_cases (change_in oid t.changes) refl (serials oid t.tid high ts h.1)
  where
    by_cases : (o : Option Change) → change_in oid t.changes ≡ o → SerialsTo t.tid high (revisions oid ts) → SerialsTo low high (filter_map (revision_in oid) (t ∷ ts))
    by_cases None e rest = rw e (lower low t.tid high (revisions oid ts) (omega (arith, h.0)) rest)
    by_cases (Some c) e rest = rw e (h.0, rest)

pub database_serials : (oid : ℕ) (list : List Transaction) → IsDatabase list → SerialsTo 0 (newest_tid list) (revisions oid list)
database_serials oid list is = serials oid 0 (newest_tid list) list (database_rises list is)

bounded : (low high : ℕ) (rs : List ObjectRevision) → SerialsTo low high rs → low ≤ high
bounded low high [] h = h
bounded low high (r ∷ rs) h = omega (arith, h.0, bounded r.serial high rs h.1)

-- ---- the last one

all_below : (low high front : ℕ) (rs : List ObjectRevision) → SerialsTo low high rs → high < front → filter (is_below front) rs ≡ rs
all_below low high front [] h l = refl
all_below low high front (r ∷ rs) h l =
    let below : ltb r.serial front ≡ true = lt-ltb r.serial front (omega (arith, l, bounded r.serial high rs h.1)) in
    rw below (ap (λ ys. r ∷ ys) (all_below r.serial high front rs h.1 l))

-- above the newest tid the last revision is found
pub last_is : (oid : ℕ) (list : List Transaction) → IsDatabase list → revision_below oid (newest_tid list + 1) list ≡ last_or None (revisions oid list)
last_is oid list is = ap (λ (rs : List ObjectRevision). last_or None rs) (all_below 0 (newest_tid list) (newest_tid list + 1) (revisions oid list) (database_serials oid list is) (omega arith))

-- of transactions that rise to a bound too
pub last_of_rising : (oid low high front : ℕ) (list : List Transaction) → RisesTo low high list → high < front → revision_below oid front list ≡ last_or None (revisions oid list)
last_of_rising oid low high front list rising l = ap (λ (rs : List ObjectRevision). last_or None rs) (all_below low high front (revisions oid list) (serials oid low high list rising) l)

-- ---- the one with a serial

-- a revision, where it has this serial
abbrev pub exact : ℕ → Option ObjectRevision → Option ObjectRevision
exact s None = None
exact s (Some r) = cond (eqb r.serial s) (Some r) None

abbrev EndsBefore : ℕ → Option ObjectRevision → Type 0
EndsBefore s None = Unit {0}
EndsBefore s (Some r) = r.serial < s

exact_none : (s : ℕ) (o : Option ObjectRevision) → EndsBefore s o → exact s o ≡ None
exact_none s None h = refl
exact_none s (Some r) h = by_cases (eqb r.serial s) refl
  where
    by_cases : (b : Bool) → eqb r.serial s ≡ b → cond b (Some r) None ≡ None
    by_cases true e = absurd (omega (arith, h, eqb-true r.serial s e))
    by_cases false e = refl

none_below : (s low high : ℕ) (rs : List ObjectRevision) → s ≤ low → SerialsTo low high rs → filter (is_below (s + 1)) rs ≡ []
none_below s low high [] l h = refl
none_below s low high (r ∷ rs) l h = by_cases (ltb r.serial (s + 1)) refl (none_below s r.serial high rs (omega (arith, l, h.0)) h.1)
  where
    by_cases : (b : Bool) → ltb r.serial (s + 1) ≡ b → filter (is_below (s + 1)) rs ≡ [] → cond b (r ∷ filter (is_below (s + 1)) rs) (filter (is_below (s + 1)) rs) ≡ []
    by_cases true e rest = absurd (omega (arith, l, h.0, ltb-true r.serial (s + 1) e))
    by_cases false e rest = rest

none_at : (s low high : ℕ) (rs : List ObjectRevision) → s ≤ low → SerialsTo low high rs → find (has_serial s) rs ≡ None
none_at s low high [] l h = refl
none_at s low high (r ∷ rs) l h = by_cases (eqb r.serial s) refl (none_at s r.serial high rs (omega (arith, l, h.0)) h.1)
  where
    by_cases : (b : Bool) → eqb r.serial s ≡ b → find (has_serial s) rs ≡ None → cond b (Some r) (find (has_serial s) rs) ≡ None
    by_cases true e rest = absurd (omega (arith, l, h.0, eqb-true r.serial s e))
    by_cases false e rest = rest

found_exact : (s low high : ℕ) (o : Option ObjectRevision) (rs : List ObjectRevision) → EndsBefore s o → SerialsTo low high rs → find (has_serial s) rs ≡ exact s (last_or o (filter (is_below (s + 1)) rs))
found_exact s low high o [] b h = sym (exact_none s o b)
found_exact s low high o (r ∷ rs) b h = by_cases (eqb r.serial s) (ltb r.serial (s + 1)) refl refl (λ before. found_exact s r.serial high (Some r) rs before h.1)
  where
    by_cases : (e l : Bool) → eqb r.serial s ≡ e → ltb r.serial (s + 1) ≡ l → (r.serial < s → find (has_serial s) rs ≡ exact s (last_or (Some r) (filter (is_below (s + 1)) rs))) → cond e (Some r) (find (has_serial s) rs) ≡ exact s (last_or o (cond l (r ∷ filter (is_below (s + 1)) rs) (filter (is_below (s + 1)) rs)))
    by_cases true true is below rest =
        let none : filter (is_below (s + 1)) rs ≡ [] = none_below s r.serial high rs (omega (arith, eqb-true r.serial s is)) h.1 in
        rw none (rw is refl)
    by_cases true false is below rest = absurd (omega (arith, eqb-true r.serial s is, ltb-false r.serial (s + 1) below))
    by_cases false true is below rest = rest (omega (arith, eqb-false r.serial s is, ltb-true r.serial (s + 1) below))
    by_cases false false is below rest =
        let above : s ≤ r.serial = omega (arith, ltb-false r.serial (s + 1) below) in
        let none : filter (is_below (s + 1)) rs ≡ [] = none_below s r.serial high rs above h.1 in
        none_at s r.serial high rs above h.1 ∙ sym (ap (λ (ys : List ObjectRevision). exact s (last_or o ys)) none ∙ exact_none s o b)

-- the revision with a serial is the one that is found right above it, if that has the serial
pub at_is : (oid s : ℕ) (list : List Transaction) → IsDatabase list → revision_at oid s list ≡ exact s (revision_below oid (s + 1) list)
at_is oid s list is = found_exact s 0 (newest_tid list) None (revisions oid list) tt (database_serials oid list is)

none_from : (s low high : ℕ) (rs : List ObjectRevision) → high < s → SerialsTo low high rs → find (has_serial s) rs ≡ None
none_from s low high [] l h = refl
none_from s low high (r ∷ rs) l h = by_cases (eqb r.serial s) refl (none_from s r.serial high rs l h.1)
  where
    by_cases : (b : Bool) → eqb r.serial s ≡ b → find (has_serial s) rs ≡ None → cond b (Some r) (find (has_serial s) rs) ≡ None
    by_cases true e rest = absurd (omega (arith, l, bounded r.serial high rs h.1, eqb-true r.serial s e))
    by_cases false e rest = rest

-- none has a serial above the newest
pub none_spent : (oid s : ℕ) (list : List Transaction) → newest_tid list < s → IsDatabase list → revision_at oid s list ≡ None
none_spent oid s list l is = none_from s 0 (newest_tid list) (revisions oid list) l (database_serials oid list is)

-- ---- the one that was found has its serial alone

above : (r : ObjectRevision) (low high : ℕ) (rs : List ObjectRevision) → find (has_serial r.serial) rs ≡ Some r → SerialsTo low high rs → low < r.serial
above r low high rs e h = by_cases (ltb low r.serial) refl
  where
    by_cases : (b : Bool) → ltb low r.serial ≡ b → low < r.serial
    by_cases true l = ltb-true low r.serial l
    by_cases false l =
        let none : find (has_serial r.serial) rs ≡ None = none_at r.serial low high rs (ltb-false low r.serial l) h in
        absurd (cc)

found_again : (front low high : ℕ) (o : Option ObjectRevision) (r : ObjectRevision) (rs : List ObjectRevision) → SerialsTo low high rs → last_or o (filter (is_below front) rs) ≡ Some r → (o ≡ Some r) ⊎ (find (has_serial r.serial) rs ≡ Some r)
found_again front low high o r [] h e = inl e
found_again front low high o r (x ∷ rs) h e = by_cases (ltb x.serial front) refl (λ p. found_again front x.serial high p r rs h.1)
  where
    passed : find (has_serial r.serial) rs ≡ Some r → find (has_serial r.serial) (x ∷ rs) ≡ Some r
    passed f =
        let l : x.serial < r.serial = above r x.serial high rs f h.1 in
        let other : eqb x.serial r.serial ≡ false = ne_eqb x.serial r.serial (λ q. omega (arith, l, q)) in
        rw other f

    here : (Some x ≡ Some r) ⊎ (find (has_serial r.serial) rs ≡ Some r) → (o ≡ Some r) ⊎ (find (has_serial r.serial) (x ∷ rs) ≡ Some r)
    here (inl q) =
        let same : x ≡ r = cc in
        let is : eqb x.serial r.serial ≡ true = eq-eqb x.serial r.serial (ap (λ (y : ObjectRevision). y.serial) same) in
        inr (rw is q)
    here (inr f) = inr (passed f)

    skipped : (o ≡ Some r) ⊎ (find (has_serial r.serial) rs ≡ Some r) → (o ≡ Some r) ⊎ (find (has_serial r.serial) (x ∷ rs) ≡ Some r)
    skipped (inl q) = inl q
    skipped (inr f) = inr (passed f)

    by_cases : (b : Bool) → ltb x.serial front ≡ b → ((p : Option ObjectRevision) → last_or p (filter (is_below front) rs) ≡ Some r → (p ≡ Some r) ⊎ (find (has_serial r.serial) rs ≡ Some r)) → (o ≡ Some r) ⊎ (find (has_serial r.serial) (x ∷ rs) ≡ Some r)
    by_cases true l again = here (again (Some x) (rw l at e))
    by_cases false l again = skipped (again o (rw l at e))

-- what is found below a front is found again by its serial
pub again_is : (oid front : ℕ) (r : ObjectRevision) (list : List Transaction) → IsDatabase list → revision_below oid front list ≡ Some r → revision_at oid r.serial list ≡ Some r
again_is oid front r list is e = found (found_again front 0 (newest_tid list) None r (revisions oid list) (database_serials oid list is) e)
  where
    found : (None ≡ Some r) ⊎ (find (has_serial r.serial) (revisions oid list) ≡ Some r) → revision_at oid r.serial list ≡ Some r
    found (inl q) = absurd (cc)
    found (inr f) = f
