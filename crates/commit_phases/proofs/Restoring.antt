-- How stores that were put into the table are taken out again.
use Rattle.std.proofs.Common.{◌≡◌, ℕ, ◌-◌, Bool, true, false, cond, eqb, List, [], ◌∷◌, ◌++◌, length, Option, Some, None, refl, sym, ap, ◌∙◌, arith}
use Rattle.std.specs.Prelude.{is_some, nat_eq, take}
use Rattle.std.specs.Map.{lookup}
use Rattle.std.proofs.lemmas.List.{length-append}
use Rattle.std.proofs.Math.Seq.{take-append_seam}
use Rattle.indexmap.specs.IndexMap.{insert_entry}
use Rattle.commit_phases.specs.declared.pending.Stored.{Stored}
use Rattle.commit_phases.specs.declared.several.Replaced.{Replaced}
use Rattle.zb_model.specs.declared.pending.PendingStore.{PendingStore}
use Rattle.commit_phases.specs.Pending.{excess_with, stores_after, with_pending}
use Rattle.commit_phases.specs.Kept.{earlier_back, put_back, restored, stored_again}

-- ---- one store

pub dropped : (es : List (ℕ × Stored)) (e : ℕ × Stored) → take (length (es ++ e ∷ []) - 1) (es ++ e ∷ []) ≡ es
dropped es e =
    let n : length (es ++ e ∷ []) - 1 ≡ length es = omega (arith, length-append es (e ∷ [])) in
    ap (λ (k : ℕ). take k (es ++ e ∷ [])) n ∙ take-append_seam es (e ∷ [])

none_some : (s : Stored) → ◌≡◌ {A = Option Stored} (Some s) None → (es now : List (ℕ × Stored)) → es ≡ now
none_some s e es now = absurd cc

absent_last : (es : List (ℕ × Stored)) (oid : ℕ) (s : Stored) → lookup (nat_eq oid) es ≡ None → insert_entry nat_eq es oid s ≡ es ++ (oid, s) ∷ []
absent_last [] oid s none = refl
absent_last (e ∷ es) oid s none = by_cases (eqb oid e.0) (λ gone. absent_last es oid s gone) none
  where
    by_cases : (b : Bool) → (lookup (nat_eq oid) es ≡ None → insert_entry nat_eq es oid s ≡ es ++ (oid, s) ∷ []) → cond b (Some e.1) (lookup (nat_eq oid) es) ≡ None
        → cond b ((e.0, s) ∷ es) (e ∷ insert_entry nat_eq es oid s) ≡ e ∷ (es ++ (oid, s) ∷ [])
    by_cases true rest gone = none_some e.1 gone _ _
    by_cases false rest gone = ap (λ (xs : List (ℕ × Stored)). e ∷ xs) (rest gone)

same_stored : (a b : Stored) → Some a ≡ Some b → b ≡ a
same_stored a b e = cc

again : (es : List (ℕ × Stored)) (oid : ℕ) (s old : Stored) → lookup (nat_eq oid) es ≡ Some old → stored_again (insert_entry nat_eq es oid s) oid old ≡ es
again [] oid s old there = absurd cc
again (e ∷ es) oid s old there = by_cases (eqb oid e.0) refl (λ some. again es oid s old some) there
  where
    by_cases : (b : Bool) → eqb oid e.0 ≡ b → (lookup (nat_eq oid) es ≡ Some old → stored_again (insert_entry nat_eq es oid s) oid old ≡ es) → cond b (Some e.1) (lookup (nat_eq oid) es) ≡ Some old
        → stored_again (cond b ((e.0, s) ∷ es) (e ∷ insert_entry nat_eq es oid s)) oid old ≡ e ∷ es
    by_cases true is rest some = ap (λ (b : Bool). cond b ((e.0, old) ∷ es) ((e.0, s) ∷ stored_again es oid old)) is ∙ ap (λ (x : Stored). (e.0, x) ∷ es) (same_stored e.1 old some)
    by_cases false is rest some = ap (λ (b : Bool). cond b ((e.0, old) ∷ insert_entry nat_eq es oid s) (e ∷ stored_again (insert_entry nat_eq es oid s) oid old)) is ∙ ap (λ (xs : List (ℕ × Stored)). e ∷ xs) (rest some)

-- a store that was put into the table, and what was there is there again
pub undone : (es : List (ℕ × Stored)) (oid : ℕ) (s : Stored) (earlier : Option Stored) → lookup (nat_eq oid) es ≡ earlier → earlier_back (insert_entry nat_eq es oid s) oid earlier ≡ es
undone es oid s None is = ap (λ (xs : List (ℕ × Stored)). take (length xs - 1) xs) (absent_last es oid s is) ∙ dropped es (oid, s)
undone es oid s (Some old) is = again es oid s old is

-- the same, for what was put and what is answered of it
pub put_undone : (es now : List (ℕ × Stored)) (oid : ℕ) (s : Stored) (earlier : Option Stored) → now ≡ insert_entry nat_eq es oid s → earlier ≡ lookup (nat_eq oid) es → earlier_back now oid earlier ≡ es
put_undone es now oid s earlier put is = ap (λ (xs : List (ℕ × Stored)). earlier_back xs oid earlier) put ∙ undone es oid s earlier (sym is)

-- ---- taking one back

pub kept_again : (es : List (ℕ × Stored)) (oid : ℕ) (s : Stored) → is_some (lookup (nat_eq oid) es) ≡ true → insert_entry nat_eq es oid s ≡ stored_again es oid s
kept_again [] oid s there = absurd cc
kept_again (e ∷ es) oid s there = by_cases (eqb oid e.0) (λ some. kept_again es oid s some) there
  where
    by_cases : (b : Bool) → (is_some (lookup (nat_eq oid) es) ≡ true → insert_entry nat_eq es oid s ≡ stored_again es oid s) → is_some (cond b (Some e.1) (lookup (nat_eq oid) es)) ≡ true → cond b ((e.0, s) ∷ es) (e ∷ insert_entry nat_eq es oid s) ≡ cond b ((e.0, s) ∷ es) (e ∷ stored_again es oid s)
    by_cases true rest some = refl
    by_cases false rest some = ap (λ (xs : List (ℕ × Stored)). e ∷ xs) (rest some)

pub not_there : (es : List (ℕ × Stored)) (oid : ℕ) (s : Stored) → is_some (lookup (nat_eq oid) es) ≡ false → es ≡ stored_again es oid s
not_there [] oid s none = refl
not_there (e ∷ es) oid s none = by_cases (eqb oid e.0) (λ gone. not_there es oid s gone) none
  where
    by_cases : (b : Bool) → (is_some (lookup (nat_eq oid) es) ≡ false → es ≡ stored_again es oid s) → is_some (cond b (Some e.1) (lookup (nat_eq oid) es)) ≡ false → e ∷ es ≡ cond b ((e.0, s) ∷ es) (e ∷ stored_again es oid s)
    by_cases true rest gone = absurd cc
    by_cases false rest gone = ap (λ (xs : List (ℕ × Stored)). e ∷ xs) (rest gone)

-- ---- several

-- the last of several is taken back first
pub restored_last : (es : List (ℕ × Stored)) (done : List Replaced) (r : Replaced) → restored es (done ++ r ∷ []) ≡ restored (put_back es r) done
restored_last es [] r = refl
restored_last es (first ∷ done) r = ap (λ (xs : List (ℕ × Stored)). put_back xs first) (restored_last es done r)

-- one more was put into the table, and noted
pub noted : (old new : List (ℕ × Stored)) (before after : List Replaced) (r : Replaced) → after ≡ before ++ r ∷ [] → put_back new r ≡ old → restored new after ≡ restored old before
noted old new before after r is back = ap (restored new) is ∙ restored_last new before r ∙ ap (λ (xs : List (ℕ × Stored)). restored xs before) back

-- the last one was taken back
pub taken : (es now : List (ℕ × Stored)) (done left : List Replaced) (r : Replaced) (all : List (ℕ × Stored)) → done ≡ left ++ r ∷ [] → now ≡ put_back es r → restored es done ≡ all → restored now left ≡ all
taken es now done left r all is back same = ap (λ (xs : List (ℕ × Stored)). restored xs left) back ∙ sym (restored_last es left r) ∙ ap (restored es) (sym is) ∙ same

-- ---- one after another

one_stored : (stores left : List PendingStore) (p : PendingStore) → excess_with stores p ≡ None → stores_after stores (p ∷ left) ≡ stores_after (with_pending stores p) left
one_stored stores left p e = rw e refl

-- one more of several stores waits
pub rest_stored : (first all now next items left : List PendingStore) (p : PendingStore) → items ≡ p ∷ left → excess_with now p ≡ None → next ≡ with_pending now p → stores_after first all ≡ stores_after now items
    → stores_after first all ≡ stores_after next left
rest_stored first all now next items left p is e ok rest = rest ∙ (rw (is, ok) (one_stored now left p e))
