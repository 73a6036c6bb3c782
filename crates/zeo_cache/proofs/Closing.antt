-- What is looked up once one entry was closed where it stands.
use Rattle.std.proofs.Common.{◌≡◌, ℕ, Bool, true, false, List, Option, Some, None, refl, sym, ap, ◌∙◌, subst, ⊎_elim, cond, nat_eq}
use Rattle.std.specs.Prelude.{is_some, IsSome}
use Rattle.std.proofs.lemmas.Bool.{cases_Bool, eqb-true, eqb-false}
use Rattle.std.specs.Cmp.{nat_eq_equiv}
use Rattle.std.specs.Map.{lookup, set_value}
use Rattle.std.specs.Option.{option_map}
use Rattle.std.proofs.lemmas.Map.{lookup-set_value}
use Rattle.zeo_cache.specs.declared.interval.Interval.{Interval}
use Rattle.zeo_cache.specs.Intervals.{Intervals, HoldsClosed, closed_at, closed_one, interval_of}

there : (m : Option Interval) (k : Interval) → m ≡ Some k → IsSome m
there m k h = subst (λ (n : Option Interval). IsSome n) (sym h) refl

kept : (q tid o : ℕ) → nat_eq q o ≡ false → (k : Interval) → closed_one q tid o k ≡ k
kept q tid o t k = ⊎_elim (λ (s : nat_eq o q ≡ true). absurd (eqb-false q o t (sym (eqb-true o q s)))) (λ (s : nat_eq o q ≡ false). rw s refl) (cases_Bool (nat_eq o q))

all_kept : (q tid o : ℕ) → nat_eq q o ≡ false → (m : Option Interval) → m ≡ option_map (closed_one q tid o) m
all_kept q tid o t None = refl
all_kept q tid o t (Some k) = ap (λ (j : Interval). Some j) (sym (kept q tid o t k))

closed_here : (q tid o : ℕ) → nat_eq q o ≡ true → (k : Interval) → closed_one q tid o k ≡ closed_at tid k
closed_here q tid o t k = ⊎_elim (λ (s : nat_eq o q ≡ true). rw s refl) (λ (s : nat_eq o q ≡ false). absurd (eqb-false o q s (sym (eqb-true q o t)))) (cases_Bool (nat_eq o q))

closed_each : (q tid o : ℕ) (entries : Intervals) (k : Interval) → interval_of entries q ≡ Some k
    → lookup (nat_eq o) (set_value (nat_eq q) entries (closed_at tid k)) ≡ option_map (closed_one q tid o) (interval_of entries o)
closed_each q tid o entries k h =
    let e : lookup (nat_eq o) (set_value (nat_eq q) entries (closed_at tid k)) ≡ cond (nat_eq q o) (Some (closed_at tid k)) (interval_of entries o) =
    lookup-set_value nat_eq_equiv (nat_eq q) (λ x y t. ap (λ (j : ℕ). nat_eq j y) (eqb-true q x t)) o (closed_at tid k) entries (there (interval_of entries q) k h) in
    ⊎_elim (λ (t : nat_eq q o ≡ true).
    let here : interval_of entries o ≡ Some k = subst (λ (j : ℕ). interval_of entries j ≡ Some k) (eqb-true q o t) h in
    (rw t at e) ∙ (ap (λ (j : Interval). Some j) (sym (closed_here q tid o t k)) ∙ ap (λ (m : Option Interval). option_map (closed_one q tid o) m) (sym here)))
    (λ (t : nat_eq q o ≡ false). (rw t at e) ∙ all_kept q tid o t (interval_of entries o))
    (cases_Bool (nat_eq q o))

pub closes : (q tid : ℕ) (entries : Intervals) (k : Interval) → interval_of entries q ≡ Some k → HoldsClosed entries q tid (set_value (nat_eq q) entries (closed_at tid k))
closes q tid entries k h = record { each = λ o. closed_each q tid o entries k h }
