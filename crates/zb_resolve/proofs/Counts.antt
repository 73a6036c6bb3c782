-- Numbers of 128 bits.
use Rattle.std.proofs.Common.{◌≡◌, ℤ, ◌+ℤ◌, ◌-ℤ◌, Bool, true, false, cond, Option, Some, None, refl, sym, ◌∙◌, ap, subst, arith, FitsSigned}
use Rattle.std.proofs.Common.{to_z, of_z}
use Rattle.std.specs.Prelude.{neg_ℤ}
use Rattle.std.proofs.Math.IntN.{+ℤ_comm, +ℤ_assoc}
use Rattle.std.proofs.lemmas.Int.{to_z-of_z}
use Rattle.std.specs.Prelude.{SomeIff}
use Rattle.std.specs.Int.{w128}
use Rattle.std.proofs.lemmas.Grind.{common_steps}
use Rattle.zb_resolve.specs.Resolution.{is_int128, count_of}

fits_test : (n : ℤ) → FitsSigned w128 n → is_int128 n ≡ true
fits_test n h = grind (arith, common_steps)

test_fits : (n : ℤ) → is_int128 n ≡ true → FitsSigned w128 n
test_fits n h = grind (arith, common_steps)

count_by : (n : ℤ) (t : Bool) (r : Option ℤ) → is_int128 n ≡ t → SomeIff r (FitsSigned w128 n) n → r ≡ cond t (Some n) None
count_by n true None e h = absurd (h (test_fits n e))
count_by n true (Some x) e h = ap Some h.1
count_by n false None e h = refl
count_by n false (Some x) e h = (let b : true ≡ false = sym (fits_test n h.0) ∙ e in cc)

pub count_is : (n : ℤ) (r : Option ℤ) → SomeIff r (FitsSigned w128 n) n → r ≡ count_of n
count_is n r h = count_by n (is_int128 n) r refl h

other_order : (a b c : ℤ) → (b -ℤ a) +ℤ c ≡ (b +ℤ c) -ℤ a
other_order a b c = +ℤ_assoc b (neg_ℤ a) c ∙ ap (λ (z : ℤ). b +ℤ z) (+ℤ_comm (neg_ℤ a) c) ∙ sym (+ℤ_assoc b c (neg_ℤ a))

-- a number as it lies in memory
abbrev kept : ℤ → ℤ
kept n = to_z w128 (of_z w128 n)

counted : (n m : ℤ) (r : Option ℤ) → n ≡ m → SomeIff r (FitsSigned w128 n) n → r ≡ count_of m
counted n m r e h = count_is n r h ∙ ap count_of e

pub sum_less : (r : Option ℤ) (c t o : ℤ) → FitsSigned w128 c → FitsSigned w128 t → FitsSigned w128 o → FitsSigned w128 (c +ℤ t) → SomeIff r (FitsSigned w128 (kept (kept c +ℤ kept t) -ℤ kept o)) (kept (kept c +ℤ kept t) -ℤ kept o) → r ≡ count_of ((c +ℤ t) -ℤ o)
sum_less r c t o fc ft fo fs h =
    let ec : kept c ≡ c = to_z-of_z w128 c fc in
    let et : kept t ≡ t = to_z-of_z w128 t ft in
    let eo : kept o ≡ o = to_z-of_z w128 o fo in
    let es : kept (c +ℤ t) ≡ c +ℤ t = to_z-of_z w128 (c +ℤ t) fs in
    counted (kept (kept c +ℤ kept t) -ℤ kept o) ((c +ℤ t) -ℤ o) r ((λ i. kept (ec i +ℤ et i) -ℤ eo i) ∙ ap (λ (z : ℤ). z -ℤ o) es) h

pub less_sum : (r : Option ℤ) (c t o added : ℤ) → FitsSigned w128 c → FitsSigned w128 t → FitsSigned w128 o → FitsSigned w128 (kept c -ℤ kept o) × (added ≡ kept c -ℤ kept o) → SomeIff r (FitsSigned w128 (kept added +ℤ kept t)) (kept added +ℤ kept t) → r ≡ count_of ((c +ℤ t) -ℤ o)
less_sum r c t o added fc ft fo a h =
    let ec : kept c ≡ c = to_z-of_z w128 c fc in
    let et : kept t ≡ t = to_z-of_z w128 t ft in
    let eo : kept o ≡ o = to_z-of_z w128 o fo in
    let ea : kept added ≡ added = to_z-of_z w128 added (subst (FitsSigned w128) (sym a.1) a.0) in
    counted (kept added +ℤ kept t) ((c +ℤ t) -ℤ o) r ((λ i. (ea ∙ a.1) i +ℤ et i) ∙ (λ i. (ec i -ℤ eo i) +ℤ t) ∙ other_order o c t) h
