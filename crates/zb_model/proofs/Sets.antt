-- Sets of numbers, kept as lists in order.
use Rattle.std.proofs.Common.{◌≡◌, ℕ, ◌+◌, Bool, true, false, cond, ◌||◌, List, [], ◌∷◌, length, Less, refl, sym, ap, ◌∙◌, arith}
use Rattle.std.specs.List.{AllByRecursion, list_any}
use Rattle.std.specs.List.Sorted.{IsStrictlySortedBy}
use Rattle.std.specs.Cmp.{nat_cmp_total, nat_eq_equiv, unsigned_tied}
use Rattle.std.specs.Ordering.{eq_by_cmp, is_eq, nat_cmp}
use Rattle.std.specs.FinSet.{contains, contains-from_list, contains-insert, from_list, insert, len, len-empty, len-insert, nat_cmp-IsAntisymmetric, same_set}

-- whether a number is among these
abbrev pub is_among : ℕ → List ℕ → Bool
is_among q ks = list_any (eq_by_cmp nat_cmp q) ks

pub in_set : (ks : List ℕ) (q : ℕ) → contains (from_list {R = nat_cmp} ks) q ≡ is_among q ks
in_set ks q = contains-from_list nat_cmp_total ks q

tied_swap : (a b : ℕ) → eq_by_cmp nat_cmp a b ≡ eq_by_cmp nat_cmp b a
tied_swap a b = unsigned_tied a b ∙ nat_eq_equiv.symm a b ∙ sym (unsigned_tied b a)

or_cond : (b c : Bool) → cond b true c ≡ (b || c)
or_cond true c = refl
or_cond false c = refl

-- one number more
pub insert_set : (old new : List ℕ) (k : ℕ) → ((q : ℕ) → is_among q new ≡ cond (eq_by_cmp nat_cmp k q) true (is_among q old)) → from_list {R = nat_cmp} new ≡ insert (from_list old) k
insert_set old new k has = same_set nat_cmp_total nat_cmp-IsAntisymmetric (from_list new) (insert (from_list old) k) (λ q.
    in_set new q ∙ has q ∙ or_cond (eq_by_cmp nat_cmp k q) (is_among q old) ∙ ap (λ (b : Bool). b || is_among q old) (tied_swap k q)
    ∙ sym (contains-insert nat_cmp_total (from_list old) k q ∙ ap (λ (b : Bool). eq_by_cmp nat_cmp q k || b) (in_set old q)))

none_equal : (k : ℕ) (ks : List ℕ) → AllByRecursion (λ n. nat_cmp k n ≡ Less) ks → is_among k ks ≡ false
none_equal k [] all = refl
none_equal k (n ∷ ks) all = ap (λ (b : Bool). b || is_among k ks) (ap is_eq all.0) ∙ none_equal k ks all.1

pub len_set : (ks : List ℕ) → IsStrictlySortedBy nat_cmp ks → len (from_list {R = nat_cmp} ks) ≡ length ks
unfolding IsStrictlySortedBy
len_set [] sorted = len-empty nat_cmp
len_set (k ∷ ks) sorted =
    let apart : contains (from_list {R = nat_cmp} ks) k ≡ false = in_set ks k ∙ none_equal k ks sorted.0 in
    let rest : len (from_list {R = nat_cmp} ks) ≡ length ks = len_set ks sorted.1 in
    len-insert nat_cmp_total (from_list ks) k ∙ ap (λ (b : Bool). cond b (len (from_list {R = nat_cmp} ks)) (len (from_list {R = nat_cmp} ks) + 1)) apart ∙ omega (arith, rest)
