-- A memo whose first numbers stand in a list.
use Rattle.std.proofs.Common.{◌≡◌, ℕ, zero, suc, ◌+◌, ◌-◌, ◌<◌, ◌≤◌, eqb, ltb, true, false, List, [], ◌∷◌, ◌++◌, length, get_or, Some, refl, sym, ◌∙◌, ap, subst, arith, inl, inr}
use Rattle.std.proofs.lemmas.Bool.{eqb-true, eqb-false, eq-eqb, ne_eqb, le-ltb}
use Rattle.std.proofs.lemmas.List.{append-nil}
use Rattle.std.specs.Prelude.{slice_get, slice_set}
use Rattle.std.specs.Ordering.{nat_cmp}
use Rattle.std.specs.BTreeMap.{is_at, insert_entry}
use Rattle.std.specs.Map.{lookup}
use Rattle.std.specs.declared.cmp.Ordering.TheVariants.{Equal, Greater}
use Rattle.pickle_reading.specs.Stacks.{numbered_from, put_at, node_at}
use Rattle.pickle_graph.specs.WalkLaws.{cases_bool}

cmp_same : (n : ℕ) → nat_cmp n n ≡ Equal
cmp_same n =
    let a : ltb n n ≡ false = le-ltb n n (omega arith) in
    let b : eqb n n ≡ true = eq-eqb n n refl in
    rw (a, b) refl

cmp_more : (n i : ℕ) → i < n → nat_cmp n i ≡ Greater
cmp_more n i h =
    let a : ltb n i ≡ false = le-ltb n i (omega (arith, h)) in
    let b : eqb n i ≡ false = ne_eqb n i (λ e. absurd (omega (arith, h, e))) in
    rw (a, b) refl

set_later : (x node : ℕ) (xs : List ℕ) (k j : ℕ) → k ≡ suc j → slice_set (x ∷ xs) k node ≡ x ∷ slice_set xs j node
set_later x node xs k j e = rw e refl

get_later : (x : ℕ) (xs : List ℕ) (k j : ℕ) → k ≡ suc j → slice_get (x ∷ xs) k ≡ slice_get xs j
get_later x xs k j e = rw e refl

put_low : (xs : List ℕ) (i number node : ℕ) (es : List (ℕ × ℕ)) → i ≤ number → number < i + length xs →
    insert_entry nat_cmp (numbered_from i xs ++ es) number node ≡ numbered_from i (slice_set xs (number - i) node) ++ es
put_low [] i number node es low high = absurd (omega (arith, low, high))
put_low (x ∷ xs) i number node es low high = elim (cases_bool (eqb i number)) [
  | inl e ↦
      let same : i ≡ number = eqb-true i number e in
      let none : i - i ≡ 0 = omega arith in
      let c = cmp_same i in
      subst (λ (n : ℕ). insert_entry nat_cmp (numbered_from i (x ∷ xs) ++ es) n node ≡ numbered_from i (slice_set (x ∷ xs) (n - i) node) ++ es) same (rw (c, none) refl)
  | inr e ↦
      let apart = eqb-false i number e in
      let less : i < number = omega (arith, low, apart) in
      let c = cmp_more number i less in
      let later = set_later x node xs (number - i) (number - (i + 1)) (omega (arith, less)) in
      let rest = put_low xs (i + 1) number node es (omega (arith, less)) (omega (arith, high)) in
      rw (c, later, rest) refl
]

put_high : (xs : List ℕ) (i number node : ℕ) (es : List (ℕ × ℕ)) → i + length xs ≤ number →
    insert_entry nat_cmp (numbered_from i xs ++ es) number node ≡ numbered_from i xs ++ insert_entry nat_cmp es number node
put_high [] i number node es high = refl
put_high (x ∷ xs) i number node es high =
    let c = cmp_more number i (omega (arith, high)) in
    let rest = put_high xs (i + 1) number node es (omega (arith, high)) in
    rw (c, rest) refl

numbered_push : (xs : List ℕ) (i node : ℕ) → numbered_from i (xs ++ node ∷ []) ≡ numbered_from i xs ++ (i + length xs, node) ∷ []
numbered_push [] i node = let e : i + 0 ≡ i = omega arith in rw e refl
numbered_push (x ∷ xs) i node =
    let e : i + suc (length xs) ≡ i + 1 + length xs = omega arith in
    rw (e, numbered_push xs (i + 1) node) refl

got_low : (xs : List ℕ) (i number : ℕ) (es : List (ℕ × ℕ)) → i ≤ number → number < i + length xs →
    lookup (is_at (nat_cmp number)) (numbered_from i xs ++ es) ≡ slice_get xs (number - i)
got_low [] i number es low high = absurd (omega (arith, low, high))
got_low (x ∷ xs) i number es low high = elim (cases_bool (eqb i number)) [
  | inl e ↦
      let same : i ≡ number = eqb-true i number e in
      let none : i - i ≡ 0 = omega arith in
      let c = cmp_same i in
      subst (λ (n : ℕ). lookup (is_at (nat_cmp n)) (numbered_from i (x ∷ xs) ++ es) ≡ slice_get (x ∷ xs) (n - i)) same (rw (c, none) refl)
  | inr e ↦
      let apart = eqb-false i number e in
      let less : i < number = omega (arith, low, apart) in
      let c = cmp_more number i less in
      let later = get_later x xs (number - i) (number - (i + 1)) (omega (arith, less)) in
      let rest = got_low xs (i + 1) number es (omega (arith, less)) (omega (arith, high)) in
      rw (c, later, rest) refl
]

got_high : (xs : List ℕ) (i number : ℕ) (es : List (ℕ × ℕ)) → i + length xs ≤ number →
    lookup (is_at (nat_cmp number)) (numbered_from i xs ++ es) ≡ lookup (is_at (nat_cmp number)) es
got_high [] i number es high = refl
got_high (x ∷ xs) i number es high =
    let c = cmp_more number i (omega (arith, high)) in
    let rest = got_high xs (i + 1) number es (omega (arith, high)) in
    rw (c, rest) refl

read_get : (xs : List ℕ) (k x : ℕ) → k < length xs → x ≡ get_or xs k x → slice_get xs k ≡ Some x
read_get [] k x h e = absurd (omega arith)
read_get (y ∷ xs) zero x h e = ap Some (sym e)
read_get (y ∷ xs) (suc k) x h e = read_get xs k x (omega arith) e

-- ---- from 0 on

pub put_below : (xs : List ℕ) (number node : ℕ) (es : List (ℕ × ℕ)) → number < length xs →
    numbered_from 0 (slice_set xs number node) ++ es ≡ put_at (numbered_from 0 xs ++ es) number node
put_below xs number node es less =
    let e : number - 0 ≡ number = omega arith in
    sym (subst (λ (k : ℕ). put_at (numbered_from 0 xs ++ es) number node ≡ numbered_from 0 (slice_set xs k node) ++ es) e (put_low xs 0 number node es (omega arith) (omega (arith, less))))

pub put_above : (xs : List ℕ) (number node : ℕ) (es : List (ℕ × ℕ)) → length xs ≤ number →
    numbered_from 0 xs ++ insert_entry nat_cmp es number node ≡ put_at (numbered_from 0 xs ++ es) number node
put_above xs number node es high = sym (put_high xs 0 number node es (omega (arith, high)))

pub put_next : (xs : List ℕ) (number node : ℕ) (es : List (ℕ × ℕ)) → number ≡ length xs → length es ≡ 0 →
    numbered_from 0 (xs ++ node ∷ []) ++ es ≡ put_at (numbered_from 0 xs ++ es) number node
put_next xs number node (e ∷ es) is none = absurd (omega (arith, none))
put_next xs number node [] is none =
    let e : 0 + length xs ≡ number = omega (arith, is) in
    let a : numbered_from 0 (xs ++ node ∷ []) ≡ numbered_from 0 xs ++ (number, node) ∷ [] = numbered_push xs 0 node ∙ ap (λ (n : ℕ). numbered_from 0 xs ++ (n, node) ∷ []) e in
    append-nil (numbered_from 0 (xs ++ node ∷ [])) ∙ a ∙ put_above xs number node [] (omega (arith, is))

pub get_below : (xs : List ℕ) (number x : ℕ) (es : List (ℕ × ℕ)) → number < length xs → x ≡ get_or xs number x → Some x ≡ node_at (numbered_from 0 xs ++ es) number
get_below xs number x es less read =
    let e : number - 0 ≡ number = omega arith in
    let got : node_at (numbered_from 0 xs ++ es) number ≡ slice_get xs number =
    subst (λ (k : ℕ). node_at (numbered_from 0 xs ++ es) number ≡ slice_get xs k) e (got_low xs 0 number es (omega arith) (omega (arith, less))) in
    sym (got ∙ read_get xs number x less read)

pub get_above : (xs : List ℕ) (number : ℕ) (es : List (ℕ × ℕ)) → length xs ≤ number → lookup (is_at (nat_cmp number)) es ≡ node_at (numbered_from 0 xs ++ es) number
get_above xs number es high = sym (got_high xs 0 number es (omega (arith, high)))
