-- How many lines each client has in the script, and how the counts go down.
use Rattle.std.proofs.Common.{◌≡◌, ℕ, zero, suc, ◌+◌, ◌-◌, ◌*◌, ◌%◌, ◌<◌, ◌≤◌, Bool, true, false, List, [], ◌∷◌, ◌++◌, Some, refl, sym, ap, ◌∙◌, arith}
use Rattle.std.specs.Prelude.{◌==◌, if◌then◌else◌, slice_get, slice_index, slice_set}
use Rattle.std.proofs.lemmas.Bool.{eq-eqb, eqb-true}
use Rattle.std.proofs.Math.Dec.{eqb-suc-zero, eqb-zero-suc}
use Rattle.std.proofs.lemmas.Option.{get_or_from_slice_get}
use Rattle.gen_script.specs.declared.line.GenLine.{GenLine}
use Rattle.gen_script.specs.Counting.{AreCounts, in_round, in_rounds, in_setup}
use Rattle.gen_script.specs.Script.{count_of, drawn, gen_lines, is_hundredth, next, pack_behind, round, rounds, setup, turns_of}

-- ---- counts of lines

count_both : (i : ℕ) (a b : List GenLine) → count_of i (a ++ b) ≡ count_of i a + count_of i b
count_both i [] b = omega arith
count_both i (l ∷ a) b = omega (arith, count_both i a b)

count_turns : (c i j u v k : ℕ) → count_of c (turns_of i j u v k) ≡ (if i == c then 6 else 0) + (if j == c then 6 else 0)
count_turns c i j u v k = by_tests (i == c) (j == c)
  where
    by_tests : (a b : Bool)
        → (if a then 1 else 0) + ((if b then 1 else 0) + ((if a then 1 else 0) + ((if b then 1 else 0) + ((if a then 1 else 0) + ((if b then 1 else 0) + ((if a then 1 else 0) + ((if a then 1 else 0) + ((if b then 1 else 0) + ((if b then 1 else 0) + ((if a then 1 else 0) + ((if b then 1 else 0) + 0)))))))))))
        ≡ (if a then 6 else 0) + (if b then 6 else 0)
    by_tests true true = refl
    by_tests true false = refl
    by_tests false true = refl
    by_tests false false = refl

count_pack : (c : ℕ) (b : Bool) → count_of c (pack_behind b) ≡ (if b then (if 0 == c then 1 else 0) else 0)
count_pack c true = omega arith
count_pack c false = refl

count_round : (c k x : ℕ) → count_of c (round k x) ≡ in_round c k
count_round c k x =
    count_both c (turns_of (k % 4) ((k + 1) % 4) (drawn (next x)) (drawn (next (next x))) k) (pack_behind (is_hundredth k))
    ∙ ap (λ (n : ℕ). n + count_of c (pack_behind (is_hundredth k))) (count_turns c (k % 4) ((k + 1) % 4) (drawn (next x)) (drawn (next (next x))) k)
    ∙ ap (λ (n : ℕ). (if k % 4 == c then 6 else 0) + (if (k + 1) % 4 == c then 6 else 0) + n) (count_pack c (is_hundredth k))

count_rounds : (c count k x : ℕ) → count_of c (rounds count k x) ≡ in_rounds c count k
count_rounds c zero k x = refl
count_rounds c (suc count) k x =
    count_both c (round k x) (rounds count (k + 1) (next (next x)))
    ∙ ap (λ (n : ℕ). n + count_of c (rounds count (k + 1) (next (next x)))) (count_round c k x)
    ∙ ap (λ (n : ℕ). in_round c k + n) (count_rounds c count (k + 1) (next (next x)))

count_setup : (c : ℕ) → c < 4 → count_of c setup ≡ in_setup c
count_setup zero small = refl
count_setup (suc zero) small = refl
count_setup (suc (suc zero)) small = refl
count_setup (suc (suc (suc zero))) small = refl
count_setup (suc (suc (suc (suc c)))) small = absurd (omega (arith, small))

pub count_all : (c n : ℕ) → c < 4 → count_of c (gen_lines n) ≡ in_setup c + in_rounds c n 1
count_all c n small = count_both c setup (rounds n 1 n) ∙ ap (λ (k : ℕ). k + count_of c (rounds n 1 n)) (count_setup c small) ∙ ap (λ (k : ℕ). in_setup c + k) (count_rounds c n 1 n)

-- ---- the loop over rounds

pub rounds_step : (c count k m : ℕ) → count ≡ suc m → in_rounds c count k ≡ in_round c k + in_rounds c m (k + 1)
rounds_step c count k m is = ap (λ (n : ℕ). in_rounds c n k) is

pub rounds_end : (c count k : ℕ) → count ≡ 0 → in_rounds c count k ≡ 0
rounds_end c count k is = ap (λ (n : ℕ). in_rounds c n k) is

-- ---- counts that go down

same_number : (x y : ℕ) → Some x ≡ Some y → x ≡ y
same_number x y e = cc

pub index_is : (counts : List ℕ) (c n : ℕ) → slice_get counts c ≡ Some n → slice_index counts c ≡ n
index_is counts c n there = get_or_from_slice_get counts c n 0 there

get_set : (counts : List ℕ) (c i n m : ℕ) → slice_get counts c ≡ Some m → slice_get (slice_set counts c n) i ≡ (if c == i then Some n else slice_get counts i)
get_set [] c i n m there = absurd cc
get_set (x ∷ counts) zero zero n m there = refl
get_set (x ∷ counts) zero (suc i) n m there = ap (λ (b : Bool). if b then Some n else slice_get counts i) (sym (eqb-zero-suc i))
get_set (x ∷ counts) (suc c) zero n m there = ap (λ (b : Bool). if b then Some n else Some x) (sym (eqb-suc-zero c))
get_set (x ∷ counts) (suc c) (suc i) n m there = get_set counts c i n m there ∙ ap (λ (b : Bool). if b then Some n else slice_get counts i) (suc_eq c i)
  where
    both : (a b : ℕ) (x y : Bool) → (a == b) ≡ x → (suc a == suc b) ≡ y → x ≡ y
    both a b true true p q = refl
    both a b false false p q = refl
    both a b true false p q = sym (eq-eqb (suc a) (suc b) (ap suc (eqb-true a b p))) ∙ q
    both a b false true p q = let down : a ≡ b = omega (arith, eqb-true (suc a) (suc b) q) in sym p ∙ eq-eqb a b down

    suc_eq : (a b : ℕ) → (a == b) ≡ (suc a == suc b)
    suc_eq a b = both a b (a == b) (suc a == suc b) refl refl

-- of the first line's client
pub first_count : (counts : List ℕ) (l : GenLine) (rest : List GenLine) → AreCounts counts (l ∷ rest) → l.client < 4 → slice_index counts l.client ≡ 1 + count_of l.client rest
first_count counts l rest are small =
    index_is counts l.client (count_of l.client (l ∷ rest)) (are l.client small) ∙ ap (λ (b : Bool). (if b then 1 else 0) + count_of l.client rest) (eq-eqb l.client l.client refl)

-- and of all clients, behind it
pub counts_left : (counts : List ℕ) (l : GenLine) (rest : List GenLine) → AreCounts counts (l ∷ rest) → l.client < 4 → AreCounts (slice_set counts l.client (slice_index counts l.client - 1)) rest
counts_left counts l rest are small i low =
    get_set counts l.client i (slice_index counts l.client - 1) (count_of l.client (l ∷ rest)) (are l.client small) ∙ by_client (l.client == i) refl
  where
    first : slice_index counts l.client ≡ 1 + count_of l.client rest
    first = first_count counts l rest are small

    by_client : (b : Bool) → (l.client == i) ≡ b → (if b then Some (slice_index counts l.client - 1) else slice_get counts i) ≡ Some (count_of i rest)
    by_client true is =
        let same : l.client ≡ i = eqb-true l.client i is in
        ap (λ (n : ℕ). Some n) (omega (arith, first)) ∙ ap (λ (n : ℕ). Some (count_of n rest)) same
    by_client false not = are i low ∙ ap (λ (b : Bool). Some ((if b then 1 else 0) + count_of i rest)) not ∙ ap (λ (n : ℕ). Some n) (omega arith)

-- ---- the loop over rounds

-- a client's lines so far, before round k
pub record CountsSo (client rounds count k : ℕ) : Type 0 where
  pub low : 1 ≤ k
  pub high : k ≤ rounds + 1
  pub sum : count + in_rounds client (rounds + 1 - k) k ≡ in_setup client + in_rounds client rounds 1
  pub small : count ≤ 7 + 13 * k

pub counts_more : (client rounds count k r : ℕ) → CountsSo client rounds count k → k ≤ rounds → r ≡ in_round client k → r ≤ 13 → CountsSo client rounds (count + r) (k + 1)
counts_more client rounds count k r so within is small =
    let left : rounds + 1 - k ≡ suc (rounds - k) = omega (arith, within) in
    let behind : rounds + 1 - (k + 1) ≡ rounds - k = omega (arith, within) in
    let here : in_rounds client (rounds + 1 - k) k ≡ in_round client k + in_rounds client (rounds - k) (k + 1) = rounds_step client (rounds + 1 - k) k (rounds - k) left in
    let later : in_rounds client (rounds + 1 - (k + 1)) (k + 1) ≡ in_rounds client (rounds - k) (k + 1) = ap (λ (n : ℕ). in_rounds client n (k + 1)) behind in
    record {
      low = omega arith;
      high = omega (arith, within);
      sum = omega (arith, so.sum, here, later, is);
      small = omega (arith, so.small, small);
    }

pub counts_done : (client rounds count k : ℕ) → client < 4 → CountsSo client rounds count k → rounds < k → count ≡ count_of client (gen_lines rounds)
counts_done client rounds count k four so over =
    let none : rounds + 1 - k ≡ 0 = omega (arith, over) in
    let here : in_rounds client (rounds + 1 - k) k ≡ 0 = rounds_end client (rounds + 1 - k) k none in
    let all : count ≡ in_setup client + in_rounds client rounds 1 = omega (arith, so.sum, here) in
    all ∙ sym (count_all client rounds four)
