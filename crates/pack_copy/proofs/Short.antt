-- A turn of copying ends as soon as it may.
use Rattle.std.proofs.Common.{◌≡◌, ℕ, zero, suc, ◌+◌, ◌<◌, ◌≤◌, ◌⊎◌, inl, inr, ⊎_elim, Bool, true, false, List, [], ◌∷◌, ◌++◌, length, take, refl, sym, ap, subst, ◌∙◌, arith, take_all}
use Rattle.std.proofs.lemmas.Bool.{cases_lt}
use Rattle.std.proofs.lemmas.List.Sums.{sum_by-append, sum_by-cons}
use Rattle.zb_model.specs.declared.data.Transaction.{Transaction}
use Rattle.zb_model.specs.Packs.{change_count, changes_a_turn, turn_from}
use Rattle.pack_copy.specs.UpTo.{AddsUnlessEnough, AreShort}

-- ---- one transaction more

pub same_adds : (enough : Bool) (old new : List Transaction) → new ≡ old → AddsUnlessEnough enough old new
same_adds true old new same = same
same_adds false old new same = inl same

pub one_adds : (enough : Bool) (old new : List Transaction) (x : Transaction) → enough ≡ false → new ≡ old ++ x ∷ [] → AddsUnlessEnough enough old new
one_adds true old new x not is = absurd cc
one_adds false old new x not is = inr (x, is)

front_of : (xs ys : List Transaction) (k : ℕ) → k ≤ length xs → take k (xs ++ ys) ≡ take k xs
front_of xs ys zero within = refl
front_of [] ys (suc k) within = absurd (omega (arith, within))
front_of (x ∷ xs) ys (suc k) within = ap (λ (l : List Transaction). x ∷ l) (front_of xs ys k (omega (arith, within)))

longer : (xs : List Transaction) (x : Transaction) → length (xs ++ x ∷ []) ≡ length xs + 1
longer [] x = refl
longer (y ∷ xs) x = omega (arith, longer xs x)

-- fronts stay short where one more is copied only before it is enough
pub short_more : (enough : Bool) (before : ℕ) (was now new : List Transaction) → (enough ≡ false → change_count now < before + changes_a_turn) → AddsUnlessEnough enough now new → AreShort before was now → AreShort before was new
short_more true before was now new early same short = subst (AreShort before was) (sym same) short
short_more false before was now new early (inl same) short = subst (AreShort before was) (sym same) short
short_more false before was now new early (inr more) short = subst (AreShort before was) (sym more.1) (λ k above within.
    ⊎_elim (λ (front : k < length now). rw (front_of now (more.0 ∷ []) k (omega (arith, front))) (short k above front))
    (λ (all : length now ≤ k).
    let e : take k (now ++ more.0 ∷ []) ≡ now = front_of now (more.0 ∷ []) k (omega (arith, longer now more.0, within)) ∙ take_all k now all in
    rw e (early refl))
    (cases_lt k (length now)))

-- ---- what a turn copies

abbrev changes_in : Transaction → ℕ
changes_in x = length x.changes

over : (count : ℕ) (rest : List Transaction) → (rest ≡ []) ⊎ (changes_a_turn ≤ count) → turn_from count rest ≡ []
over count rest (inl none) = ap (turn_from count) none
over count [] (inr enough) = refl
over count (x ∷ rest) (inr enough) = grind (arith, enough)

goes_on : (count : ℕ) (x : Transaction) (rest : List Transaction) → count < changes_a_turn → turn_from count (x ∷ rest) ≡ x ∷ turn_from (count + length x.changes) rest
goes_on count x rest less = grind (arith, less)

-- where each front of some transactions is short, and all of them are enough or nothing is left, a turn copies just them
pub turn_copies : (count : ℕ) (more rest : List Transaction) → ((k : ℕ) → k < length more → count + change_count (take k more) < changes_a_turn) → (rest ≡ []) ⊎ (changes_a_turn ≤ count + change_count more) → turn_from count (more ++ rest) ≡ more
turn_copies count [] rest short ends = over count rest (⊎_elim (λ (none : rest ≡ []). inl none) (λ (enough : changes_a_turn ≤ count + change_count []). let n : changes_a_turn ≤ count = omega (arith, enough) in inr n) ends)
turn_copies count (x ∷ more) rest short ends =
    let first : count < changes_a_turn = omega (arith, short 0 (omega arith)) in
    let behind : (k : ℕ) → k < length more → (count + length x.changes) + change_count (take k more) < changes_a_turn = λ k within. omega (arith, short (suc k) (omega (arith, within)), sum_by-cons changes_in x (take k more)) in
    let end : (rest ≡ []) ⊎ (changes_a_turn ≤ (count + length x.changes) + change_count more) =
    ⊎_elim (λ (none : rest ≡ []). inl none) (λ (enough : changes_a_turn ≤ count + change_count (x ∷ more)). let n : changes_a_turn ≤ (count + length x.changes) + change_count more = omega (arith, enough, sum_by-cons changes_in x more) in inr n) ends in
    goes_on count x (more ++ rest) first ∙ ap (λ (l : List Transaction). x ∷ l) (turn_copies (count + length x.changes) more rest behind end)

behind_front : (was more : List Transaction) (k : ℕ) → take (length was + k) (was ++ more) ≡ was ++ take k more
behind_front [] more k = let e : length {A = Transaction} [] + k ≡ k = omega arith in ap (λ (n : ℕ). take n more) e
behind_front (x ∷ was) more k =
    let e : length (x ∷ was) + k ≡ suc (length was + k) = omega arith in
    ap (λ (n : ℕ). take n (x ∷ was ++ more)) e ∙ ap (λ (l : List Transaction). x ∷ l) (behind_front was more k)

longer_by : (was more : List Transaction) → length (was ++ more) ≡ length was + length more
longer_by [] more = omega arith
longer_by (x ∷ was) more = omega (arith, longer_by was more)

-- so it is by what stands there behind a turn
pub short_behind : (was more : List Transaction) → AreShort (change_count was) was (was ++ more) → (k : ℕ) → k < length more → 0 + change_count (take k more) < changes_a_turn
short_behind was more short k within =
    let there = short (length was + k) (omega arith) (omega (arith, longer_by was more, within)) in
    let count : change_count (take (length was + k) (was ++ more)) ≡ change_count was + change_count (take k more) = ap change_count (behind_front was more k) ∙ sum_by-append changes_in was (take k more) in
    omega (arith, there, count)
