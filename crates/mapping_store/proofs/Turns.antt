-- What a turn of copying makes of a packed list.
use Rattle.std.proofs.Common.{◌≡◌, ℕ, zero, suc, ◌+◌, ◌-◌, ◌<◌, ◌≤◌, ◌^◌, Bool, true, false, eqb, List, [], ◌∷◌, ◌++◌, length, take, drop, refl, sym, ap, ◌∙◌, arith, take_all, length-drop, length-take}
use Rattle.std.proofs.lemmas.Bool.{eqb-true, eqb-false}
use Rattle.std.proofs.lemmas.List.Sums.{sum_by-cons}
use Rattle.zb_model.specs.declared.data.Transaction.{Transaction}
use Rattle.zb_model.specs.Packs.{IsAllCopied, IsCopyTurn, IsPrefixOf, change_count, turn_from}
use Rattle.mapping_store.proofs.Counts.{count_in}

-- a turn that isn't over goes on with the next one
pub turn_next : (count : ℕ) (x : Transaction) (rest : List Transaction) → count < 64 → turn_from count (x ∷ rest) ≡ x ∷ turn_from (count + length x.changes) rest
turn_next count x rest less = grind (arith, less)

-- what is left has no more changes than all
pub counted_behind : (first : ℕ) (list left : List Transaction) → left ≡ drop first list → change_count list < 2 ^ 64 → change_count left < 2 ^ 64
counted_behind first list left is bound = rw is (omega (arith, behind first list, bound))
  where
    behind : (n : ℕ) (list : List Transaction) → change_count (drop n list) ≤ change_count list
    behind zero list = omega arith
    behind (suc n) [] = omega arith
    behind (suc n) (x ∷ list) = omega (arith, behind n list, sum_by-cons count_in x list)

-- nor have the first ones
pub counted_front : (n : ℕ) (list now : List Transaction) → now ≡ take n list → change_count list < 2 ^ 64 → change_count now < 2 ^ 64
counted_front n list now is bound = rw is (omega (arith, front n list, bound))
  where
    front : (n : ℕ) (list : List Transaction) → change_count (take n list) ≤ change_count list
    front zero list = omega arith
    front (suc n) [] = omega arith
    front (suc n) (x ∷ list) = omega (arith, front n list, sum_by-cons count_in x list, sum_by-cons count_in x (take n list))

take_behind : (front rest : List Transaction) (n k : ℕ) → k ≡ length front + n → take k (front ++ rest) ≡ front ++ take n rest
take_behind [] rest n k is = let e : k ≡ n = omega (arith, is) in ap (λ (m : ℕ). take m rest) e
take_behind (x ∷ front) rest n zero is = absurd (omega (arith, is))
take_behind (x ∷ front) rest n (suc k) is = ap (λ (l : List Transaction). x ∷ l) (take_behind front rest n k (omega (arith, is)))

drop_behind : (front rest : List Transaction) (k : ℕ) → length front ≡ k → drop k (front ++ rest) ≡ rest
drop_behind [] rest zero is = refl
drop_behind [] rest (suc k) is = absurd (omega (arith, is))
drop_behind (x ∷ front) rest zero is = absurd (omega (arith, is))
drop_behind (x ∷ front) rest (suc k) is = drop_behind front rest k (omega (arith, is))

-- a turn behind what was copied
pub turn_behind : (packed left front rest : List Transaction) (first n : ℕ) → left ≡ drop first packed → take n left ≡ turn_from 0 left → packed ≡ front ++ rest → length front ≡ first → take (first + n) packed ≡ front ++ turn_from 0 rest
turn_behind packed left front rest first n is turn parts long =
    let e : left ≡ rest = is ∙ ap (drop first) parts ∙ drop_behind front rest first long in
    ap (take (first + n)) parts ∙ take_behind front rest n (first + n) (omega (arith, long)) ∙ ap (λ (l : List Transaction). front ++ l) (ap (take n) (sym e) ∙ turn ∙ ap (turn_from 0) e)

-- what is behind the first ones
pub rest_is : (first : ℕ) (xs : List Transaction) → take (length xs - first) (drop first xs) ≡ drop first xs
rest_is first xs = take_all (length xs - first) (drop first xs) (omega (arith, length-drop first xs))

-- so many are copied by then
pub front_within : (packed front : List Transaction) → IsPrefixOf packed front → length front ≤ length packed
front_within packed front prefix = rw prefix.1 (omega (arith, longer front prefix.0))
  where
    longer : (xs ys : List Transaction) → length xs ≤ length (xs ++ ys)
    longer [] ys = omega arith
    longer (x ∷ xs) ys = omega (arith, longer xs ys)

all_copied : (whole : Bool) (packed now : List Transaction) (long : ℕ) → whole ≡ eqb long (length packed) → long ≤ length packed → now ≡ take long packed → IsAllCopied packed now whole
all_copied true packed now long is within taken = let e : long ≡ length packed = eqb-true long (length packed) (sym is) in taken ∙ take_all long packed (omega (arith, e))
all_copied false packed now long is within taken = λ all. eqb-false long (length packed) (sym is) (omega (arith, ap length all, ap length taken, length-take long packed, within))

-- and the turn is one of the packed list
pub turn_made : (packed front now : List Transaction) (tid first long count : ℕ) (whole : Bool) → IsPrefixOf packed front → length front ≡ first
    → ((f r : List Transaction) → packed ≡ f ++ r → length f ≡ first → take long packed ≡ f ++ turn_from 0 r)
    → long ≤ length packed → now ≡ take long packed → count ≡ change_count now → whole ≡ eqb long (length packed)
    → IsCopyTurn packed (record { tid = tid; copied = front }) (record { tid = tid; copied = now }) (record { count = count; whole = whole })
turn_made packed front now tid first long count whole prefix is turn within taken counted done = record {
  rest = prefix.0;
  left = prefix.1;
  tid = refl;
  grown = taken ∙ turn front prefix.0 prefix.1 is;
  count = counted;
  whole = all_copied whole packed now long done within taken;
}
