-- Children from one to another.
use Rattle.std.proofs.Common.{◌≡◌, ℕ, ◌+◌, ◌-◌, ◌≤◌, ◌<◌, List, [], ◌∷◌, refl, arith, ap, length, zero, suc, drop, take, get_or}
use Rattle.std.specs.Prelude.{map}
use Rattle.bucket_state.specs.declared.tree.Branch.{Branch}
use Rattle.btree_maps.specs.declared.span.Span.TheVariants.{All}
use Rattle.btree_maps.specs.Visits.{child_of, children_within}

take_all : {X : Type 0} (xs : List X) (n : ℕ) → length xs ≤ n → take n xs ≡ xs
take_all [] zero l = refl
take_all [] (suc n) l = refl
take_all (x ∷ xs) zero l = absurd (omega arith)
take_all (x ∷ xs) (suc n) l = ap (λ ys. x ∷ ys) (take_all xs n (omega arith))

children_length : (bs : List Branch) → length (map child_of bs) ≡ length bs
children_length [] = refl
children_length (b ∷ bs) = ap suc (children_length bs)

pub all_children : (head : ℕ) (bs : List Branch) (n : ℕ) → n ≡ length bs + 1 → drop 0 (take n (head ∷ map child_of bs)) ≡ children_within All head bs
all_children head bs n e = let l = children_length bs in take_all (head ∷ map child_of bs) n (omega arith)

pub none_left : (xs : List ℕ) (n m : ℕ) → n ≤ m → drop m (take n xs) ≡ []
none_left [] zero zero l = refl
none_left [] zero (suc m) l = refl
none_left [] (suc n) zero l = refl
none_left [] (suc n) (suc m) l = refl
none_left (x ∷ xs) zero zero l = refl
none_left (x ∷ xs) zero (suc m) l = refl
none_left (x ∷ xs) (suc n) zero l = absurd (omega arith)
none_left (x ∷ xs) (suc n) (suc m) l = none_left xs n m (omega arith)

pub head_left : (x : ℕ) (xs : List ℕ) (n : ℕ) → 0 < n → x ∷ drop 1 (take n (x ∷ xs)) ≡ drop 0 (take n (x ∷ xs))
head_left x xs zero l = absurd (omega arith)
head_left x xs (suc n) l = refl

child_left : (bs : List Branch) (d : Branch) (i n : ℕ) → i < n → i < length bs → (get_or bs i d).child ∷ drop (suc i) (take n (map child_of bs)) ≡ drop i (take n (map child_of bs))
child_left [] d i n l m = absurd (omega arith)
child_left (b ∷ bs) d i zero l m = absurd (omega arith)
child_left (b ∷ bs) d zero (suc n) l m = refl
child_left (b ∷ bs) d (suc i) (suc n) l m = child_left bs d i n (omega arith) (omega arith)

pub more_left : (head : ℕ) (bs : List Branch) (d : Branch) (i n : ℕ) → 0 < i → i < n → i ≤ length bs → (get_or bs (i - 1) d).child ∷ drop (i + 1) (take n (head ∷ map child_of bs)) ≡ drop i (take n (head ∷ map child_of bs))
more_left head bs d zero n z l m = absurd (omega arith)
more_left head bs d (suc i) zero z l m = absurd (omega arith)
more_left head bs d (suc i) (suc n) z l m =
    let e : suc i - 1 ≡ i = omega arith in
    let g : suc i + 1 ≡ suc (suc i) = omega arith in
    rw (e, g) (child_left bs d i n (omega arith) (omega arith))
