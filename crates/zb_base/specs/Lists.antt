-- Lemmas on lists: the last item, the items in front that a test passes, and one item more. Own.
use Rattle.std.proofs.Common.{◌≡◌, ℕ, zero, suc, ◌-◌, ◌<◌, ◌≤◌, Bool, true, false, List, [], ◌∷◌, ◌++◌, length, get_or, take, filter, Option, Some, None, refl, sym, ap, ◌∙◌, arith}
use Rattle.std.specs.Prelude.{slice_get}
use Rattle.std.specs.List.{last_or, AllByRecursion}

last_or-more : {X : Type 0} (o : Option X) (x : X) (xs : List X) → last_or o (x ∷ xs) ≡ slice_get (x ∷ xs) (length xs)
last_or-more o x [] = refl
last_or-more o x (z ∷ zs) = last_or-more (Some x) z zs

-- the last item is that at the last place
pub last_or_get : {X : Type 0} (xs : List X) → last_or None xs ≡ slice_get xs (length xs - 1)
last_or_get [] = refl
last_or_get (x ∷ xs) =
    let n : length xs ≡ length (x ∷ xs) - 1 = omega arith in
    last_or-more None x xs ∙ ap (λ (k : ℕ). slice_get (x ∷ xs) k) n

-- the item at the last place is the last
pub last_or_at : {X : Type 0} (xs : List X) (y : X) → slice_get xs (length xs - 1) ≡ Some y → last_or None xs ≡ Some y
last_or_at xs y e = last_or_get xs ∙ e

-- the last of two lists, one behind the other
pub last_or_append : {X : Type 0} (o : Option X) (xs ys : List X) → last_or o (xs ++ ys) ≡ last_or (last_or o xs) ys
last_or_append o [] ys = refl
last_or_append o (x ∷ xs) ys = last_or_append (Some x) xs ys

-- the last item is the one that was put at the end
pub last_or_push : {X : Type 0} (o : Option X) (xs : List X) (x : X) → last_or o (xs ++ x ∷ []) ≡ Some x
last_or_push o xs x = last_or_append o xs (x ∷ [])

-- the last of the first items
pub last_or_take : {X : Type 0} (o : Option X) (xs : List X) (n : ℕ) (d : X) → n < length xs → last_or o (take (suc n) xs) ≡ Some (get_or xs n d)
last_or_take o [] n d h = absurd (omega arith)
last_or_take o (x ∷ xs) zero d h = refl
last_or_take o (x ∷ xs) (suc n) d h = last_or_take (Some x) xs n d (omega arith)

-- where the first n items pass a test and all behind them fail it, they are those that pass
pub filter_take : {X : Type 0} (p : X → Bool) (xs : List X) (n : ℕ) → ((k : ℕ) (d : X) → k < n → p (get_or xs k d) ≡ true) → ((k : ℕ) (d : X) → n ≤ k → k < length xs → p (get_or xs k d) ≡ false) → n ≤ length xs → filter p xs ≡ take n xs
filter_take p [] zero front behind h = refl
filter_take p [] (suc n) front behind h = refl
filter_take p (x ∷ xs) zero front behind h =
    let fails : p x ≡ false = behind 0 x (omega arith) (omega arith) in
    rw fails (filter_take p xs 0 (λ k d l. absurd (omega arith)) (λ k d m l. behind (suc k) d (omega arith) (omega arith)) (omega arith))
filter_take p (x ∷ xs) (suc n) front behind h =
    let passes : p x ≡ true = front 0 x (omega arith) in
    rw passes (ap (λ ys. x ∷ ys) (filter_take p xs n (λ k d l. front (suc k) d (omega arith)) (λ k d m l. behind (suc k) d (omega arith) (omega arith)) (omega arith)))

-- what holds of each item, and of one more behind them
pub each_more : {X : Type 0} (P : X → Type 0) (xs : List X) (x : X) → AllByRecursion P xs → P x → AllByRecursion P (xs ++ x ∷ [])
each_more P [] x all one = (one, tt)
each_more P (y ∷ ys) x all one = (all.0, each_more P ys x all.1 one)
