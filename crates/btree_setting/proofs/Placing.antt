-- Items and branches cut at a place.
use Rattle.std.proofs.Common.{◌≡◌, ℕ, ◌+◌, ◌-◌, ◌/◌, ◌<◌, ◌≤◌, Bool, true, false, List, [], ◌∷◌, ◌++◌, Option, Some, None, refl, arith, sym, ◌∙◌, ap, length, zero, suc, drop, take, inl, inr, ◌⊎◌, append_assoc}
use Rattle.std.specs.Prelude.{if◌then◌else◌}
use Rattle.btree_family.specs.declared.key.Key.{Key}
use Rattle.btree_family.specs.declared.bucket.Item.{Item}
use Rattle.btree_family.specs.Keys.{key_eq, is_below}
use Rattle.bucket_state.specs.declared.tree.Branch.{Branch}
use Rattle.btree_shapes.specs.Nodes.{place_for}
use Rattle.btree_setting.specs.declared.change.Sprout.{Sprout}
use Rattle.btree_setting.specs.declared.rung.Rung.{Rung}
use Rattle.btree_setting.specs.Inserting.{place_in, behind, set_item, insert_branch}
use Rattle.btree_setting.specs.Changes.{grown, branch_up, BranchesCut}

pub by_test : (b : Bool) → (b ≡ true) ⊎ (b ≡ false)
by_test true = inl refl
by_test false = inr refl

-- ---- items

set_with : (b : Bool) (x : Item) (xs : List Item) (key : Key) (value : Option (List ℕ)) → is_below x.key key ≡ b → take (place_in xs key) xs ++ record { key = key; value = value } ∷ behind (drop (place_in xs key) xs) key ≡ set_item xs key value → take (if b then suc (place_in xs key) else 0) (x ∷ xs) ++ record { key = key; value = value } ∷ behind (drop (if b then suc (place_in xs key) else 0) (x ∷ xs)) key ≡ (if b then x ∷ set_item xs key value else record { key = key; value = value } ∷ behind (x ∷ xs) key)
set_with true x xs key value t e = ap (λ ys. x ∷ ys) e
set_with false x xs key value t e = refl

set_here : (xs : List Item) (key : Key) (value : Option (List ℕ)) → take (place_in xs key) xs ++ record { key = key; value = value } ∷ behind (drop (place_in xs key) xs) key ≡ set_item xs key value
set_here [] key value = refl
set_here (x ∷ xs) key value = set_with (is_below x.key key) x xs key value refl (set_here xs key value)

pub set_at_place : (xs : List Item) (key : Key) (value : Option (List ℕ)) (place : ℕ) → place ≡ place_in xs key → take place xs ++ record { key = key; value = value } ∷ behind (drop place xs) key ≡ set_item xs key value
set_at_place xs key value place e = rw e (set_here xs key value)

pub set_by : (xs front rest less one two all : List Item) (key : Key) (value : Option (List ℕ)) (place : ℕ) → place ≡ place_in xs key → front ≡ take place xs → rest ≡ drop place xs → less ≡ behind rest key → one ≡ front → two ≡ one ++ record { key = key; value = value } ∷ [] → all ≡ two ++ less → all ≡ set_item xs key value
set_by xs front rest less one two all key value place p f r l o t a =
    a ∙ ap (λ ys. ys ++ less) (t ∙ ap (λ ys. ys ++ record { key = key; value = value } ∷ []) (o ∙ f))
    ∙ append_assoc (take place xs) (record { key = key; value = value } ∷ []) less
    ∙ ap (λ ys. take place xs ++ record { key = key; value = value } ∷ ys) (l ∙ ap (λ ys. behind ys key) r)
    ∙ set_at_place xs key value place p

-- ---- branches

insert_with : (b : Bool) (x : Branch) (xs : List Branch) (key : Key) (branch : Branch) → take (place_for xs key) xs ++ branch ∷ drop (place_for xs key) xs ≡ insert_branch branch key xs → take (if b then 0 else suc (place_for xs key)) (x ∷ xs) ++ branch ∷ drop (if b then 0 else suc (place_for xs key)) (x ∷ xs) ≡ (if b then branch ∷ x ∷ xs else x ∷ insert_branch branch key xs)
insert_with true x xs key branch e = refl
insert_with false x xs key branch e = ap (λ ys. x ∷ ys) e

insert_here : (xs : List Branch) (key : Key) (branch : Branch) → take (place_for xs key) xs ++ branch ∷ drop (place_for xs key) xs ≡ insert_branch branch key xs
insert_here [] key branch = refl
insert_here (x ∷ xs) key branch = insert_with (is_below key x.key) x xs key branch (insert_here xs key branch)

pub insert_at_place : (xs : List Branch) (key : Key) (branch : Branch) (place : ℕ) → place ≡ place_for xs key → take place xs ++ branch ∷ drop place xs ≡ insert_branch branch key xs
insert_at_place xs key branch place e = rw e (insert_here xs key branch)

pub insert_by : (xs front rest one two all : List Branch) (key : Key) (branch : Branch) (place : ℕ) → place ≡ place_for xs key → front ≡ take place xs → rest ≡ drop place xs → one ≡ front → two ≡ one ++ branch ∷ [] → all ≡ two ++ rest → all ≡ insert_branch branch key xs
insert_by xs front rest one two all key branch place p f r o t a =
    a ∙ ap (λ ys. ys ++ rest) (t ∙ ap (λ ys. ys ++ branch ∷ []) (o ∙ f))
    ∙ append_assoc (take place xs) (branch ∷ []) rest
    ∙ ap (λ ys. take place xs ++ branch ∷ ys) r
    ∙ insert_at_place xs key branch place p

length_with : (b : Bool) (x : Branch) (xs : List Branch) (key : Key) (branch : Branch) → length (insert_branch branch key xs) ≡ suc (length xs) → length (if b then branch ∷ x ∷ xs else x ∷ insert_branch branch key xs) ≡ suc (suc (length xs))
length_with true x xs key branch e = refl
length_with false x xs key branch e = ap suc e

pub insert_length : (xs : List Branch) (key : Key) (branch : Branch) → length (insert_branch branch key xs) ≡ suc (length xs)
insert_length [] key branch = refl
insert_length (x ∷ xs) key branch = length_with (is_below key x.key) x xs key branch (insert_length xs key branch)

pub grown_some : (key : Key) (rung : Rung) (up : Sprout) → 0 < length (grown key rung up)
grown_some key rung up = let e = insert_length rung.inner.tail key (branch_up up) in omega (arith, e)

-- ---- halves

take_drop : (n : ℕ) (xs : List Branch) → take n xs ++ drop n xs ≡ xs
take_drop zero xs = refl
take_drop (suc n) [] = refl
take_drop (suc n) (x ∷ xs) = ap (λ ys. x ∷ ys) (take_drop n xs)

length_take : (n : ℕ) (xs : List Branch) → n ≤ length xs → length (take n xs) ≡ n
length_take zero xs l = refl
length_take (suc n) [] l = absurd (omega (arith, l))
length_take (suc n) (x ∷ xs) l = ap suc (length_take n xs (omega (arith, l)))

pub branches_parted : (tail left right : List Branch) (middle : Branch) (half : ℕ) → half ≡ (length tail - 1) / 2 → 0 < length tail → left ≡ take half tail → drop half tail ≡ middle ∷ right → BranchesCut tail left middle right
branches_parted tail left right middle half h s l r = record {
  cut = sym (take_drop half tail) ∙ ap (λ ys. take half tail ++ ys) r ∙ ap (λ ys. ys ++ middle ∷ right) (sym l);
  half = let e : length left ≡ half = ap length l ∙ length_take half tail (omega (arith, h)) in omega (arith, e, h, s);
}
