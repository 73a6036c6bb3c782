-- Keys that rise and values that are spelled, in parts of a leaf and in one with one more key.
use Rattle.std.proofs.Common.{◌≡◌, ℕ, ◌/◌, ◌<◌, ◌≤◌, Bool, true, false, List, [], ◌∷◌, ◌++◌, Option, Some, None, refl, arith, sym, ◌∙◌, ap, subst, length, zero, suc, drop, take, inl, inr, ◌⊎◌, get_or}
use Rattle.std.specs.Prelude.{if◌then◌else◌, nat_lt, ◌&&◌}
use Rattle.btree_family.specs.declared.key.Key.{Key}
use Rattle.btree_family.specs.declared.bucket.Item.{Item}
use Rattle.btree_family.specs.Keys.{key_eq, is_below}
use Rattle.btree_family.specs.Buckets.{BucketContents, keys_of, IsValue, AreValues, IsBucket}
use Rattle.btree_family.specs.Rising.{is_key_above, Rises}
use Rattle.btree_setting.specs.declared.bottom.Bottom.{Bottom}
use Rattle.btree_setting.specs.Changes.{leaf_grows}
use Rattle.btree_setting.specs.Inserting.{behind, set_item, ItemsCut}
use Rattle.btree_family.specs.OrderLaws.{eq_is, below_below, order, eq_itself}
use Rattle.btree_setting.proofs.Placing.{by_test}

-- ---- parts

rises_take : (n : ℕ) (low : Option Key) (xs : List Item) → Rises low (keys_of xs) → Rises low (keys_of (take n xs))
rises_take zero low xs r = tt
rises_take (suc n) low [] r = tt
rises_take (suc n) low (x ∷ xs) r = (r.0, rises_take n (Some x.key) xs r.1)

rises_any : (low : Option Key) (xs : List Item) → Rises low (keys_of xs) → Rises None (keys_of xs)
rises_any low [] r = tt
rises_any low (x ∷ xs) r = (refl, r.1)

rises_drop : (n : ℕ) (low : Option Key) (xs : List Item) → Rises low (keys_of xs) → Rises None (keys_of (drop n xs))
rises_drop zero low xs r = rises_any low xs r
rises_drop (suc n) low [] r = tt
rises_drop (suc n) low (x ∷ xs) r = rises_drop n (Some x.key) xs r.1

values_take : (n : ℕ) (xs : List Item) → AreValues xs → AreValues (take n xs)
values_take zero xs v = tt
values_take (suc n) [] v = tt
values_take (suc n) (x ∷ xs) v = (v.0, values_take n xs v.1)

values_drop : (n : ℕ) (xs : List Item) → AreValues xs → AreValues (drop n xs)
values_drop zero xs v = v
values_drop (suc n) [] v = tt
values_drop (suc n) (x ∷ xs) v = values_drop n xs v.1

pub front_is_bucket : (n : ℕ) (xs : List Item) → IsBucket xs → IsBucket (take n xs)
front_is_bucket n xs b = record { rises = rises_take n None xs b.rises; spelled = values_take n xs b.spelled }

pub rest_is_bucket : (n : ℕ) (xs : List Item) → IsBucket xs → IsBucket (drop n xs)
rest_is_bucket n xs b = record { rises = rises_drop n None xs b.rises; spelled = values_drop n xs b.spelled }

pub front_bucket : (n : ℕ) (xs left : List Item) → IsBucket xs → left ≡ take n xs → IsBucket left
front_bucket n xs left b e = subst IsBucket (sym e) (front_is_bucket n xs b)

pub rest_bucket : (n : ℕ) (xs right : List Item) → IsBucket xs → right ≡ drop n xs → IsBucket right
rest_bucket n xs right b e = subst IsBucket (sym e) (rest_is_bucket n xs b)

take_drop : (n : ℕ) (xs : List Item) → take n xs ++ drop n xs ≡ xs
take_drop zero xs = refl
take_drop (suc n) [] = refl
take_drop (suc n) (x ∷ xs) = ap (λ ys. x ∷ ys) (take_drop n xs)

length_take : (n : ℕ) (xs : List Item) → n ≤ length xs → length (take n xs) ≡ n
length_take zero xs l = refl
length_take (suc n) [] l = absurd (omega (arith, l))
length_take (suc n) (x ∷ xs) l = ap suc (length_take n xs (omega (arith, l)))

drop_at : (n : ℕ) (xs : List Item) (d : Item) → n < length xs → drop n xs ≡ get_or xs n d ∷ drop (suc n) xs
drop_at n [] d l = absurd (omega (arith, l))
drop_at zero (x ∷ xs) d l = refl
drop_at (suc n) (x ∷ xs) d l = drop_at n xs d (omega (arith, l))

pub halves_cut : (xs left right : List Item) (half : ℕ) (key : Key) (d : Item) → half < length xs → key ≡ (get_or xs half d).key → left ≡ take half xs → right ≡ drop half xs → ItemsCut xs left half key right
halves_cut xs left right half key d l k f r = record {
  item = get_or xs half d;
  more = drop (suc half) xs;
  right_is = r ∙ drop_at half xs d l;
  key_is = k;
  half_is = ap length f ∙ length_take half xs (omega (arith, l));
  cut = sym (take_drop half xs) ∙ ap (λ ys. take half xs ++ ys) (drop_at half xs d l) ∙ ap (λ ys. ys ++ get_or xs half d ∷ drop (suc half) xs) (sym f);
}

-- ---- one more key

rises_up : (low high : Key) (xs : List Item) → is_below low high ≡ true → Rises (Some high) (keys_of xs) → Rises (Some low) (keys_of xs)
rises_up low high [] l r = tt
rises_up low high (x ∷ xs) l r = (below_below low high x.key l r.0, r.1)

-- behind a key come the keys above it
behind_rises : (b : Bool) (x : Item) (xs : List Item) (key : Key) → key_eq x.key key ≡ b → is_below x.key key ≡ false → Rises (Some x.key) (keys_of xs) → Rises (Some key) (keys_of (if b then xs else x ∷ xs))
behind_rises true x xs key e n r = subst (λ k. Rises (Some k) (keys_of xs)) (eq_is x.key key e) r
behind_rises false x xs key e n r = elim (order x.key key) [
  | inl s ↦ absurd (let t : key_eq x.key key ≡ true = ap (key_eq x.key) (sym s) ∙ eq_itself x.key in cc)
  | inr o ↦ elim o [
    | inl b ↦ absurd (cc)
    | inr a ↦ (a, r)
  ]
]

set_rises : (b : Bool) (low : Option Key) (x : Item) (xs : List Item) (key : Key) (value : Option (List ℕ)) → is_below x.key key ≡ b → is_key_above low key ≡ true → Rises low (keys_of (x ∷ xs)) → (is_below x.key key ≡ true → Rises (Some x.key) (keys_of (set_item xs key value))) → Rises low (keys_of (if b then x ∷ set_item xs key value else record { key = key; value = value } ∷ behind (x ∷ xs) key))
set_rises true low x xs key value t l r f = (r.0, f t)
set_rises false low x xs key value t l r f = (l, behind_rises (key_eq x.key key) x xs key refl t r.1)

rises_set : (low : Option Key) (xs : List Item) (key : Key) (value : Option (List ℕ)) → is_key_above low key ≡ true → Rises low (keys_of xs) → Rises low (keys_of (set_item xs key value))
rises_set low [] key value l r = (l, tt)
rises_set low (x ∷ xs) key value l r = set_rises (is_below x.key key) low x xs key value refl l r (λ t. rises_set (Some x.key) xs key value t r.1)

values_behind : (b : Bool) (x : Item) (xs : List Item) → AreValues (x ∷ xs) → AreValues (if b then xs else x ∷ xs)
values_behind true x xs v = v.1
values_behind false x xs v = v

values_with : (b : Bool) (x : Item) (xs : List Item) (key : Key) (value : Option (List ℕ)) → IsValue value → AreValues (x ∷ xs) → AreValues (set_item xs key value) → AreValues (if b then x ∷ set_item xs key value else record { key = key; value = value } ∷ behind (x ∷ xs) key)
values_with true x xs key value i v s = (v.0, s)
values_with false x xs key value i v s = (i, values_behind (key_eq x.key key) x xs v)

values_set : (xs : List Item) (key : Key) (value : Option (List ℕ)) → IsValue value → AreValues xs → AreValues (set_item xs key value)
values_set [] key value i v = (i, tt)
values_set (x ∷ xs) key value i v = values_with (is_below x.key key) x xs key value i v (values_set xs key value i v.1)

pub set_is_bucket : (xs : List Item) (key : Key) (value : Option (List ℕ)) → IsBucket xs → IsValue value → IsBucket (set_item xs key value)
set_is_bucket xs key value b i = record { rises = rises_set None xs key value refl b.rises; spelled = values_set xs key value i b.spelled }

some_above : (b : Bool) (max n : ℕ) → (b && nat_lt max n) ≡ true → 0 < n
some_above true max n e = grind (arith, e)
some_above false max n e = cc

-- a leaf that is split has items
pub grows_some : (max : ℕ) (b : Bottom) → leaf_grows max b ≡ true → 0 < length b.leaf.items
grows_some max b e = some_above b.adds max (length b.leaf.items) e

pub same_contents : (a b : BucketContents) → a.items ≡ b.items → a.next ≡ b.next → a ≡ b
same_contents a b i n = ap (λ x. record { items = x; next = a.next }) i ∙ ap (λ y. record { items = b.items; next = y }) n
