-- The place of a key among items whose keys rise, and what stands there.
use Rattle.std.proofs.Common.{◌≡◌, ℕ, zero, suc, ◌+◌, ◌-◌, ◌/◌, ◌≤◌, ◌<◌, Bool, true, false, List, [], ◌∷◌, length, take, drop, Option, Some, None, ◌⊎◌, inl, inr, refl, sym, ◌∙◌, ap, arith}
use Rattle.std.specs.Prelude.{slice_get, if◌then◌else◌}
use Rattle.btree_family.specs.declared.key.Key.{Key}
use Rattle.btree_family.specs.declared.bucket.Item.{Item}
use Rattle.btree_family.specs.Buckets.{keys_of}
use Rattle.btree_family.specs.Keys.{key_eq, is_below}
use Rattle.btree_family.specs.OrderLaws.{order, eq_itself, below_eq, above_eq, below_below}
use Rattle.btree_family.specs.Rising.{Rises}
use Rattle.btree_putting.specs.Items.{has_key, has_value, same_value}
use Rattle.btree_setting.specs.Inserting.{place_in, standing}

same_item : (a b : Item) → Some a ≡ Some b → a ≡ b
same_item a b e = cc

-- each one behind the first is above it
above_first : (low : Key) (items : List Item) (m : ℕ) (x : Item) → Rises (Some low) (keys_of items) → slice_get items m ≡ Some x → is_below low x.key ≡ true
above_first low [] m x r g = absurd cc
above_first low (y ∷ ys) zero x r g = ap (λ (z : Item). is_below low z.key) (sym (same_item y x g)) ∙ r.0
above_first low (y ∷ ys) (suc m) x r g = below_below low y.key x.key r.0 (above_first y.key ys m x r.1 g)

pub place_within : (items : List Item) (key : Key) → place_in items key ≤ length items
place_within [] key = omega arith
place_within (x ∷ xs) key = by_test (is_below x.key key) (place_within xs key)
  where
    by_test : (b : Bool) → place_in xs key ≤ length xs → (if b then suc (place_in xs key) else 0) ≤ suc (length xs)
    by_test true l = omega (arith, l)
    by_test false l = omega arith

-- a key that isn't below this one isn't before the place
place_before : (items : List Item) (key : Key) (m : ℕ) (x : Item) → slice_get items m ≡ Some x → is_below x.key key ≡ false → place_in items key ≤ m
place_before [] key m x g n = absurd cc
place_before (y ∷ ys) key zero x g n =
    let first : is_below y.key key ≡ false = ap (λ (z : Item). is_below z.key key) (same_item y x g) ∙ n in
    let none : place_in (y ∷ ys) key ≡ 0 = ap (λ b. if b then suc (place_in ys key) else 0) first in
    omega (arith, none)
place_before (y ∷ ys) key (suc m) x g n = by_test (is_below y.key key) (place_before ys key m x g n)
  where
    by_test : (b : Bool) → place_in ys key ≤ m → (if b then suc (place_in ys key) else 0) ≤ suc m
    by_test true l = omega (arith, l)
    by_test false l = omega arith

-- a key below this one is before the place, where they rise
place_after : (low : Option Key) (items : List Item) (key : Key) (m : ℕ) (x : Item) → Rises low (keys_of items) → slice_get items m ≡ Some x → is_below x.key key ≡ true → suc m ≤ place_in items key
place_after low [] key m x r g t = absurd cc
place_after low (y ∷ ys) key zero x r g t =
    let first : is_below y.key key ≡ true = ap (λ (z : Item). is_below z.key key) (same_item y x g) ∙ t in
    let some : place_in (y ∷ ys) key ≡ suc (place_in ys key) = ap (λ b. if b then suc (place_in ys key) else 0) first in
    omega (arith, some)
place_after low (y ∷ ys) key (suc m) x r g t =
    let first : is_below y.key key ≡ true = below_below y.key x.key key (above_first y.key ys m x r.1 g) t in
    let some : place_in (y ∷ ys) key ≡ suc (place_in ys key) = ap (λ b. if b then suc (place_in ys key) else 0) first in
    let rest = place_after (Some y.key) ys key m x r.1 g t in
    omega (arith, some, rest)

pub middle_within : (low high : ℕ) → low < high → (low ≤ low + (high - low) / 2) × (low + (high - low) / 2 < high)
middle_within low high l = (omega (arith, l), omega (arith, l))

pub right_half : (items : List Item) (key : Key) (low high : ℕ) (x : Item) → low < high → Rises None (keys_of items) → place_in items key ≤ high → high ≤ length items → slice_get items (low + (high - low) / 2) ≡ Some x → is_below x.key key ≡ true
    → (low + (high - low) / 2 + 1 ≤ place_in items key) × (place_in items key ≤ high) × (high ≤ length items)
right_half items key low high x l r over w g t = (let a = place_after None items key (low + (high - low) / 2) x r g t in omega (arith, a), over, w)

pub left_half : (items : List Item) (key : Key) (low high : ℕ) (x : Item) → low < high → low ≤ place_in items key → high ≤ length items → slice_get items (low + (high - low) / 2) ≡ Some x → is_below x.key key ≡ false
    → (low ≤ place_in items key) × (place_in items key ≤ low + (high - low) / 2) × (low + (high - low) / 2 ≤ length items)
left_half items key low high x l under w g n = (under, place_before items key (low + (high - low) / 2) x g n, let m = middle_within low high l in omega (arith, m.1, w))

-- ---- what stands at the place

value_above : (low : Key) (items : List Item) (key : Key) (value : Option (List ℕ)) → is_below key low ≡ true → Rises (Some low) (keys_of items) → has_value items key value ≡ false
value_above low [] key value b r = refl
value_above low (x ∷ xs) key value b r =
    let over : is_below key x.key ≡ true = below_below key low x.key b r.0 in
    ap (λ t. if t then same_value x.value value else has_value xs key value) (above_eq x.key key over) ∙ value_above x.key xs key value over r.1

key_above : (low : Key) (items : List Item) (key : Key) → is_below key low ≡ true → Rises (Some low) (keys_of items) → has_key items key ≡ false
key_above low [] key b r = refl
key_above low (x ∷ xs) key b r =
    let over : is_below key x.key ≡ true = below_below key low x.key b r.0 in
    ap (λ t. if t then true else has_key xs key) (above_eq x.key key over) ∙ key_above x.key xs key over r.1

true_false : {P : Type 0} (b : Bool) → b ≡ true → b ≡ false → P
true_false b t f = let bad : true ≡ false = sym t ∙ f in absurd cc

-- a key that isn't below another and isn't that one is above it
is_over : (x key : Key) → is_below x key ≡ false → key_eq x key ≡ false → is_below key x ≡ true
is_over x key n other = elim (order x key) [
  | inl e ↦ true_false (key_eq x key) (ap (key_eq x) (sym e) ∙ same x) other
  | inr o ↦ elim o [
    | inl l ↦ true_false (is_below x key) l n
    | inr l ↦ l
  ]
]
  where
    same : (a : Key) → key_eq a a ≡ true
    same a = eq_itself a

pub value_standing : (low : Option Key) (items : List Item) (key : Key) (value : Option (List ℕ)) → Rises low (keys_of items) → has_value (standing items key) key value ≡ has_value items key value
value_standing low [] key value r = refl
value_standing low (x ∷ xs) key value r = by_place (is_below x.key key) refl (value_standing (Some x.key) xs key value r.1)
  where
    by_key : (t : Bool) → key_eq x.key key ≡ t → is_below x.key key ≡ false → (if t then same_value x.value value else false) ≡ (if t then same_value x.value value else has_value xs key value)
    by_key true e n = refl
    by_key false e n = sym (value_above x.key xs key value (is_over x.key key n e) r.1)

    by_place : (b : Bool) → is_below x.key key ≡ b → has_value (standing xs key) key value ≡ has_value xs key value → has_value (take 1 (drop (if b then suc (place_in xs key) else 0) (x ∷ xs))) key value ≡ has_value (x ∷ xs) key value
    by_place true e rest = rest ∙ ap (λ t. if t then same_value x.value value else has_value xs key value) (sym (below_eq x.key key e))
    by_place false e rest = by_key (key_eq x.key key) refl e

pub key_standing : (low : Option Key) (items : List Item) (key : Key) → Rises low (keys_of items) → has_key (standing items key) key ≡ has_key items key
key_standing low [] key r = refl
key_standing low (x ∷ xs) key r = by_place (is_below x.key key) refl (key_standing (Some x.key) xs key r.1)
  where
    by_key : (t : Bool) → key_eq x.key key ≡ t → is_below x.key key ≡ false → (if t then true else false) ≡ (if t then true else has_key xs key)
    by_key true e n = refl
    by_key false e n = sym (key_above x.key xs key (is_over x.key key n e) r.1)

    by_place : (b : Bool) → is_below x.key key ≡ b → has_key (standing xs key) key ≡ has_key xs key → has_key (take 1 (drop (if b then suc (place_in xs key) else 0) (x ∷ xs))) key ≡ has_key (x ∷ xs) key
    by_place true e rest = rest ∙ ap (λ t. if t then true else has_key xs key) (sym (below_eq x.key key e))
    by_place false e rest = by_key (key_eq x.key key) refl e
