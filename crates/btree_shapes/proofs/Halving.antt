-- The place of a key among separators that rise.
use Rattle.std.proofs.Common.{◌≡◌, ℕ, zero, suc, ◌+◌, ◌-◌, ◌/◌, ◌≤◌, ◌<◌, Bool, true, false, List, [], ◌∷◌, length, Option, Some, None, refl, sym, ◌∙◌, ap, subst, arith}
use Rattle.std.specs.Prelude.{slice_get, if◌then◌else◌}
use Rattle.std.specs.declared.cmp.Ordering.{Ordering}
use Rattle.std.specs.declared.cmp.Ordering.TheVariants.{Less, Equal, Greater}
use Rattle.std.specs.Ordering.{is_lt}
use Rattle.btree_family.specs.declared.key.Key.{Key}
use Rattle.btree_family.specs.Keys.{key_cmp, is_below}
use Rattle.btree_family.specs.KeyLaws.{key_cmp-total}
use Rattle.btree_family.specs.Rising.{Rises}
use Rattle.bucket_state.specs.declared.tree.Branch.{Branch}
use Rattle.bucket_state.specs.Trees.{separators_of}
use Rattle.btree_shapes.specs.Nodes.{child_for, place_for}

is_less : (o : Ordering) → is_lt o ≡ true → o ≡ Less
is_less Less e = refl
is_less Equal e = cc
is_less Greater e = cc

below_below : (a b c : Key) → is_below a b ≡ true → is_below b c ≡ true → is_below a c ≡ true
below_below a b c g h = ap is_lt (key_cmp-total.trans a b c (is_less (key_cmp a b) g) (is_less (key_cmp b c) h))

-- a key that isn't below one isn't below a lower one
not_below : (key low high : Key) → is_below low high ≡ true → is_below key high ≡ false → is_below key low ≡ false
not_below key low high l n = by_test (is_below key low) refl
  where
    by_test : (b : Bool) → is_below key low ≡ b → b ≡ false
    by_test true e = let there : is_below key high ≡ true = below_below key low high e l in cc
    by_test false e = refl

same_branch : (a b : Branch) → Some a ≡ Some b → a ≡ b
same_branch a b e = cc

-- each one behind the first is above it
above_first : (low : Key) (branches : List Branch) (m : ℕ) (b : Branch) → Rises (Some low) (separators_of branches) → slice_get branches m ≡ Some b → is_below low b.key ≡ true
above_first low [] m b r g = absurd cc
above_first low (x ∷ xs) zero b r g = ap (λ (y : Branch). is_below low y.key) (sym (same_branch x b g)) ∙ r.0
above_first low (x ∷ xs) (suc m) b r g = below_below low x.key b.key r.0 (above_first x.key xs m b r.1 g)

pub place_within : (branches : List Branch) (key : Key) → place_for branches key ≤ length branches
place_within [] key = omega arith
place_within (x ∷ xs) key = by_test (is_below key x.key) (place_within xs key)
  where
    by_test : (b : Bool) → place_for xs key ≤ length xs → (if b then 0 else suc (place_for xs key)) ≤ suc (length xs)
    by_test true l = omega arith
    by_test false l = omega (arith, l)

-- a separator above the key isn't before the place
pub place_before : (branches : List Branch) (key : Key) (m : ℕ) (b : Branch) → slice_get branches m ≡ Some b → is_below key b.key ≡ true → place_for branches key ≤ m
place_before [] key m b g t = absurd cc
place_before (x ∷ xs) key zero b g t =
    let first : is_below key x.key ≡ true = ap (λ (y : Branch). is_below key y.key) (same_branch x b g) ∙ t in
    let none : place_for (x ∷ xs) key ≡ 0 = ap (λ c. if c then 0 else suc (place_for xs key)) first in
    omega (arith, none)
place_before (x ∷ xs) key (suc m) b g t = by_test (is_below key x.key) (place_before xs key m b g t)
  where
    by_test : (c : Bool) → place_for xs key ≤ m → (if c then 0 else suc (place_for xs key)) ≤ suc m
    by_test true l = omega arith
    by_test false l = omega (arith, l)

-- a separator that isn't above the key is before the place, where they rise
place_after : (low : Option Key) (branches : List Branch) (key : Key) (m : ℕ) (b : Branch) → Rises low (separators_of branches) → slice_get branches m ≡ Some b → is_below key b.key ≡ false → suc m ≤ place_for branches key
place_after low [] key m b r g n = absurd cc
place_after low (x ∷ xs) key zero b r g n =
    let first : is_below key x.key ≡ false = ap (λ (y : Branch). is_below key y.key) (same_branch x b g) ∙ n in
    let some : place_for (x ∷ xs) key ≡ suc (place_for xs key) = ap (λ c. if c then 0 else suc (place_for xs key)) first in
    omega (arith, some)
place_after low (x ∷ xs) key (suc m) b r g n =
    let first : is_below key x.key ≡ false = not_below key x.key b.key (above_first x.key xs m b r.1 g) n in
    let some : place_for (x ∷ xs) key ≡ suc (place_for xs key) = ap (λ c. if c then 0 else suc (place_for xs key)) first in
    let rest = place_after (Some x.key) xs key m b r.1 g n in
    omega (arith, some, rest)

pub place_behind : (branches : List Branch) (key : Key) (m : ℕ) (b : Branch) → Rises None (separators_of branches) → slice_get branches m ≡ Some b → is_below key b.key ≡ false → m + 1 ≤ place_for branches key
place_behind branches key m b r g n = let l = place_after None branches key m b r g n in omega (arith, l)

-- ---- the child at a place

pub child_first : (head : ℕ) (branches : List Branch) (key : Key) → place_for branches key ≡ 0 → child_for head branches key ≡ head
child_first head [] key e = refl
child_first head (x ∷ xs) key e = by_test (is_below key x.key) e
  where
    by_test : (b : Bool) → (if b then 0 else suc (place_for xs key)) ≡ 0 → (if b then head else child_for x.child xs key) ≡ head
    by_test true e = refl
    by_test false e = absurd (omega (arith, e))

child_later : (head : ℕ) (branches : List Branch) (key : Key) (k : ℕ) (b : Branch) → slice_get branches k ≡ Some b → place_for branches key ≡ suc k → child_for head branches key ≡ b.child
child_later head [] key k b g e = absurd cc
child_later head (x ∷ xs) key zero b g e = by_test (is_below key x.key) e
  where
    by_test : (c : Bool) → (if c then 0 else suc (place_for xs key)) ≡ 1 → (if c then head else child_for x.child xs key) ≡ b.child
    by_test true e = absurd (omega (arith, e))
    by_test false e = child_first x.child xs key (omega (arith, e)) ∙ ap (λ (y : Branch). y.child) (same_branch x b g)
child_later head (x ∷ xs) key (suc k) b g e = by_test (is_below key x.key) (λ r. child_later x.child xs key k b g r) e
  where
    by_test : (c : Bool) → (place_for xs key ≡ suc k → child_for x.child xs key ≡ b.child) → (if c then 0 else suc (place_for xs key)) ≡ suc (suc k) → (if c then head else child_for x.child xs key) ≡ b.child
    by_test true rest e = absurd (omega (arith, e))
    by_test false rest e = rest (omega (arith, e))

pub child_behind : (head : ℕ) (branches : List Branch) (key : Key) (place : ℕ) (b : Branch) → 1 ≤ place → place ≡ place_for branches key → slice_get branches (place - 1) ≡ Some b → child_for head branches key ≡ b.child
child_behind head branches key place b some is g = child_later head branches key (place - 1) b g (omega (arith, some, is))

-- ---- halves

pub middle_within : (low high : ℕ) → low < high → (low ≤ low + (high - low) / 2) × (low + (high - low) / 2 < high)
middle_within low high l = (omega (arith, l), omega (arith, l))

pub left_half : (branches : List Branch) (key : Key) (low high : ℕ) (b : Branch) → low < high → low ≤ place_for branches key → high ≤ length branches → slice_get branches (low + (high - low) / 2) ≡ Some b → is_below key b.key ≡ true
    → (low ≤ place_for branches key) × (place_for branches key ≤ low + (high - low) / 2) × (low + (high - low) / 2 ≤ length branches)
left_half branches key low high b l under w g t = (under, place_before branches key (low + (high - low) / 2) b g t, let m = middle_within low high l in omega (arith, m.1, w))

pub right_half : (branches : List Branch) (key : Key) (low high : ℕ) (b : Branch) → low < high → Rises None (separators_of branches) → place_for branches key ≤ high → high ≤ length branches → slice_get branches (low + (high - low) / 2) ≡ Some b → is_below key b.key ≡ false
    → (low + (high - low) / 2 + 1 ≤ place_for branches key) × (place_for branches key ≤ high) × (high ≤ length branches)
right_half branches key low high b l r over w g t = (place_behind branches key (low + (high - low) / 2) b r g t, over, w)
