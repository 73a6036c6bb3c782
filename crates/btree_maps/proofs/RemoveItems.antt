-- What a remove makes of a list of items.
use Rattle.std.proofs.Common.{◌≡◌, ℕ, Bool, true, false, List, [], ◌∷◌, ◌++◌, Option, Some, None, refl, sym, ◌∙◌, ap, inl, inr}
use Rattle.std.specs.Prelude.{if◌then◌else◌}
use Rattle.btree_family.specs.declared.key.Key.{Key}
use Rattle.btree_family.specs.declared.bucket.Item.{Item}
use Rattle.btree_family.specs.Keys.{key_eq, is_below}
use Rattle.btree_family.specs.Buckets.{keys_of}
use Rattle.btree_family.specs.Rising.{is_key_above, Rises}
use Rattle.btree_shapes.specs.Nodes.{value_in, shown}
use Rattle.btree_shapes.specs.Shapes.{AreWithin, AreOfKind}
use Rattle.btree_putting.specs.Items.{has_key}
use Rattle.btree_removing.specs.Items.{remove_item}
use Rattle.btree_family.specs.OrderLaws.{eq_is, below_eq, above_eq, below_below, below_from}
use Rattle.btree_maps.proofs.Putting.{bool_cases}

-- ---- the two cases of a remove

remove_same : (x : Item) (xs : List Item) (key : Key) → key_eq x.key key ≡ true → remove_item (x ∷ xs) key ≡ xs
remove_same x xs key e = ap (λ b. if b then xs else x ∷ remove_item xs key) e

remove_more : (x : Item) (xs : List Item) (key : Key) → key_eq x.key key ≡ false → remove_item (x ∷ xs) key ≡ x ∷ remove_item xs key
remove_more x xs key e = ap (λ b. if b then xs else x ∷ remove_item xs key) e

has_same : (x : Item) (xs : List Item) (key : Key) → key_eq x.key key ≡ true → has_key (x ∷ xs) key ≡ true
has_same x xs key e = ap (λ b. if b then true else has_key xs key) e

has_more : (x : Item) (xs : List Item) (key : Key) → key_eq x.key key ≡ false → has_key (x ∷ xs) key ≡ has_key xs key
has_more x xs key e = ap (λ b. if b then true else has_key xs key) e

value_with : (x : Item) (xs : List Item) (key : Key) (b : Bool) → key_eq x.key key ≡ b → value_in (x ∷ xs) key ≡ (if b then Some (shown x.value) else value_in xs key)
value_with x xs key b e = ap (λ t. if t then Some (shown x.value) else value_in xs key) e

-- ---- bounds, order and kind stay

pub within_remove : (low high : Option Key) (xs : List Item) (key : Key) → AreWithin low high xs → AreWithin low high (remove_item xs key)
within_remove low high [] key w = tt
within_remove low high (x ∷ xs) key w = elim (bool_cases (key_eq x.key key)) [
  | inl same ↦ rw (remove_same x xs key same) w.2
  | inr not ↦ rw (remove_more x xs key not) (w.0, w.1, within_remove low high xs key w.2)
]

rises_lower : (low : Option Key) (mid : Key) (keys : List Key) → is_key_above low mid ≡ true → Rises (Some mid) keys → Rises low keys
rises_lower low mid [] a r = tt
rises_lower None mid (key ∷ keys) a r = (refl, r.1)
rises_lower (Some low) mid (key ∷ keys) a r = (below_below low mid key a r.0, r.1)

pub rises_remove : (low : Option Key) (xs : List Item) (key : Key) → Rises low (keys_of xs) → Rises low (keys_of (remove_item xs key))
rises_remove low [] key r = tt
rises_remove low (x ∷ xs) key r = elim (bool_cases (key_eq x.key key)) [
  | inl same ↦ rw (remove_same x xs key same) (rises_lower low x.key (keys_of xs) r.0 r.1)
  | inr not ↦ rw (remove_more x xs key not) (r.0, rises_remove (Some x.key) xs key r.1)
]

pub kind_remove : (kind : ℕ) (xs : List Item) (key : Key) → AreOfKind kind xs → AreOfKind kind (remove_item xs key)
kind_remove kind [] key a = tt
kind_remove kind (x ∷ xs) key a = elim (bool_cases (key_eq x.key key)) [
  | inl same ↦ rw (remove_same x xs key same) a.1
  | inr not ↦ rw (remove_more x xs key not) (a.0, kind_remove kind xs key a.1)
]

-- ---- a remove in one of two parts

remove_low : (mid : Key) (high : Option Key) (ys : List Item) (key : Key) → AreWithin (Some mid) high ys → is_below key mid ≡ true → remove_item ys key ≡ ys
remove_low mid high [] key w l = refl
remove_low mid high (y ∷ ys) key w l = remove_more y ys key (above_eq y.key key (below_from key mid y.key l w.0)) ∙ ap (λ zs. y ∷ zs) (remove_low mid high ys key w.2 l)

pub remove_front : (mid : Key) (high : Option Key) (xs ys : List Item) (key : Key) → AreWithin (Some mid) high ys → is_below key mid ≡ true → remove_item (xs ++ ys) key ≡ remove_item xs key ++ ys
remove_front mid high [] ys key w l = remove_low mid high ys key w l
remove_front mid high (x ∷ xs) ys key w l = elim (bool_cases (key_eq x.key key)) [
  | inl same ↦ remove_same x (xs ++ ys) key same ∙ ap (λ zs. zs ++ ys) (sym (remove_same x xs key same))
  | inr not ↦ remove_more x (xs ++ ys) key not ∙ ap (λ zs. x ∷ zs) (remove_front mid high xs ys key w l) ∙ ap (λ zs. zs ++ ys) (sym (remove_more x xs key not))
]

pub remove_back : (low : Option Key) (mid : Key) (xs ys : List Item) (key : Key) → AreWithin low (Some mid) xs → is_below key mid ≡ false → remove_item (xs ++ ys) key ≡ xs ++ remove_item ys key
remove_back low mid [] ys key w l = refl
remove_back low mid (x ∷ xs) ys key w l = remove_more x (xs ++ ys) key (below_eq x.key key (below_from x.key mid key w.1 l)) ∙ ap (λ zs. x ∷ zs) (remove_back low mid xs ys key w.2 l)

has_low : (mid : Key) (high : Option Key) (ys : List Item) (key : Key) → AreWithin (Some mid) high ys → is_below key mid ≡ true → has_key ys key ≡ false
has_low mid high [] key w l = refl
has_low mid high (y ∷ ys) key w l = has_more y ys key (above_eq y.key key (below_from key mid y.key l w.0)) ∙ has_low mid high ys key w.2 l

pub has_front : (mid : Key) (high : Option Key) (xs ys : List Item) (key : Key) → AreWithin (Some mid) high ys → is_below key mid ≡ true → has_key (xs ++ ys) key ≡ has_key xs key
has_front mid high [] ys key w l = has_low mid high ys key w l
has_front mid high (x ∷ xs) ys key w l = ap (λ b. if key_eq x.key key then true else b) (has_front mid high xs ys key w l)

pub has_back : (low : Option Key) (mid : Key) (xs ys : List Item) (key : Key) → AreWithin low (Some mid) xs → is_below key mid ≡ false → has_key (xs ++ ys) key ≡ has_key ys key
has_back low mid [] ys key w l = refl
has_back low mid (x ∷ xs) ys key w l = has_more x (xs ++ ys) key (below_eq x.key key (below_from x.key mid key w.1 l)) ∙ has_back low mid xs ys key w.2 l

-- ---- an absent key

pub remove_none : (xs : List Item) (key : Key) → has_key xs key ≡ false → remove_item xs key ≡ xs
remove_none [] key e = refl
remove_none (x ∷ xs) key e = elim (bool_cases (key_eq x.key key)) [
  | inl same ↦ let bad : true ≡ false = sym (has_same x xs key same) ∙ e in absurd cc
  | inr not ↦ remove_more x xs key not ∙ ap (λ ys. x ∷ ys) (remove_none xs key (sym (has_more x xs key not) ∙ e))
]

-- ---- what stands under a key

none_above : (low : Key) (xs : List Item) → Rises (Some low) (keys_of xs) → value_in xs low ≡ None
none_above low [] r = refl
none_above low (x ∷ xs) r = value_with x xs low false (above_eq x.key low r.0) ∙ none_above low xs (rises_lower (Some low) x.key (keys_of xs) r.0 r.1)

pub value_gone : (low : Option Key) (xs : List Item) (key : Key) → Rises low (keys_of xs) → value_in (remove_item xs key) key ≡ None
value_gone low [] key r = refl
value_gone low (x ∷ xs) key r = elim (bool_cases (key_eq x.key key)) [
  | inl same ↦
      let is : x.key ≡ key = eq_is x.key key same in
      ap (λ ys. value_in ys key) (remove_same x xs key same) ∙ ap (value_in xs) (sym is) ∙ none_above x.key xs r.1
  | inr not ↦ ap (λ ys. value_in ys key) (remove_more x xs key not) ∙ value_with x (remove_item xs key) key false not ∙ value_gone (Some x.key) xs key r.1
]

pub value_kept : (xs : List Item) (key other : Key) → key_eq key other ≡ false → value_in (remove_item xs key) other ≡ value_in xs other
value_kept [] key other n = refl
value_kept (x ∷ xs) key other n = elim (bool_cases (key_eq x.key key)) [
  | inl same ↦
      ap (λ ys. value_in ys other) (remove_same x xs key same) ∙ sym (value_with x xs other false (ap (λ k. key_eq k other) (eq_is x.key key same) ∙ n))
  | inr not ↦
      ap (λ ys. value_in ys other) (remove_more x xs key not)
      ∙ ap (λ v. if key_eq x.key other then Some (shown x.value) else v) (value_kept xs key other n)
]
