-- What a set makes of a list of items.
use Rattle.std.proofs.Common.{◌≡◌, ℕ, Bool, true, false, List, [], ◌∷◌, ◌++◌, Option, Some, None, refl, sym, ◌∙◌, ap, subst, inl, inr}
use Rattle.std.specs.Prelude.{if◌then◌else◌, eqb, ◌&&◌}
use Rattle.std.proofs.lemmas.Bool.{eqb-true}
use Rattle.std.specs.Cmp.Lexicographic.{pointwise}
use Rattle.btree_family.specs.declared.key.Key.{Key}
use Rattle.btree_family.specs.declared.bucket.Item.{Item}
use Rattle.btree_family.specs.Keys.{key_eq, rank_of, is_below}
use Rattle.btree_family.specs.Buckets.{keys_of}
use Rattle.btree_family.specs.Rising.{is_key_above, Rises}
use Rattle.btree_shapes.specs.Nodes.{value_in, shown}
use Rattle.btree_shapes.specs.Shapes.{IsFrom, IsUpTo, AreWithin, AreOfKind}
use Rattle.btree_putting.specs.Items.{same_value, has_value}
use Rattle.btree_setting.specs.Inserting.{behind, set_item}
use Rattle.btree_family.specs.OrderLaws.{order, below_itself, eq_itself, below_eq, below_not, above_eq, below_below, below_from}

-- ---- the three cases of a set

pub set_more : (x : Item) (xs : List Item) (key : Key) (value : Option (List ℕ)) → is_below x.key key ≡ true → set_item (x ∷ xs) key value ≡ x ∷ set_item xs key value
set_more x xs key value l = ap (λ b. if b then x ∷ set_item xs key value else record { key = key; value = value } ∷ behind (x ∷ xs) key) l

set_not : (x : Item) (xs : List Item) (key : Key) (value : Option (List ℕ)) → is_below x.key key ≡ false → set_item (x ∷ xs) key value ≡ record { key = key; value = value } ∷ behind (x ∷ xs) key
set_not x xs key value l = ap (λ b. if b then x ∷ set_item xs key value else record { key = key; value = value } ∷ behind (x ∷ xs) key) l

behind_with : (x : Item) (xs : List Item) (key : Key) (b : Bool) → key_eq x.key key ≡ b → behind (x ∷ xs) key ≡ (if b then xs else x ∷ xs)
behind_with x xs key b e = ap (λ t. if t then xs else x ∷ xs) e

pub set_less : (x : Item) (xs : List Item) (key : Key) (value : Option (List ℕ)) → is_below key x.key ≡ true → set_item (x ∷ xs) key value ≡ record { key = key; value = value } ∷ x ∷ xs
set_less x xs key value l =
    set_not x xs key value (below_not key x.key l) ∙ ap (λ ys. record { key = key; value = value } ∷ ys) (behind_with x xs key false (above_eq x.key key l))

pub set_same : (x : Item) (xs : List Item) (key : Key) (value : Option (List ℕ)) → x.key ≡ key → set_item (x ∷ xs) key value ≡ record { key = key; value = value } ∷ xs
set_same x xs key value e =
    set_not x xs key value (ap (λ k. is_below k key) e ∙ below_itself key) ∙ ap (λ ys. record { key = key; value = value } ∷ ys) (behind_with x xs key true (ap (λ k. key_eq k key) e ∙ eq_itself key))

-- ---- bounds, order and kind stay

pub within_set : (low high : Option Key) (xs : List Item) (key : Key) (value : Option (List ℕ)) → IsFrom low key → IsUpTo high key → AreWithin low high xs → AreWithin low high (set_item xs key value)
within_set low high [] key value f u w = (f, u, tt)
within_set low high (x ∷ xs) key value f u w = elim (order x.key key) [
  | inl same ↦ rw (set_same x xs key value same) (f, u, w.2)
  | inr o ↦ elim o [
    | inl less ↦ rw (set_more x xs key value less) (w.0, w.1, within_set low high xs key value f u w.2)
    | inr more ↦ rw (set_less x xs key value more) (f, u, w)
  ]
]

pub rises_set : (low : Option Key) (xs : List Item) (key : Key) (value : Option (List ℕ)) → is_key_above low key ≡ true → Rises low (keys_of xs) → Rises low (keys_of (set_item xs key value))
rises_set low [] key value a r = (a, tt)
rises_set low (x ∷ xs) key value a r = elim (order x.key key) [
  | inl same ↦ rw (set_same x xs key value same) (a, subst (λ k. Rises (Some k) (keys_of xs)) same r.1)
  | inr o ↦ elim o [
    | inl less ↦ rw (set_more x xs key value less) (r.0, rises_set (Some x.key) xs key value less r.1)
    | inr more ↦ rw (set_less x xs key value more) (a, (more, r.1))
  ]
]

pub kind_set : (kind : ℕ) (xs : List Item) (key : Key) (value : Option (List ℕ)) → rank_of key ≡ kind → AreOfKind kind xs → AreOfKind kind (set_item xs key value)
kind_set kind [] key value k a = (k, tt)
kind_set kind (x ∷ xs) key value k a = elim (order x.key key) [
  | inl same ↦ rw (set_same x xs key value same) (k, a.1)
  | inr o ↦ elim o [
    | inl less ↦ rw (set_more x xs key value less) (a.0, kind_set kind xs key value k a.1)
    | inr more ↦ rw (set_less x xs key value more) (k, a)
  ]
]

-- ---- a set in one of two parts

pub set_front : (mid : Key) (high : Option Key) (xs ys : List Item) (key : Key) (value : Option (List ℕ)) → AreWithin (Some mid) high ys → is_below key mid ≡ true → set_item (xs ++ ys) key value ≡ set_item xs key value ++ ys
set_front mid high [] [] key value w l = refl
set_front mid high [] (y ∷ ys) key value w l = set_less y ys key value (below_from key mid y.key l w.0)
set_front mid high (x ∷ xs) ys key value w l = elim (order x.key key) [
  | inl same ↦ set_same x (xs ++ ys) key value same ∙ ap (λ zs. zs ++ ys) (sym (set_same x xs key value same))
  | inr o ↦ elim o [
    | inl less ↦ set_more x (xs ++ ys) key value less ∙ ap (λ zs. x ∷ zs) (set_front mid high xs ys key value w l) ∙ ap (λ zs. zs ++ ys) (sym (set_more x xs key value less))
    | inr more ↦ set_less x (xs ++ ys) key value more ∙ ap (λ zs. zs ++ ys) (sym (set_less x xs key value more))
  ]
]

pub set_back : (low : Option Key) (mid : Key) (xs ys : List Item) (key : Key) (value : Option (List ℕ)) → AreWithin low (Some mid) xs → is_below key mid ≡ false → set_item (xs ++ ys) key value ≡ xs ++ set_item ys key value
set_back low mid [] ys key value w l = refl
set_back low mid (x ∷ xs) ys key value w l =
    set_more x (xs ++ ys) key value (below_from x.key mid key w.1 l) ∙ ap (λ zs. x ∷ zs) (set_back low mid xs ys key value w.2 l)

-- ---- a value that is there already

both : (a b : Bool) → (a && b) ≡ true → (a ≡ true) × (b ≡ true)
both true b e = (refl, e)
both false b e = absurd cc

pub bytes_same : (xs ys : List ℕ) → pointwise eqb xs ys ≡ true → xs ≡ ys
bytes_same [] [] e = refl
bytes_same [] (y ∷ ys) e = absurd cc
bytes_same (x ∷ xs) [] e = absurd cc
bytes_same (x ∷ xs) (y ∷ ys) e = let p = both (eqb x y) (pointwise eqb xs ys) e in ap (λ z. z ∷ xs) (eqb-true x y p.0) ∙ ap (λ zs. y ∷ zs) (bytes_same xs ys p.1)

pub value_same : (a b : Option (List ℕ)) → same_value a b ≡ true → a ≡ b
value_same None None e = refl
value_same None (Some b) e = absurd cc
value_same (Some a) None e = absurd cc
value_same (Some a) (Some b) e = ap Some (bytes_same a b e)

has_with : (x : Item) (xs : List Item) (key : Key) (value : Option (List ℕ)) (b : Bool) → key_eq x.key key ≡ b → has_value (x ∷ xs) key value ≡ (if b then same_value x.value value else has_value xs key value)
has_with x xs key value b e = ap (λ t. if t then same_value x.value value else has_value xs key value) e

has_none : (low : Key) (xs : List Item) (key : Key) (value : Option (List ℕ)) → Rises (Some low) (keys_of xs) → is_below key low ≡ true → has_value xs key value ≡ false
has_none low [] key value r l = refl
has_none low (x ∷ xs) key value r l =
    let above : is_below key x.key ≡ true = below_below key low x.key l r.0 in
    has_with x xs key value false (above_eq x.key key above) ∙ has_none x.key xs key value r.1 above

pub set_kept : (low : Option Key) (xs : List Item) (key : Key) (value : Option (List ℕ)) → Rises low (keys_of xs) → has_value xs key value ≡ true → set_item xs key value ≡ xs
set_kept low [] key value r h = absurd cc
set_kept low (x ∷ xs) key value r h = elim (order x.key key) [
  | inl same ↦
      let v : x.value ≡ value = value_same x.value value (sym (has_with x xs key value true (ap (λ k. key_eq k key) same ∙ eq_itself key)) ∙ h) in
      set_same x xs key value same ∙ rw (← same, ← v) refl
  | inr o ↦ elim o [
    | inl less ↦
        let there : has_value xs key value ≡ true = sym (has_with x xs key value false (below_eq x.key key less)) ∙ h in
        set_more x xs key value less ∙ ap (λ ys. x ∷ ys) (set_kept (Some x.key) xs key value r.1 there)
    | inr more ↦
        let there : has_value xs key value ≡ true = sym (has_with x xs key value false (above_eq x.key key more)) ∙ h in
        let gone : has_value xs key value ≡ false = has_none x.key xs key value r.1 more in
        let bad : true ≡ false = sym there ∙ gone in absurd cc
  ]
]

-- ---- what stands under a key

value_with : (x : Item) (xs : List Item) (key : Key) (b : Bool) → key_eq x.key key ≡ b → value_in (x ∷ xs) key ≡ (if b then Some (shown x.value) else value_in xs key)
value_with x xs key b e = ap (λ t. if t then Some (shown x.value) else value_in xs key) e

pub value_set : (xs : List Item) (key : Key) (value : Option (List ℕ)) → value_in (set_item xs key value) key ≡ Some (shown value)
value_set [] key value = value_with (record { key = key; value = value }) [] key true (eq_itself key)
value_set (x ∷ xs) key value = elim (order x.key key) [
  | inl same ↦ ap (λ ys. value_in ys key) (set_same x xs key value same) ∙ value_with (record { key = key; value = value }) xs key true (eq_itself key)
  | inr o ↦ elim o [
    | inl less ↦ ap (λ ys. value_in ys key) (set_more x xs key value less) ∙ value_with x (set_item xs key value) key false (below_eq x.key key less) ∙ value_set xs key value
    | inr more ↦ ap (λ ys. value_in ys key) (set_less x xs key value more) ∙ value_with (record { key = key; value = value }) (x ∷ xs) key true (eq_itself key)
  ]
]

pub value_other : (xs : List Item) (key : Key) (value : Option (List ℕ)) (other : Key) → key_eq key other ≡ false → value_in (set_item xs key value) other ≡ value_in xs other
value_other [] key value other n = value_with (record { key = key; value = value }) [] other false n
value_other (x ∷ xs) key value other n = elim (order x.key key) [
  | inl same ↦
      ap (λ ys. value_in ys other) (set_same x xs key value same) ∙ value_with (record { key = key; value = value }) xs other false n
      ∙ sym (value_with x xs other false (ap (λ k. key_eq k other) same ∙ n))
  | inr o ↦ elim o [
    | inl less ↦
        ap (λ ys. value_in ys other) (set_more x xs key value less)
        ∙ ap (λ v. if key_eq x.key other then Some (shown x.value) else v) (value_other xs key value other n)
    | inr more ↦ ap (λ ys. value_in ys other) (set_less x xs key value more) ∙ value_with (record { key = key; value = value }) (x ∷ xs) other false n
  ]
]

-- ---- items in two parts

pub rises_any : (low : Option Key) (keys : List Key) → Rises low keys → Rises None keys
rises_any low [] r = tt
rises_any low (key ∷ keys) r = (refl, r.1)

pub rises_left : (low : Option Key) (xs : List Item) (y : Item) (ys : List Item) → Rises low (keys_of (xs ++ y ∷ ys)) → Rises low (keys_of xs)
rises_left low [] y ys r = tt
rises_left low (x ∷ xs) y ys r = (r.0, rises_left (Some x.key) xs y ys r.1)

pub rises_right : (low : Option Key) (xs : List Item) (y : Item) (ys : List Item) → Rises low (keys_of (xs ++ y ∷ ys)) → Rises None (keys_of (y ∷ ys))
rises_right low [] y ys r = (refl, r.1)
rises_right low (x ∷ xs) y ys r = rises_right (Some x.key) xs y ys r.1

rises_below : (low : Key) (xs : List Item) (y : Item) (ys : List Item) → Rises (Some low) (keys_of (xs ++ y ∷ ys)) → is_below low y.key ≡ true
rises_below low [] y ys r = r.0
rises_below low (x ∷ xs) y ys r = below_below low x.key y.key r.0 (rises_below x.key xs y ys r.1)

pub within_left : (low high : Option Key) (above : Option Key) (xs : List Item) (y : Item) (ys : List Item) → Rises above (keys_of (xs ++ y ∷ ys)) → AreWithin low high (xs ++ y ∷ ys) → AreWithin low (Some y.key) xs
within_left low high above [] y ys r w = tt
within_left low high above (x ∷ xs) y ys r w = (w.0, rises_below x.key xs y ys r.1, within_left low high (Some x.key) xs y ys r.1 w.2)

rises_lower : (low mid : Key) (keys : List Key) → is_below low mid ≡ true → Rises (Some mid) keys → Rises (Some low) keys
rises_lower low mid [] l r = tt
rises_lower low mid (key ∷ keys) l r = (below_below low mid key l r.0, r.1)

within_above : (from : Key) (low high : Option Key) (ys : List Item) → Rises (Some from) (keys_of ys) → AreWithin low high ys → AreWithin (Some from) high ys
within_above from low high [] r w = tt
within_above from low high (y ∷ ys) r w = (below_not from y.key r.0, w.1, within_above from low high ys (rises_lower from y.key (keys_of ys) r.0 r.1) w.2)

pub within_right : (low high : Option Key) (above : Option Key) (xs : List Item) (y : Item) (ys : List Item) → Rises above (keys_of (xs ++ y ∷ ys)) → AreWithin low high (xs ++ y ∷ ys) → AreWithin (Some y.key) high (y ∷ ys)
within_right low high above [] y ys r w = (below_itself y.key, w.1, within_above y.key low high ys r.1 w.2)
within_right low high above (x ∷ xs) y ys r w = within_right low high (Some x.key) xs y ys r.1 w.2

pub bound_at : (low high : Option Key) (xs : List Item) (y : Item) (ys : List Item) → AreWithin low high (xs ++ y ∷ ys) → IsFrom low y.key × IsUpTo high y.key
bound_at low high [] y ys w = (w.0, w.1)
bound_at low high (x ∷ xs) y ys w = bound_at low high xs y ys w.2

pub kind_left : (kind : ℕ) (xs : List Item) (y : Item) (ys : List Item) → AreOfKind kind (xs ++ y ∷ ys) → AreOfKind kind xs
kind_left kind [] y ys a = tt
kind_left kind (x ∷ xs) y ys a = (a.0, kind_left kind xs y ys a.1)

pub kind_right : (kind : ℕ) (xs : List Item) (y : Item) (ys : List Item) → AreOfKind kind (xs ++ y ∷ ys) → AreOfKind kind (y ∷ ys)
kind_right kind [] y ys a = a
kind_right kind (x ∷ xs) y ys a = kind_right kind xs y ys a.1
