-- What holds of the keys and the values of three buckets holds of those of their merge; and what holds of their keys, of a key that is named.
use Rattle.std.proofs.Common.{◌≡◌, ℕ, Bool, true, false, cond, List, [], ◌∷◌, ◌++◌, filter, Option, Some, None, refl, sym, subst}
use Rattle.btree_family.specs.declared.key.Key.{Key}
use Rattle.btree_family.specs.declared.bucket.Item.{Item}
use Rattle.btree_family.specs.Keys.{key_eq, is_below}
use Rattle.btree_family.specs.Buckets.{keys_of}
use Rattle.bucket_merge.specs.Maps.{value_at, differ, joined}
use Rattle.std.proofs.Common.{Ok, Err}
use Rattle.std.specs.Prelude.{◌||◌}
use Rattle.btree_family.specs.Buckets.{BucketContents}
use Rattle.bucket_merge.specs.declared.refusal.MergeRefusal.TheVariants.{Link, EmptySide, Key as BothChanged, FirstKey}
use Rattle.bucket_merge.specs.Merge.{kept_at, all_keys, item_at, kept_among, merged_items, both_changed_at, changed_among, least_changed, same_links, no_items, first_key_left, unless_changed, merge_of}

-- it holds of each
abbrev pub Each : (Key → Type 0) → List Key → Type 0
Each P [] = Unit {0}
Each P (key ∷ keys) = P key × Each P keys

each_cond : (P : Key → Type 0) (t : Bool) (k : Key) (ks : List Key) → P k → Each P ks → Each P (cond t (k ∷ ks) ks)
each_cond P true k ks p h = (p, h)
each_cond P false k ks p h = h

each_filter : (P : Key → Type 0) (test : Key → Bool) (ks : List Key) → Each P ks → Each P (filter test ks)
each_filter P test [] h = tt
each_filter P test (k ∷ ks) h = each_cond P (test k) k (filter test ks) h.0 (each_filter P test ks h.1)

each_append : (P : Key → Type 0) (xs ys : List Key) → Each P xs → Each P ys → Each P (xs ++ ys)
each_append P [] ys h g = g
each_append P (x ∷ xs) ys h g = (h.0, each_append P xs ys h.1 g)

each_joined : (P : Key → Type 0) (xs ys : List Key) → Each P xs → Each P ys → Each P (joined xs ys)
each_joined P [] ys h g = g
each_joined P (x ∷ xs) ys h g =
    each_append P (filter (λ other. is_below other x) ys) (x ∷ joined xs (filter (λ other. is_below x other) ys))
    (each_filter P (λ other. is_below other x) ys g)
    (h.0, each_joined P xs (filter (λ other. is_below x other) ys) h.1 (each_filter P (λ other. is_below x other) ys g))

each_item : (P : Key → Type 0) (k : Key) (o : Option (Option (List ℕ))) (rest : List Item) → P k → Each P (keys_of rest) → Each P (keys_of (item_at k o ++ rest))
each_item P k None rest p h = h
each_item P k (Some value) rest p h = (p, h)

each_kept : (P : Key → Type 0) (a b c : List Item) (ks : List Key) → Each P ks → Each P (keys_of (kept_among a b c ks))
each_kept P a b c [] h = tt
each_kept P a b c (k ∷ ks) h = each_item P k (kept_at a b c k) (kept_among a b c ks) h.0 (each_kept P a b c ks h.1)

-- the keys of the merge are keys of the three
pub merged_keys : (P : Key → Type 0) (a b c : List Item) → Each P (keys_of a) → Each P (keys_of b) → Each P (keys_of c) → Each P (keys_of (merged_items a b c))
merged_keys P a b c p q r = each_kept P a b c (all_keys a b c) (each_joined P (keys_of a) (joined (keys_of b) (keys_of c)) p (each_joined P (keys_of b) (keys_of c) q r))

-- ---- what an answer says

pub inv_ok : (a b c m : BucketContents) → merge_of a b c ≡ Ok m → (changed_among a.items b.items c.items (all_keys a.items b.items c.items) ≡ None) × (m ≡ record { items = merged_items a.items b.items c.items; next = b.next })
inv_ok a b c m e = by_links (same_links a b c) e where
  by_changed : (o : Option Key) (t : Bool) → unless_changed o (cond t (Err FirstKey) (Ok (record { items = merged_items a.items b.items c.items; next = b.next }))) ≡ Ok m → (o ≡ None) × (m ≡ record { items = merged_items a.items b.items c.items; next = b.next })
  by_changed (Some k) t g = cc
  by_changed None true g = cc
  by_changed None false g = (refl, cc)

  by_sides : (t : Bool) → cond t (Err EmptySide) (unless_changed (least_changed a.items b.items c.items) (cond (first_key_left a.items b.items c.items) (Err FirstKey) (Ok (record { items = merged_items a.items b.items c.items; next = b.next })))) ≡ Ok m → (least_changed a.items b.items c.items ≡ None) × (m ≡ record { items = merged_items a.items b.items c.items; next = b.next })
  by_sides true g = cc
  by_sides false g = by_changed (least_changed a.items b.items c.items) (first_key_left a.items b.items c.items) g

  by_links : (t : Bool) → cond t (cond (no_items b.items || no_items c.items) (Err EmptySide) (unless_changed (least_changed a.items b.items c.items) (cond (first_key_left a.items b.items c.items) (Err FirstKey) (Ok (record { items = merged_items a.items b.items c.items; next = b.next }))))) (Err Link) ≡ Ok m → (least_changed a.items b.items c.items ≡ None) × (m ≡ record { items = merged_items a.items b.items c.items; next = b.next })
  by_links true g = by_sides (no_items b.items || no_items c.items) g
  by_links false g = cc

pub inv_key : (a b c : BucketContents) (k : Key) → merge_of a b c ≡ Err (BothChanged k) → changed_among a.items b.items c.items (all_keys a.items b.items c.items) ≡ Some k
inv_key a b c k e = by_links (same_links a b c) e where
  merged : BucketContents
  merged = record { items = merged_items a.items b.items c.items; next = b.next }

  by_changed : (o : Option Key) (t : Bool) → unless_changed o (cond t (Err FirstKey) (Ok merged)) ≡ Err (BothChanged k) → o ≡ Some k
  by_changed (Some j) t g = cc
  by_changed None true g = cc
  by_changed None false g = cc

  by_sides : (t : Bool) → cond t (Err EmptySide) (unless_changed (least_changed a.items b.items c.items) (cond (first_key_left a.items b.items c.items) (Err FirstKey) (Ok merged))) ≡ Err (BothChanged k) → least_changed a.items b.items c.items ≡ Some k
  by_sides true g = cc
  by_sides false g = by_changed (least_changed a.items b.items c.items) (first_key_left a.items b.items c.items) g

  by_links : (t : Bool) → cond t (cond (no_items b.items || no_items c.items) (Err EmptySide) (unless_changed (least_changed a.items b.items c.items) (cond (first_key_left a.items b.items c.items) (Err FirstKey) (Ok merged)))) (Err Link) ≡ Err (BothChanged k) → least_changed a.items b.items c.items ≡ Some k
  by_links true g = by_sides (no_items b.items || no_items c.items) g
  by_links false g = cc

-- ---- the answers' keys

some_is : (x k : Key) → Some x ≡ Some k → x ≡ k
some_is x k e = cc

first_changed : (P : Key → Type 0) (x k : Key) (t : Bool) (o : Option Key) → P x → (o ≡ Some k → P k) → cond t (Some x) o ≡ Some k → P k
first_changed P x k true o p f e = subst P (some_is x k e) p
first_changed P x k false o p f e = f e

changed_each : (P : Key → Type 0) (a b c : List Item) (ks : List Key) (k : Key) → Each P ks → changed_among a b c ks ≡ Some k → P k
changed_each P a b c [] k h e = cc
changed_each P a b c (x ∷ ks) k h e = first_changed P x k (both_changed_at a b c x) (changed_among a b c ks) h.0 (changed_each P a b c ks k h.1) e

pub merge_keeps : (P : Key → Type 0) (a b c m : BucketContents) → Each P (keys_of a.items) → Each P (keys_of b.items) → Each P (keys_of c.items) → merge_of a b c ≡ Ok m → Each P (keys_of m.items)
merge_keeps P a b c m p q r e =
    subst (λ (z : BucketContents). Each P (keys_of z.items)) (sym (inv_ok a b c m e).1) (merged_keys P a.items b.items c.items p q r)

pub merge_names : (P : Key → Type 0) (a b c : BucketContents) (k : Key) → Each P (keys_of a.items) → Each P (keys_of b.items) → Each P (keys_of c.items) → merge_of a b c ≡ Err (BothChanged k) → P k
merge_names P a b c k p q r e =
    changed_each P a.items b.items c.items (all_keys a.items b.items c.items) k
    (each_joined P (keys_of a.items) (joined (keys_of b.items) (keys_of c.items)) p (each_joined P (keys_of b.items) (keys_of c.items) q r))
    (inv_key a b c k e)

-- ---- the merge's values

-- it holds of each value
abbrev pub EachValue : (Option (List ℕ) → Type 0) → List Item → Type 0
EachValue P [] = Unit {0}
EachValue P (item ∷ items) = P item.value × EachValue P items

found_value : (P : Option (List ℕ) → Type 0) (t : Bool) (v : Option (List ℕ)) (o : Option (Option (List ℕ))) (found : Option (List ℕ)) → P v → (o ≡ Some found → P found) → cond t (Some v) o ≡ Some found → P found
found_value P true v o found p f e = (let same : v ≡ found = cc in subst P same p)
found_value P false v o found p f e = f e

value_each : (P : Option (List ℕ) → Type 0) (items : List Item) (k : Key) (found : Option (List ℕ)) → EachValue P items → value_at items k ≡ Some found → P found
value_each P [] k found h e = cc
value_each P (item ∷ items) k found h e = found_value P (key_eq item.key k) item.value (value_at items k) found h.0 (value_each P items k found h.1) e

either_value : (P : Option (List ℕ) → Type 0) (t : Bool) (p q : Option (Option (List ℕ))) (found : Option (List ℕ)) → (p ≡ Some found → P found) → (q ≡ Some found → P found) → cond t p q ≡ Some found → P found
either_value P true p q found f g e = f e
either_value P false p q found f g e = g e

item_each : (P : Option (List ℕ) → Type 0) (k : Key) (o : Option (Option (List ℕ))) (rest : List Item) → ((found : Option (List ℕ)) → o ≡ Some found → P found) → EachValue P rest → EachValue P (item_at k o ++ rest)
item_each P k None rest f h = h
item_each P k (Some v) rest f h = (f v refl, h)

kept_each : (P : Option (List ℕ) → Type 0) (a b c : List Item) (ks : List Key) → EachValue P b → EachValue P c → EachValue P (kept_among a b c ks)
kept_each P a b c [] p q = tt
kept_each P a b c (k ∷ ks) p q =
    item_each P k (kept_at a b c k) (kept_among a b c ks)
    (λ found e. either_value P (differ (value_at c k) (value_at a k)) (value_at c k) (value_at b k) found (value_each P c k found q) (value_each P b k found p) e)
    (kept_each P a b c ks p q)

-- the values of the merge are values of committed and stored
pub merge_values : (P : Option (List ℕ) → Type 0) (a b c m : BucketContents) → EachValue P b.items → EachValue P c.items → merge_of a b c ≡ Ok m → EachValue P m.items
merge_values P a b c m p q e =
    subst (λ (z : BucketContents). EachValue P z.items) (sym (inv_ok a b c m e).1) (kept_each P a.items b.items c.items (all_keys a.items b.items c.items) p q)
