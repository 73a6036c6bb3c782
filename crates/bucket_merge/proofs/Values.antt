-- What the merge has at each key.
use Rattle.std.proofs.Common.{◌≡◌, ℕ, Bool, true, false, cond, List, [], ◌∷◌, ◌++◌, filter, Option, Some, None, ◌⊎◌, inl, inr, refl, sym, ◌∙◌, ap, subst}
use Rattle.btree_family.specs.declared.key.Key.{Key}
use Rattle.btree_family.specs.declared.bucket.Item.{Item}
use Rattle.btree_family.specs.Keys.{key_eq, is_below}
use Rattle.btree_family.specs.Buckets.{keys_of, IsValue, AreValues, IsBucket}
use Rattle.btree_family.specs.Rising.{is_key_above, Rises}
use Rattle.bucket_merge.specs.Maps.{value_at, differ, joined}
use Rattle.std.proofs.Common.{Ok}
use Rattle.bucket_merge.specs.Walk.{or_changed, walked}
use Rattle.bucket_merge.specs.Merge.{both_changed, kept_value, both_changed_at, kept_at, all_keys, changed_among, least_changed, item_at, kept_among, merged_items}
use Rattle.btree_family.specs.OrderLaws.{order, eq_is, eq_itself, below_eq, below_not, above_eq, below_below}
use Rattle.bucket_merge.proofs.Joined.{above_lower, rises_from, joined_rises}

-- ---- the merge is a bucket

value_case : (t : Bool) (v : Option (List ℕ)) (o : Option (Option (List ℕ))) (found : Option (List ℕ)) → IsValue v → (o ≡ Some found → IsValue found) → cond t (Some v) o ≡ Some found → IsValue found
value_case true v o found p h e = (let same : v ≡ found = cc in subst IsValue same p)
value_case false v o found p h e = h e

value_spelled : (items : List Item) (k : Key) (found : Option (List ℕ)) → AreValues items → value_at items k ≡ Some found → IsValue found
value_spelled [] k found h e = cc
value_spelled (item ∷ items) k found h e = value_case (key_eq item.key k) item.value (value_at items k) found h.0 (value_spelled items k found h.1) e

kept_case : (t : Bool) (p q : Option (Option (List ℕ))) (found : Option (List ℕ)) → (p ≡ Some found → IsValue found) → (q ≡ Some found → IsValue found) → cond t p q ≡ Some found → IsValue found
kept_case true p q found f g e = f e
kept_case false p q found f g e = g e

item_values : (k : Key) (o : Option (Option (List ℕ))) (rest : List Item) → ((found : Option (List ℕ)) → o ≡ Some found → IsValue found) → AreValues rest → AreValues (item_at k o ++ rest)
item_values k None rest f h = h
item_values k (Some v) rest f h = (f v refl, h)

kept_values : (a b c : List Item) (ks : List Key) → AreValues b → AreValues c → AreValues (kept_among a b c ks)
kept_values a b c [] p q = tt
kept_values a b c (k ∷ ks) p q =
    item_values k (kept_at a b c k) (kept_among a b c ks)
    (λ found e. kept_case (differ (value_at c k) (value_at a k)) (value_at c k) (value_at b k) found (value_spelled c k found q) (value_spelled b k found p) e)
    (kept_values a b c ks p q)

item_rises : (low : Option Key) (k : Key) (o : Option (Option (List ℕ))) (rest : List Item) → is_key_above low k ≡ true → Rises (Some k) (keys_of rest) → Rises low (keys_of (item_at k o ++ rest))
item_rises low k None rest p h = rises_from low (Some k) (keys_of rest) (above_lower low k p) h
item_rises low k (Some v) rest p h = (p, h)

pub kept_rises : (a b c : List Item) (low : Option Key) (ks : List Key) → Rises low ks → Rises low (keys_of (kept_among a b c ks))
kept_rises a b c low [] h = tt
kept_rises a b c low (k ∷ ks) h = item_rises low k (kept_at a b c k) (kept_among a b c ks) h.0 (kept_rises a b c (Some k) ks h.1)

pub keys_rise : (a b c : List Item) → Rises None (keys_of a) → Rises None (keys_of b) → Rises None (keys_of c) → Rises None (all_keys a b c)
keys_rise a b c p q r = joined_rises (keys_of a) None (joined (keys_of b) (keys_of c)) p (joined_rises (keys_of b) None (keys_of c) q r)

pub merged_rises : (a b c : List Item) → Rises None (keys_of a) → Rises None (keys_of b) → Rises None (keys_of c) → Rises None (keys_of (merged_items a b c))
merged_rises a b c p q r = kept_rises a b c None (all_keys a b c) (keys_rise a b c p q r)

pub merged_bucket : (a b c : List Item) → IsBucket a → IsBucket b → IsBucket c → IsBucket (merged_items a b c)
merged_bucket a b c p q r = record {
  rises = merged_rises a b c p.rises q.rises r.rises;
  spelled = kept_values a b c (all_keys a b c) q.spelled r.spelled;
}

-- ---- which keys stand in the join

abbrev pub has_key : List Key → Key → Bool
has_key [] k = false
has_key (x ∷ xs) k = cond (key_eq x k) true (has_key xs k)

or_assoc : (p q r : Bool) → cond (cond p true q) true r ≡ cond p true (cond q true r)
or_assoc true q r = refl
or_assoc false q r = refl

or_swap : (p q r : Bool) → cond p true (cond q true r) ≡ cond q true (cond p true r)
or_swap true true r = refl
or_swap true false r = refl
or_swap false true r = refl
or_swap false false r = refl

has_append : (xs ys : List Key) (k : Key) → has_key (xs ++ ys) k ≡ cond (has_key xs k) true (has_key ys k)
has_append [] ys k = refl
has_append (x ∷ xs) ys k = ap (cond (key_eq x k) true) (has_append xs ys k) ∙ sym (or_assoc (key_eq x k) (has_key xs k) (has_key ys k))

filter_case : (test : Key → Bool) (t u : Bool) (x : Key) (xs : List Key) (k : Key) → test x ≡ t → key_eq x k ≡ u → has_key (filter test xs) k ≡ cond (test k) (has_key xs k) false → has_key (cond t (x ∷ filter test xs) (filter test xs)) k ≡ cond (test k) (cond u true (has_key xs k)) false
filter_case test true true x xs k e f h =
    ap (λ (b : Bool). cond b true (has_key (filter test xs) k)) f
    ∙ ap (λ (b : Bool). cond b true false) (sym (ap test (sym (eq_is x k f)) ∙ e))
filter_case test true false x xs k e f h = ap (λ (b : Bool). cond b true (has_key (filter test xs) k)) f ∙ h
filter_case test false true x xs k e f h =
    h ∙ ap (λ (b : Bool). cond b (has_key xs k) false) (ap test (sym (eq_is x k f)) ∙ e)
    ∙ ap (λ (b : Bool). cond b true false) (sym (ap test (sym (eq_is x k f)) ∙ e))
filter_case test false false x xs k e f h = h

has_filter : (test : Key → Bool) (xs : List Key) (k : Key) → has_key (filter test xs) k ≡ cond (test k) (has_key xs k) false
has_filter test [] k = at_nothing (test k) where
  at_nothing : (t : Bool) → false ≡ cond t false false
  at_nothing true = refl
  at_nothing false = refl
has_filter test (x ∷ xs) k = filter_case test (test x) (key_eq x k) x xs k refl refl (has_filter test xs k)

-- a key below, at or above another
parted : (below at above front back : Bool) → (at ≡ true) ⊎ (((below ≡ true) × (above ≡ false) × (at ≡ false)) ⊎ ((above ≡ true) × (below ≡ false) × (at ≡ false))) → cond (cond below back false) true (cond at true (cond front true (cond above back false))) ≡ cond (cond at true front) true back
parted below true above front back h = bool_or (cond below back false) where
  bool_or : (t : Bool) → cond t true true ≡ true
  bool_or true = refl
  bool_or false = refl
parted true false false front back h = swap front back where
  swap : (f b : Bool) → cond b true (cond f true false) ≡ cond f true b
  swap true true = refl
  swap true false = refl
  swap false true = refl
  swap false false = refl
parted false false true front back h = refl
parted true false true front back (inl e) = cc
parted true false true front back (inr (inl e)) = (let f = e.1 in cc)
parted true false true front back (inr (inr e)) = (let f = e.1 in cc)
parted false false false front back (inl e) = cc
parted false false false front back (inr (inl e)) = (let f = e.0 in cc)
parted false false false front back (inr (inr e)) = (let f = e.0 in cc)

where_it_stands : (x k : Key) → (key_eq x k ≡ true) ⊎ (((is_below k x ≡ true) × (is_below x k ≡ false) × (key_eq x k ≡ false)) ⊎ ((is_below x k ≡ true) × (is_below k x ≡ false) × (key_eq x k ≡ false)))
where_it_stands x k = elim (order x k) [
  | inl e ↦ inl (subst (λ (z : Key). key_eq x z ≡ true) e (eq_itself x))
  | inr (inl l) ↦ inr (inr (l, below_not x k l, below_eq x k l))
  | inr (inr g) ↦ inr (inl (g, below_not k x g, above_eq x k g))
]

pub has_joined : (xs ys : List Key) (k : Key) → has_key (joined xs ys) k ≡ cond (has_key xs k) true (has_key ys k)
has_joined [] ys k = refl
has_joined (x ∷ xs) ys k =
    let above : List Key = filter (λ other. is_below x other) ys in
    let below : List Key = filter (λ other. is_below other x) ys in
    has_append below (x ∷ joined xs above) k
    ∙ ap (λ (t : Bool). cond (has_key below k) true (cond (key_eq x k) true t)) (has_joined xs above k)
    ∙ ap (λ (t : Bool). cond t true (cond (key_eq x k) true (cond (has_key xs k) true (has_key above k)))) (has_filter (λ other. is_below other x) ys k)
    ∙ ap (λ (t : Bool). cond (cond (is_below k x) (has_key ys k) false) true (cond (key_eq x k) true (cond (has_key xs k) true t))) (has_filter (λ other. is_below x other) ys k)
    ∙ parted (is_below k x) (key_eq x k) (is_below x k) (has_key xs k) (has_key ys k) (where_it_stands x k)

-- ---- values

absent_case : (t : Bool) (item : Item) (o : Option (Option (List ℕ))) (h : Bool) → cond t true h ≡ false → (h ≡ false → o ≡ None) → cond t (Some item.value) o ≡ None
absent_case true item o h e f = cc
absent_case false item o h e f = f e

-- where no key is the one, nothing stands
pub absent : (items : List Item) (k : Key) → has_key (keys_of items) k ≡ false → value_at items k ≡ None
absent [] k h = refl
absent (item ∷ items) k h = absent_case (key_eq item.key k) item (value_at items k) (has_key (keys_of items) k) h (absent items k)

none_of_three : (p q r : Bool) → cond p true (cond q true r) ≡ false → (p ≡ false) × (q ≡ false) × (r ≡ false)
none_of_three true q r e = cc
none_of_three false true r e = cc
none_of_three false false r e = (refl, refl, e)

-- nothing stands in any of the three
pub record Nowhere (a b c : List Item) (k : Key) : Type 0 where
  pub first : value_at a k ≡ None
  pub second : value_at b k ≡ None
  pub third : value_at c k ≡ None

pub nowhere : (a b c : List Item) (k : Key) → has_key (all_keys a b c) k ≡ false → Nowhere a b c k
nowhere a b c k h =
    let e = has_joined (keys_of a) (joined (keys_of b) (keys_of c)) k ∙ ap (cond (has_key (keys_of a) k) true) (has_joined (keys_of b) (keys_of c) k) in
    let n = none_of_three (has_key (keys_of a) k) (has_key (keys_of b) k) (has_key (keys_of c) k) (sym e ∙ h) in
    record { first = absent a k n.0; second = absent b k n.1; third = absent c k n.2 }

pub nowhere_apart : (a b c : List Item) (k : Key) → Nowhere a b c k → both_changed_at a b c k ≡ false
nowhere_apart a b c k n = (λ i. both_changed (n.first i) (n.second i) (n.third i))

nowhere_kept : (a b c : List Item) (k : Key) → Nowhere a b c k → kept_at a b c k ≡ None
nowhere_kept a b c k n = (λ i. kept_value (n.first i) (n.second i) (n.third i))

item_value : (k j : Key) (o : Option (Option (List ℕ))) (rest : List Item) → key_eq k j ≡ false → value_at (item_at k o ++ rest) j ≡ value_at rest j
item_value k j None rest e = refl
item_value k j (Some v) rest e = ap (λ (t : Bool). cond t (Some v) (value_at rest j)) e

item_here : (k : Key) (o : Option (Option (List ℕ))) (rest : List Item) → (value_at rest k ≡ None) → value_at (item_at k o ++ rest) k ≡ o
item_here k None rest h = h
item_here k (Some v) rest h = ap (λ (t : Bool). cond t (Some v) (value_at rest k)) (eq_itself k)

-- no key of a rising list is its bound
not_bound : (k : Key) (ks : List Key) → Rises (Some k) ks → has_key ks k ≡ false
not_bound k [] h = refl
not_bound k (x ∷ ks) h = ap (λ (t : Bool). cond t true (has_key ks k)) (above_eq x k h.0) ∙ not_bound k ks (rises_from (Some k) (Some x) ks (above_lower (Some k) x h.0) h.1)

kept_absent_by : (a b c : List Item) (x : Key) (ks : List Key) (k : Key) (t : Bool) → key_eq x k ≡ t → cond t true (has_key ks k) ≡ false → (has_key ks k ≡ false → value_at (kept_among a b c ks) k ≡ None) → value_at (item_at x (kept_at a b c x) ++ kept_among a b c ks) k ≡ None
kept_absent_by a b c x ks k true e g rest = cc
kept_absent_by a b c x ks k false e g rest = item_value x k (kept_at a b c x) (kept_among a b c ks) e ∙ rest g

kept_absent : (a b c : List Item) (ks : List Key) (k : Key) → has_key ks k ≡ false → value_at (kept_among a b c ks) k ≡ None
kept_absent a b c [] k h = refl
kept_absent a b c (x ∷ ks) k h = kept_absent_by a b c x ks k (key_eq x k) refl h (kept_absent a b c ks k)

-- a key that is the first one stands, and no other that is
kept_case_at : (a b c : List Item) (x k : Key) (ks : List Key) (t : Bool) → key_eq x k ≡ t → Rises (Some x) ks → (has_key ks k ≡ true → value_at (kept_among a b c ks) k ≡ kept_at a b c k) → cond t true (has_key ks k) ≡ true → value_at (item_at x (kept_at a b c x) ++ kept_among a b c ks) k ≡ kept_at a b c k
kept_case_at a b c x k ks true e h rest g =
    subst (λ (z : Key). value_at (item_at x (kept_at a b c x) ++ kept_among a b c ks) z ≡ kept_at a b c z) (eq_is x k e)
    (item_here x (kept_at a b c x) (kept_among a b c ks) (kept_absent a b c ks x (not_bound x ks h)))
kept_case_at a b c x k ks false e h rest g = item_value x k (kept_at a b c x) (kept_among a b c ks) e ∙ rest g

kept_there : (a b c : List Item) (low : Option Key) (ks : List Key) (k : Key) → Rises low ks → has_key ks k ≡ true → value_at (kept_among a b c ks) k ≡ kept_at a b c k
kept_there a b c low [] k h g = cc
kept_there a b c low (x ∷ ks) k h g = kept_case_at a b c x k ks (key_eq x k) refl h.1 (kept_there a b c (Some x) ks k h.1) g

by_presence : (a b c : List Item) (k : Key) (t : Bool) → Rises None (all_keys a b c) → has_key (all_keys a b c) k ≡ t → value_at (merged_items a b c) k ≡ kept_at a b c k
by_presence a b c k true h e = kept_there a b c None (all_keys a b c) k h e
by_presence a b c k false h e = kept_absent a b c (all_keys a b c) k e ∙ sym (nowhere_kept a b c k (nowhere a b c k e))

pub merged_values : (a b c : List Item) (k : Key) → Rises None (keys_of a) → Rises None (keys_of b) → Rises None (keys_of c) → value_at (merged_items a b c) k ≡ kept_at a b c k
merged_values a b c k p q r = by_presence a b c k (has_key (all_keys a b c) k) (keys_rise a b c p q r) refl

-- ---- which key both changed

changed_case : (t : Bool) (x k : Key) (o : Option Key) → cond t (Some x) o ≡ None → (t ≡ false) × (o ≡ None)
changed_case true x k o e = cc
changed_case false x k o e = (refl, e)

none_among_by : (a b c : List Item) (x : Key) (ks : List Key) (k : Key) (t : Bool) → key_eq x k ≡ t → both_changed_at a b c x ≡ false → cond t true (has_key ks k) ≡ true → (has_key ks k ≡ true → both_changed_at a b c k ≡ false) → both_changed_at a b c k ≡ false
none_among_by a b c x ks k true f e g rest = subst (λ (z : Key). both_changed_at a b c z ≡ false) (eq_is x k f) e
none_among_by a b c x ks k false f e g rest = rest g

none_among : (a b c : List Item) (ks : List Key) (k : Key) → changed_among a b c ks ≡ None → has_key ks k ≡ true → both_changed_at a b c k ≡ false
none_among a b c [] k e h = cc
none_among a b c (x ∷ ks) k e h =
    let parts = changed_case (both_changed_at a b c x) x k (changed_among a b c ks) e in
    none_among_by a b c x ks k (key_eq x k) refl parts.0 h (none_among a b c ks k parts.1)

none_changed_by : (a b c : List Item) (k : Key) (t : Bool) → has_key (all_keys a b c) k ≡ t → changed_among a b c (all_keys a b c) ≡ None → both_changed_at a b c k ≡ false
none_changed_by a b c k true h e = none_among a b c (all_keys a b c) k e h
none_changed_by a b c k false h e = nowhere_apart a b c k (nowhere a b c k h)

pub none_changed : (a b c : List Item) (k : Key) → changed_among a b c (all_keys a b c) ≡ None → both_changed_at a b c k ≡ false
none_changed a b c k e = none_changed_by a b c k (has_key (all_keys a b c) k) refl e

pub apart_none : (a b c : List Item) (ks : List Key) → ((k : Key) → both_changed_at a b c k ≡ false) → changed_among a b c ks ≡ None
apart_none a b c [] h = refl
apart_none a b c (x ∷ ks) h = ap (λ (t : Bool). cond t (Some x) (changed_among a b c ks)) (h x) ∙ apart_none a b c ks h

-- the first of rising keys is the least
pub record LeastAmong (a b c : List Item) (ks : List Key) (k : Key) : Type 0 where
  pub both : both_changed_at a b c k ≡ true
  pub stands : has_key ks k ≡ true
  pub least : (j : Key) → is_below j k ≡ true → has_key ks j ≡ true → both_changed_at a b c j ≡ false

least_here : (a b c : List Item) (x : Key) (ks : List Key) → Rises (Some x) ks → both_changed_at a b c x ≡ true → LeastAmong a b c (x ∷ ks) x
least_here a b c x ks h e = record {
  both = e;
  stands = ap (λ (t : Bool). cond t true (has_key ks x)) (eq_itself x);
  least = λ j l g. absurd (none_lower_than x ks j h l g);
} where
  none_lower_than : (low : Key) (xs : List Key) (j : Key) → Rises (Some low) xs → is_below j low ≡ true → has_key (low ∷ xs) j ≡ true → ⊥
  none_lower_than low [] j h l g = (let e : true ≡ false = sym g ∙ ap (λ (t : Bool). cond t true false) (above_eq low j l) in cc)
  none_lower_than low (y ∷ ys) j h l g =
      none_lower_than y ys j h.1 (below_below j low y l h.0) (sym (ap (λ (t : Bool). cond t true (has_key (y ∷ ys) j)) (above_eq low j l)) ∙ g)

least_later : (a b c : List Item) (x : Key) (ks : List Key) (k : Key) → both_changed_at a b c x ≡ false → LeastAmong a b c ks k → LeastAmong a b c (x ∷ ks) k
least_later a b c x ks k e m = record {
  both = m.both;
  stands = ap (cond (key_eq x k) true) m.stands ∙ either (key_eq x k);
  least = λ j l g. later j l (key_eq x j) refl g;
} where
  either : (t : Bool) → cond t true true ≡ true
  either true = refl
  either false = refl

  later : (j : Key) → is_below j k ≡ true → (t : Bool) → key_eq x j ≡ t → cond t true (has_key ks j) ≡ true → both_changed_at a b c j ≡ false
  later j l true f g = subst (λ (z : Key). both_changed_at a b c z ≡ false) (eq_is x j f) e
  later j l false f g = m.least j l g

some_same : {A : Type 0} (x y : A) → Some x ≡ Some y → x ≡ y
some_same x y e = cc

least_first : (a b c : List Item) (x : Key) (ks : List Key) (k : Key) (t : Bool) → both_changed_at a b c x ≡ t → Rises (Some x) ks → cond t (Some x) (changed_among a b c ks) ≡ Some k → (changed_among a b c ks ≡ Some k → LeastAmong a b c ks k) → LeastAmong a b c (x ∷ ks) k
least_first a b c x ks k true f h g rest = subst (LeastAmong a b c (x ∷ ks)) (some_same x k g) (least_here a b c x ks h f)
least_first a b c x ks k false f h g rest = least_later a b c x ks k f (rest g)

least_among : (a b c : List Item) (low : Option Key) (ks : List Key) (k : Key) → Rises low ks → changed_among a b c ks ≡ Some k → LeastAmong a b c ks k
least_among a b c low [] k h e = cc
least_among a b c low (x ∷ ks) k h e = least_first a b c x ks k (both_changed_at a b c x) refl h.1 e (least_among a b c (Some x) ks k h.1)

least_by : (a b c : List Item) (k j : Key) (t : Bool) → LeastAmong a b c (all_keys a b c) k → is_below j k ≡ true → has_key (all_keys a b c) j ≡ t → both_changed_at a b c j ≡ false
least_by a b c k j true m l h = m.least j l h
least_by a b c k j false m l h = nowhere_apart a b c j (nowhere a b c j h)

pub least_changed_is : (a b c : List Item) (k : Key) → Rises None (keys_of a) → Rises None (keys_of b) → Rises None (keys_of c) → changed_among a b c (all_keys a b c) ≡ Some k → (both_changed_at a b c k ≡ true) × ((j : Key) → is_below j k ≡ true → both_changed_at a b c j ≡ false)
least_changed_is a b c k p q r e =
    let m = least_among a b c None (all_keys a b c) k (keys_rise a b c p q r) e in
    (m.both, λ j l. least_by a b c k j (has_key (all_keys a b c) j) m l refl)

-- ---- what the walk gives

items_of_walk : (o : Option Key) (xs m : List Item) → or_changed o xs ≡ Ok m → xs ≡ m
items_of_walk None xs m e = cc
items_of_walk (Some k) xs m e = cc

pub walked_bucket : (a b c m : List Item) → walked a b c ≡ Ok m → IsBucket a → IsBucket b → IsBucket c → IsBucket m
walked_bucket a b c m e p q r = subst IsBucket (items_of_walk (least_changed a b c) (merged_items a b c) m e) (merged_bucket a b c p q r)
