-- A walk over three lists of items side by side.
use Rattle.std.proofs.Common.{◌≡◌, ◌+◌, ◌≤◌, ◌<◌, Bool, true, false, cond, List, [], ◌∷◌, ◌++◌, length, Option, Some, None, Result, Ok, Err, ◌⊎◌, inl, inr, refl, sym, ◌∙◌, ap, subst, arith, append_assoc, append-nil}
use Rattle.btree_family.specs.declared.key.Key.{Key}
use Rattle.btree_family.specs.declared.bucket.Item.{Item}
use Rattle.btree_family.specs.Keys.{key_eq, is_below}
use Rattle.btree_family.specs.Buckets.{keys_of}
use Rattle.btree_family.specs.Rising.{is_key_above, Rises}
use Rattle.bucket_merge.specs.declared.refusal.MergeRefusal.{MergeRefusal}
use Rattle.bucket_merge.specs.declared.refusal.MergeRefusal.TheVariants.{Key as BothChanged}
use Rattle.bucket_merge.specs.Maps.{value_at, differ, least_key, joined}
use Rattle.bucket_merge.specs.Merge.{both_changed, kept_value, both_changed_at, kept_at, all_keys, changed_among, item_at, kept_among}
use Rattle.bucket_merge.specs.Walk.{lesser_key, least_of_all, first_at, behind, value_in, kept_item, as_list, or_changed, walked}
use Rattle.btree_family.specs.OrderLaws.{order, eq_is, eq_itself, below_eq, above_eq, below_below}
use Rattle.bucket_merge.proofs.Joined.{IsLower, above_lower, rises_from, joined_lt, joined_eq, joined_gt, joined_rises, first_of, keys_behind, behind_first, behind_above, stepped}

-- ---- where a key stands in a list that begins with it or above it

-- the key is not above another, if there is one
abbrev pub AtLeast : Key → Option Key → Type 0
AtLeast k None = Unit {0}
AtLeast k (Some other) = (k ≡ other) ⊎ (is_below k other ≡ true)

lesser_case : (k x y : Key) (t : Bool) → is_below y x ≡ t → AtLeast k (Some (cond t y x)) → AtLeast k (Some x) × AtLeast k (Some y)
lesser_case k x y true e (inl s) = (inr (subst (λ (z : Key). is_below z x ≡ true) (sym s) e), inl s)
lesser_case k x y true e (inr l) = (inr (below_below k y x l e), inr l)
lesser_case k x y false e h = (
  h,
  elim (order x y) [
    | inl s ↦ subst (λ (z : Key). AtLeast k (Some z)) s h
    | inr (inl l) ↦ elim h [
      | inl s ↦ inr (subst (λ (z : Key). is_below z y ≡ true) (sym s) l)
      | inr g ↦ inr (below_below k x y g l)
    ]
    | inr (inr g) ↦ (let b : true ≡ false = sym g ∙ e in cc)
  ],
)

at_least_both : (k : Key) (p q : Option Key) → AtLeast k (lesser_key p q) → AtLeast k p × AtLeast k q
at_least_both k None q h = (tt, h)
at_least_both k (Some x) None h = (h, tt)
at_least_both k (Some x) (Some y) h = lesser_case k x y (is_below y x) refl h

at_least : (k : Key) (o : Option Key) → o ≡ Some k → AtLeast k o
at_least k o e = subst (AtLeast k) (sym e) (inl refl)

-- the bound is below a key, if there is one
abbrev pub IsAbove : Option Key → Option Key → Type 0
IsAbove low None = Unit {0}
IsAbove low (Some k) = is_key_above low k ≡ true

above_case : (low : Option Key) (x y : Key) (t : Bool) → is_key_above low x ≡ true → is_key_above low y ≡ true → IsAbove low (Some (cond t y x))
above_case low x y true p q = q
above_case low x y false p q = p

lesser_above : (low : Option Key) (p q : Option Key) → IsAbove low p → IsAbove low q → IsAbove low (lesser_key p q)
lesser_above low None q h g = g
lesser_above low (Some x) None h g = h
lesser_above low (Some x) (Some y) h g = above_case low x y (is_below y x) h g

first_above : (low : Option Key) (ks : List Key) → Rises low ks → IsAbove low (first_of ks)
first_above low [] h = tt
first_above low (k ∷ ks) h = h.0

-- all keys are above this one, or it is the first one
pub data From (k : Key) (ks : List Key) : Type 0 where
  Past : Rises (Some k) ks → From k ks
  Here : (rest : List Key) → ks ≡ k ∷ rest → Rises (Some k) rest → From k ks

from_least : (k : Key) (low : Option Key) (ks : List Key) → Rises low ks → AtLeast k (first_of ks) → From k ks
from_least k low [] h a = Past tt
from_least k low (x ∷ ks) h (inl e) = Here ks (ap (λ (z : Key). z ∷ ks) (sym e)) (subst (λ (z : Key). Rises (Some z) ks) (sym e) h.1)
from_least k low (x ∷ ks) h (inr l) = Past (l, h.1)

from_behind : (k : Key) (ks : List Key) → From k ks → Rises (Some k) (keys_behind ks k)
from_behind k ks (Past h) = subst (Rises (Some k)) (sym (behind_above k ks h)) h
from_behind k ks (Here rest e h) = subst (λ (zs : List Key). Rises (Some k) (keys_behind zs k)) (sym e) (subst (Rises (Some k)) (sym (behind_first k rest)) h)

-- ---- the first key of the join of two lists

joined_past : (k : Key) (ys rest : List Key) → Rises (Some k) ys → joined ys (k ∷ rest) ≡ k ∷ joined ys rest
joined_past k [] rest h = refl
joined_past k (y ∷ ys) rest h = joined_gt y k ys rest h.0

behind_joined : (k : Key) (ys zs : List Key) → From k ys → From k zs → keys_behind (joined ys zs) k ≡ joined (keys_behind ys k) (keys_behind zs k)
behind_joined k ys zs (Past p) (Past q) =
    behind_above k (joined ys zs) (joined_rises ys (Some k) zs p q)
    ∙ ap (λ (xs : List Key). joined xs zs) (sym (behind_above k ys p))
    ∙ ap (joined (keys_behind ys k)) (sym (behind_above k zs q))
behind_joined k ys zs (Here rest e p) (Past q) =
    subst (λ (xs : List Key). keys_behind (joined xs zs) k ≡ joined (keys_behind xs k) (keys_behind zs k)) (sym e)
    (ap (λ (xs : List Key). keys_behind xs k) (joined_lt k rest zs q)
    ∙ behind_first k (joined rest zs)
    ∙ ap (λ (xs : List Key). joined xs zs) (sym (behind_first k rest))
    ∙ ap (joined (keys_behind (k ∷ rest) k)) (sym (behind_above k zs q)))
behind_joined k ys zs (Past p) (Here rest e q) =
    subst (λ (xs : List Key). keys_behind (joined ys xs) k ≡ joined (keys_behind ys k) (keys_behind xs k)) (sym e)
    (ap (λ (xs : List Key). keys_behind xs k) (joined_past k ys rest p)
    ∙ behind_first k (joined ys rest)
    ∙ ap (λ (xs : List Key). joined xs rest) (sym (behind_above k ys p))
    ∙ ap (joined (keys_behind ys k)) (sym (behind_first k rest)))
behind_joined k ys zs (Here rest e p) (Here more f q) =
    subst (λ (xs : List Key). keys_behind (joined xs zs) k ≡ joined (keys_behind xs k) (keys_behind zs k)) (sym e)
    (subst (λ (xs : List Key). keys_behind (joined (k ∷ rest) xs) k ≡ joined (keys_behind (k ∷ rest) k) (keys_behind xs k)) (sym f)
    (ap (λ (xs : List Key). keys_behind xs k) (joined_eq k rest more q)
    ∙ behind_first k (joined rest more)
    ∙ ap (λ (xs : List Key). joined xs more) (sym (behind_first k rest))
    ∙ ap (joined (keys_behind (k ∷ rest) k)) (sym (behind_first k more))))

first_by : (low : Option Key) (ys zs : List Key) (o : Option Key) → Rises low ys → Rises low zs → lesser_key (first_of ys) (first_of zs) ≡ o → first_of (joined ys zs) ≡ o
first_by low ys zs (Some k) p q e = ap first_of (stepped low ys zs k p q e).is
first_by low [] [] None p q e = refl
first_by low (y ∷ ys) [] None p q e = cc
first_by low [] (z ∷ zs) None p q e = cc
first_by low (y ∷ ys) (z ∷ zs) None p q e = cc

-- the least key stands first, and behind it the keys of what is left
pub record SteppedAll (low : Option Key) (xs ys zs : List Key) (k : Key) : Type 0 where
  pub is : joined xs (joined ys zs) ≡ k ∷ joined (keys_behind xs k) (joined (keys_behind ys k) (keys_behind zs k))
  pub first_from : From k xs
  pub second_from : From k ys
  pub third_from : From k zs

stepped_all : (low : Option Key) (xs ys zs : List Key) (k : Key) → Rises low xs → Rises low ys → Rises low zs → lesser_key (first_of xs) (lesser_key (first_of ys) (first_of zs)) ≡ Some k → SteppedAll low xs ys zs k
stepped_all low xs ys zs k p q r e =
    let first = first_by low ys zs (lesser_key (first_of ys) (first_of zs)) q r refl in
    let step = stepped low xs (joined ys zs) k p (joined_rises ys low zs q r) (ap (lesser_key (first_of xs)) first ∙ e) in
    let one = at_least_both k (first_of xs) (lesser_key (first_of ys) (first_of zs)) (at_least k (lesser_key (first_of xs) (lesser_key (first_of ys) (first_of zs))) e) in
    let two = at_least_both k (first_of ys) (first_of zs) one.1 in
    let fy : From k ys = from_least k low ys q two.0 in
    let fz : From k zs = from_least k low zs r two.1 in
    record {
      is = step.is ∙ ap (λ (ks : List Key). k ∷ joined (keys_behind xs k) ks) (behind_joined k ys zs fy fz);
      first_from = from_least k low xs p one.0;
      second_from = fy;
      third_from = fz;
    }

-- ---- items

pub keys_first : (items : List Item) → first_of (keys_of items) ≡ least_key items
keys_first [] = refl
keys_first (item ∷ items) = refl

keys_cond : (t : Bool) (item : Item) (items : List Item) → keys_of (cond t items (item ∷ items)) ≡ cond t (keys_of items) (item.key ∷ keys_of items)
keys_cond true item items = refl
keys_cond false item items = refl

pub keys_of_behind : (items : List Item) (k : Key) → keys_of (behind items k) ≡ keys_behind (keys_of items) k
keys_of_behind [] k = refl
keys_of_behind (item ∷ items) k = keys_cond (key_eq item.key k) item items

-- nothing stands at a key below all
pub absent_below : (k : Key) (items : List Item) → Rises (Some k) (keys_of items) → value_at items k ≡ None
absent_below k [] h = refl
absent_below k (item ∷ items) h =
    ap (λ (t : Bool). cond t (Some item.value) (value_at items k)) (above_eq item.key k h.0)
    ∙ absent_below k items (rises_from (Some k) (Some item.key) (keys_of items) (above_lower (Some k) item.key h.0) h.1)

first_cond : (t : Bool) (item : Item) (items : List Item) (k : Key) → key_eq item.key k ≡ t → From k (item.key ∷ keys_of items) → value_in (cond t (Some item) None) ≡ cond t (Some item.value) (value_at items k)
first_cond true item items k e f = refl
first_cond false item items k e (Past h) = sym (absent_below k items (rises_from (Some k) (Some item.key) (keys_of items) (above_lower (Some k) item.key h.0) h.1))
first_cond false item items k e (Here rest is h) = (let same : item.key ≡ k = cc in let b : true ≡ false = sym (eq_itself k) ∙ ap (λ (z : Key). key_eq z k) (sym same) ∙ e in cc)

pub first_value : (items : List Item) (k : Key) → From k (keys_of items) → value_in (first_at items k) ≡ value_at items k
first_value [] k f = refl
first_value (item ∷ items) k f = first_cond (key_eq item.key k) item items k refl f

-- what stands above the key is the same behind it
behind_cond : (t : Bool) (item : Item) (items : List Item) (k j : Key) → key_eq item.key k ≡ t → is_below k j ≡ true → value_at (cond t items (item ∷ items)) j ≡ value_at (item ∷ items) j
behind_cond true item items k j e l =
    let other : key_eq item.key j ≡ false = ap (λ (z : Key). key_eq z j) (eq_is item.key k e) ∙ below_eq k j l in
    ap (λ (t : Bool). cond t (Some item.value) (value_at items j)) (sym other)
behind_cond false item items k j e l = refl

pub behind_value : (items : List Item) (k j : Key) → is_below k j ≡ true → value_at (behind items k) j ≡ value_at items j
behind_value [] k j l = refl
behind_value (item ∷ items) k j l = behind_cond (key_eq item.key k) item items k j refl l

item_cond : (t : Bool) (item : Item) (k : Key) → key_eq item.key k ≡ t → as_list (cond t (Some item) None) ≡ item_at k (value_in (cond t (Some item) None))
item_cond true item k e = ap (λ (z : Key). record { key = z; value = item.value } ∷ []) (eq_is item.key k e)
item_cond false item k e = refl

first_item : (items : List Item) (k : Key) → as_list (first_at items k) ≡ item_at k (value_in (first_at items k))
first_item [] k = refl
first_item (item ∷ items) k = item_cond (key_eq item.key k) item k refl

kept_cond : (t : Bool) (k : Key) (p q : Option Item) → as_list p ≡ item_at k (value_in p) → as_list q ≡ item_at k (value_in q) → as_list (cond t p q) ≡ item_at k (cond t (value_in p) (value_in q))
kept_cond true k p q e f = e
kept_cond false k p q e f = f

-- ---- what is left

-- keys above this one see no change
changed_behind : (a b c : List Item) (k : Key) (low : Option Key) (ks : List Key) → IsLower (Some k) low → Rises low ks → changed_among (behind a k) (behind b k) (behind c k) ks ≡ changed_among a b c ks
changed_behind a b c k low [] l h = refl
changed_behind a b c k low (j ∷ ks) l h =
    let above : is_below k j ≡ true = l j h.0 in
    let ea = behind_value a k j above in
    let eb = behind_value b k j above in
    let ec = behind_value c k j above in
    let rest = changed_behind a b c k (Some j) ks (above_lower (Some k) j above) h.1 in
    (λ i. cond (both_changed (ea i) (eb i) (ec i)) (Some j) (rest i))

kept_behind : (a b c : List Item) (k : Key) (low : Option Key) (ks : List Key) → IsLower (Some k) low → Rises low ks → kept_among (behind a k) (behind b k) (behind c k) ks ≡ kept_among a b c ks
kept_behind a b c k low [] l h = refl
kept_behind a b c k low (j ∷ ks) l h =
    let above : is_below k j ≡ true = l j h.0 in
    let ea = behind_value a k j above in
    let eb = behind_value b k j above in
    let ec = behind_value c k j above in
    let rest = kept_behind a b c k (Some j) ks (above_lower (Some k) j above) h.1 in
    (λ i. item_at j (kept_value (ea i) (eb i) (ec i)) ++ rest i)

-- items, and behind them those of an answer
abbrev pub behind_items : List Item → Result (List Item) MergeRefusal → Result (List Item) MergeRefusal
behind_items items (Ok more) = Ok (items ++ more)
behind_items items (Err e) = Err e

behind_twice : (xs ys : List Item) (r : Result (List Item) MergeRefusal) → behind_items xs (behind_items ys r) ≡ behind_items (xs ++ ys) r
behind_twice xs ys (Ok zs) = ap Ok (sym (append_assoc xs ys zs))
behind_twice xs ys (Err e) = refl

one_front : (o : Option Key) (xs ys : List Item) → or_changed o (xs ++ ys) ≡ behind_items xs (or_changed o ys)
one_front None xs ys = refl
one_front (Some k) xs ys = refl

-- what the walk has merged, and what is left of the three lists, give the whole
pub record Walked (a0 b0 c0 a b c m : List Item) : Type 0 where
  pub low : Option Key
  pub first : Rises low (keys_of a)
  pub second : Rises low (keys_of b)
  pub third : Rises low (keys_of c)
  pub whole : walked a0 b0 c0 ≡ behind_items m (walked a b c)

own : (r : Result (List Item) MergeRefusal) → r ≡ behind_items [] r
own (Ok xs) = refl
own (Err e) = refl

pub walked_start : (a b c : List Item) → Rises None (keys_of a) → Rises None (keys_of b) → Rises None (keys_of c) → Walked a b c a b c []
walked_start a b c p q r = record { low = None; first = p; second = q; third = r; whole = own (walked a b c) }

least_none : (a b c : List Item) → least_of_all a b c ≡ None → (a ≡ []) × (b ≡ []) × (c ≡ [])
least_none [] [] [] e = (refl, refl, refl)
least_none (x ∷ xs) [] [] e = cc
least_none [] (y ∷ ys) [] e = cc
least_none [] [] (z ∷ zs) e = cc
least_none (x ∷ xs) (y ∷ ys) [] e = cc
least_none (x ∷ xs) [] (z ∷ zs) e = cc
least_none [] (y ∷ ys) (z ∷ zs) e = cc
least_none (x ∷ xs) (y ∷ ys) (z ∷ zs) e = cc

pub walked_end : (a0 b0 c0 a b c m : List Item) → Walked a0 b0 c0 a b c m → least_of_all a b c ≡ None → walked a0 b0 c0 ≡ Ok m
walked_end a0 b0 c0 a b c m w e =
    let n = least_none a b c e in
    w.whole ∙ (λ i. behind_items m (walked (n.0 i) (n.1 i) (n.2 i))) ∙ ap Ok (append-nil m)

-- the step of three lists of items
items_step : (low : Option Key) (a b c : List Item) (k : Key) → Rises low (keys_of a) → Rises low (keys_of b) → Rises low (keys_of c) → least_of_all a b c ≡ Some k → SteppedAll low (keys_of a) (keys_of b) (keys_of c) k
items_step low a b c k p q r e =
    stepped_all low (keys_of a) (keys_of b) (keys_of c) k p q r
    ((λ i. lesser_key (keys_first a i) (lesser_key (keys_first b i) (keys_first c i))) ∙ e)

values_of : (a b c : List Item) (k : Key) (low : Option Key) → SteppedAll low (keys_of a) (keys_of b) (keys_of c) k → both_changed (value_in (first_at a k)) (value_in (first_at b k)) (value_in (first_at c k)) ≡ both_changed_at a b c k
values_of a b c k low s =
    let ea = first_value a k s.first_from in
    let eb = first_value b k s.second_from in
    let ec = first_value c k s.third_from in
    (λ i. both_changed (ea i) (eb i) (ec i))

pub walked_stop : (a0 b0 c0 a b c m : List Item) (k : Key) → Walked a0 b0 c0 a b c m → least_of_all a b c ≡ Some k → both_changed (value_in (first_at a k)) (value_in (first_at b k)) (value_in (first_at c k)) ≡ true → walked a0 b0 c0 ≡ Err (BothChanged k)
walked_stop a0 b0 c0 a b c m k w e d =
    let s = items_step w.low a b c k w.first w.second w.third e in
    let tail : List Key = joined (keys_behind (keys_of a) k) (joined (keys_behind (keys_of b) k) (keys_behind (keys_of c) k)) in
    let both : both_changed_at a b c k ≡ true = sym (values_of a b c k w.low s) ∙ d in
    w.whole
    ∙ ap (λ (ks : List Key). behind_items m (or_changed (changed_among a b c ks) (kept_among a b c ks))) s.is
    ∙ ap (λ (t : Bool). behind_items m (or_changed (cond t (Some k) (changed_among a b c tail)) (kept_among a b c (k ∷ tail)))) both

-- the keys of what is left
left_keys : (a b c : List Item) (k : Key) → joined (keys_behind (keys_of a) k) (joined (keys_behind (keys_of b) k) (keys_behind (keys_of c) k)) ≡ all_keys (behind a k) (behind b k) (behind c k)
left_keys a b c k =
    let ea = keys_of_behind a k in
    let eb = keys_of_behind b k in
    let ec = keys_of_behind c k in
    (λ i. joined (sym ea i) (joined (sym eb i) (sym ec i)))

pub walked_on : (a0 b0 c0 a b c m : List Item) (k : Key) → Walked a0 b0 c0 a b c m → least_of_all a b c ≡ Some k → both_changed (value_in (first_at a k)) (value_in (first_at b k)) (value_in (first_at c k)) ≡ false → Walked a0 b0 c0 (behind a k) (behind b k) (behind c k) (m ++ as_list (kept_item (first_at a k) (first_at b k) (first_at c k)))
walked_on a0 b0 c0 a b c m k w e d =
    let s = items_step w.low a b c k w.first w.second w.third e in
    let tail : List Key = joined (keys_behind (keys_of a) k) (joined (keys_behind (keys_of b) k) (keys_behind (keys_of c) k)) in
    let ra = from_behind k (keys_of a) s.first_from in
    let rb = from_behind k (keys_of b) s.second_from in
    let rc = from_behind k (keys_of c) s.third_from in
    let rises : Rises (Some k) tail = joined_rises (keys_behind (keys_of a) k) (Some k) (joined (keys_behind (keys_of b) k) (keys_behind (keys_of c) k)) ra (joined_rises (keys_behind (keys_of b) k) (Some k) (keys_behind (keys_of c) k) rb rc) in
    let apart : both_changed_at a b c k ≡ false = sym (values_of a b c k w.low s) ∙ d in
    let ea = first_value a k s.first_from in
    let eb = first_value b k s.second_from in
    let ec = first_value c k s.third_from in
    let here : List Item = as_list (kept_item (first_at a k) (first_at b k) (first_at c k)) in
    let kept : here ≡ item_at k (kept_at a b c k) =
    kept_cond (differ (value_in (first_at c k)) (value_in (first_at a k))) k (first_at c k) (first_at b k) (first_item c k) (first_item b k)
    ∙ (λ i. item_at k (kept_value (ea i) (eb i) (ec i))) in
    let a' : List Item = behind a k in
    let b' : List Item = behind b k in
    let c' : List Item = behind c k in
    let changed = sym (changed_behind a b c k (Some k) tail (λ j h. h) rises) in
    let items = sym (kept_behind a b c k (Some k) tail (λ j h. h) rises) in
    let left = left_keys a b c k in
    let one : walked a b c ≡ or_changed (changed_among a b c tail) (item_at k (kept_at a b c k) ++ kept_among a b c tail) =
    ap (λ (ks : List Key). or_changed (changed_among a b c ks) (kept_among a b c ks)) s.is
    ∙ ap (λ (t : Bool). or_changed (cond t (Some k) (changed_among a b c tail)) (kept_among a b c (k ∷ tail))) apart in
    let two : walked a b c ≡ behind_items here (walked a' b' c') =
    one
    ∙ one_front (changed_among a b c tail) (item_at k (kept_at a b c k)) (kept_among a b c tail)
    ∙ (λ i. behind_items (sym kept i) (or_changed (changed i) (items i)))
    ∙ ap (λ (ks : List Key). behind_items here (or_changed (changed_among a' b' c' ks) (kept_among a' b' c' ks))) left in
    record {
      low = Some k;
      first = subst (Rises (Some k)) (sym (keys_of_behind a k)) ra;
      second = subst (Rises (Some k)) (sym (keys_of_behind b k)) rb;
      third = subst (Rises (Some k)) (sym (keys_of_behind c k)) rc;
      whole = w.whole ∙ ap (behind_items m) two ∙ behind_twice m here (walked a' b' c');
    }

-- ---- it ends

lesser_one : (k : Key) (x y : Key) (t : Bool) → Some (cond t y x) ≡ Some k → (x ≡ k) ⊎ (y ≡ k)
lesser_one k x y true e = inr cc
lesser_one k x y false e = inl cc

-- one of the two is the lesser one
lesser_is : (k : Key) (p q : Option Key) → lesser_key p q ≡ Some k → (p ≡ Some k) ⊎ (q ≡ Some k)
lesser_is k None q e = inr e
lesser_is k (Some x) None e = inl e
lesser_is k (Some x) (Some y) e = elim (lesser_one k x y (is_below y x) e) [
  | inl s ↦ inl (ap Some s)
  | inr s ↦ inr (ap Some s)
]

length_cond : (t : Bool) (item : Item) (items : List Item) → length (cond t items (item ∷ items)) ≤ length (item ∷ items)
length_cond true item items = omega arith
length_cond false item items = omega arith

behind_short : (items : List Item) (k : Key) → length (behind items k) ≤ length items
behind_short [] k = omega arith
behind_short (item ∷ items) k = length_cond (key_eq item.key k) item items

behind_shorter : (items : List Item) (k : Key) → least_key items ≡ Some k → length (behind items k) < length items
behind_shorter [] k e = cc
behind_shorter (item ∷ items) k e =
    let same : item.key ≡ k = cc in
    let there : key_eq item.key k ≡ true = ap (λ (z : Key). key_eq z k) same ∙ eq_itself k in
    let is : length (behind (item ∷ items) k) ≡ length items = ap (λ (t : Bool). length (cond t items (item ∷ items))) there in
    omega (arith, is)

pub least_shrinks : (k : Key) (a b c : List Item) → least_of_all a b c ≡ Some k → length (behind a k) + length (behind b k) + length (behind c k) < length a + length b + length c
least_shrinks k a b c e =
    let sa = behind_short a k in
    let sb = behind_short b k in
    let sc = behind_short c k in
    elim (lesser_is k (least_key a) (lesser_key (least_key b) (least_key c)) e) [
      | inl h ↦ (let l = behind_shorter a k h in omega (arith, sa, sb, sc, l))
      | inr h ↦ elim (lesser_is k (least_key b) (least_key c) h) [
        | inl g ↦ (let l = behind_shorter b k g in omega (arith, sa, sb, sc, l))
        | inr g ↦ (let l = behind_shorter c k g in omega (arith, sa, sb, sc, l))
      ]
    ]

-- ---- the same, over what calls gave

transport4 : (a0 b0 c0 : List Item) {a b c m a' b' c' m' : List Item} → a ≡ a' → b ≡ b' → c ≡ c' → m ≡ m' → Walked a0 b0 c0 a b c m → Walked a0 b0 c0 a' b' c' m'
transport4 a0 b0 c0 {a} {b} {c} {m} {a'} {b'} {c'} {m'} ea eb ec em w =
    subst (λ (z : List Item). Walked a0 b0 c0 a' b' c' z) em
    (subst (λ (z : List Item). Walked a0 b0 c0 a' b' z m) ec
    (subst (λ (z : List Item). Walked a0 b0 c0 a' z c m) eb
    (subst (λ (z : List Item). Walked a0 b0 c0 z b c m) ea w)))

pub walked_refused : (a0 b0 c0 a b c m : List Item) (k found : Key) (p q r : Option Item) → Walked a0 b0 c0 a b c m → least_of_all a b c ≡ Some k → p ≡ first_at a k → q ≡ first_at b k → r ≡ first_at c k → both_changed (value_in p) (value_in q) (value_in r) ≡ true → found ≡ k → walked a0 b0 c0 ≡ Err (BothChanged found)
walked_refused a0 b0 c0 a b c m k found p q r w e ep eq er d same =
    walked_stop a0 b0 c0 a b c m k w e ((λ i. both_changed (value_in (sym ep i)) (value_in (sym eq i)) (value_in (sym er i))) ∙ d)
    ∙ ap (λ (z : Key). Err (BothChanged z)) (sym same)

pub walked_next : (a0 b0 c0 a b c m a' b' c' m' : List Item) (k : Key) (p q r : Option Item) → Walked a0 b0 c0 a b c m → least_of_all a b c ≡ Some k → p ≡ first_at a k → q ≡ first_at b k → r ≡ first_at c k → a' ≡ behind a k → b' ≡ behind b k → c' ≡ behind c k → both_changed (value_in p) (value_in q) (value_in r) ≡ false → m' ≡ m ++ as_list (kept_item p q r) → Walked a0 b0 c0 a' b' c' m'
walked_next a0 b0 c0 a b c m a' b' c' m' k p q r w e ep eq er ea eb ec d em =
    let both : both_changed (value_in (first_at a k)) (value_in (first_at b k)) (value_in (first_at c k)) ≡ false = (λ i. both_changed (value_in (sym ep i)) (value_in (sym eq i)) (value_in (sym er i))) ∙ d in
    let items : m' ≡ m ++ as_list (kept_item (first_at a k) (first_at b k) (first_at c k)) = em ∙ (λ i. m ++ as_list (kept_item (ep i) (eq i) (er i))) in
    let all = walked_on a0 b0 c0 a b c m k w e both in
    transport4 a0 b0 c0 (sym ea) (sym eb) (sym ec) (sym items) all
