-- The laws of merging.
use Rattle.std.proofs.Common.{◌≡◌, ℕ, Bool, true, false, cond, List, [], ◌∷◌, Option, Some, None, Result, Ok, Err, inl, inr, refl, sym, ◌∙◌, ap, subst}
use Rattle.std.specs.Prelude.{◌&&◌, ◌||◌, not, nat_eq, eqb}
use Rattle.std.specs.Option.{option_eq}
use Rattle.std.specs.Cmp.Lexicographic.{pointwise, nat_list_eq_equiv}
use Rattle.std.proofs.Common.{arith}
use Rattle.std.proofs.lemmas.Grind.{common_steps}
use Rattle.btree_family.specs.declared.key.Key.{Key}
use Rattle.btree_family.specs.declared.bucket.Item.{Item}
use Rattle.btree_family.specs.Keys.{key_eq, is_below}
use Rattle.btree_family.specs.Buckets.{BucketContents, keys_of}
use Rattle.btree_family.specs.Rising.{Rises}
use Rattle.bucket_merge.specs.declared.refusal.MergeRefusal.{MergeRefusal}
use Rattle.bucket_merge.specs.declared.refusal.MergeRefusal.TheVariants.{Link, EmptySide, FirstKey}
use Rattle.bucket_merge.specs.Maps.{value_at, differ, least_key}
use Rattle.bucket_merge.specs.Merge.{both_changed, kept_value, all_keys, merged_items, same_links, no_items, stands_below, first_key_left, unless_changed, merge_of}
use Rattle.bucket_merge.specs.Laws.{NoneChangedByBoth, MergedIsMap, LeastIsNamed, unless_refused, CommittedAloneIsKept, StoredAloneIsKept, ExchangedMergeAlike}
use Rattle.bucket_merge.specs.Kept.{inv_ok, inv_key}
use Rattle.btree_family.specs.OrderLaws.{order, eq_itself, below_eq}
use Rattle.bucket_merge.proofs.Joined.{above_lower, rises_from}
use Rattle.bucket_merge.proofs.Walks.{absent_below}
use Rattle.bucket_merge.proofs.Values.{merged_rises, merged_values, none_changed, apart_none, least_changed_is}

-- ---- a map decides its list

value_first : (x : Item) (xs : List Item) → value_at (x ∷ xs) x.key ≡ Some x.value
value_first x xs = ap (λ (t : Bool). cond t (Some x.value) (value_at xs x.key)) (eq_itself x.key)

value_other : (x : Item) (xs : List Item) (k : Key) → key_eq x.key k ≡ false → value_at (x ∷ xs) k ≡ value_at xs k
value_other x xs k e = ap (λ (t : Bool). cond t (Some x.value) (value_at xs k)) e

-- nothing stands below the first key
nothing_below : (x : Item) (xs : List Item) (k : Key) → Rises (Some x.key) (keys_of xs) → is_below k x.key ≡ true → value_at (x ∷ xs) k ≡ None
nothing_below x xs k h l = absent_below k (x ∷ xs) (l, h)

abbrev SameValues : List Item → List Item → Type 0
SameValues xs ys = (k : Key) → value_at xs k ≡ value_at ys k

tails_agree : (k0 : Key) (v w : Option (List ℕ)) (xs ys : List Item) → Rises (Some k0) (keys_of xs) → Rises (Some k0) (keys_of ys) → SameValues (record { key = k0; value = v } ∷ xs) (record { key = k0; value = w } ∷ ys) → SameValues xs ys
tails_agree k0 v w xs ys p q h k = elim (order k0 k) [
  | inl e ↦ subst (λ (z : Key). value_at xs z ≡ value_at ys z) e (absent_below k0 xs p ∙ sym (absent_below k0 ys q))
  | inr (inl l) ↦
      sym (value_other (record { key = k0; value = v }) xs k (below_eq k0 k l)) ∙ h k ∙ value_other (record { key = k0; value = w }) ys k (below_eq k0 k l)
  | inr (inr g) ↦
      absent_below k xs (rises_from (Some k) (Some k0) (keys_of xs) (above_lower (Some k) k0 g) p)
      ∙ sym (absent_below k ys (rises_from (Some k) (Some k0) (keys_of ys) (above_lower (Some k) k0 g) q))
]

some_same : {A : Type 0} (x y : A) → Some x ≡ Some y → x ≡ y
some_same x y e = cc

heads_agree : (k0 : Key) (v w : Option (List ℕ)) (xs ys : List Item) → SameValues (record { key = k0; value = v } ∷ xs) (record { key = k0; value = w } ∷ ys) → v ≡ w
heads_agree k0 v w xs ys h =
    some_same v w (sym (value_first (record { key = k0; value = v }) xs) ∙ h k0 ∙ value_first (record { key = k0; value = w }) ys)

same_lists : (low : Option Key) (xs ys : List Item) → Rises low (keys_of xs) → Rises low (keys_of ys) → SameValues xs ys → xs ≡ ys
same_lists low [] [] p q h = refl
same_lists low [] (y ∷ ys) p q h = (let b : None ≡ Some y.value = h y.key ∙ value_first y ys in cc)
same_lists low (x ∷ xs) [] p q h = (let b : None ≡ Some x.value = sym (h x.key) ∙ value_first x xs in cc)
same_lists low (x ∷ xs) (y ∷ ys) p q h = elim (order x.key y.key) [
  | inl e ↦
      let q' : Rises (Some x.key) (keys_of ys) = subst (λ (z : Key). Rises (Some z) (keys_of ys)) (sym e) q.1 in
      let h' : SameValues (x ∷ xs) (record { key = x.key; value = y.value } ∷ ys) = subst (λ (z : Key). SameValues (x ∷ xs) (record { key = z; value = y.value } ∷ ys)) (sym e) h in
      let v : x.value ≡ y.value = heads_agree x.key x.value y.value xs ys h' in
      let t : xs ≡ ys = same_lists (Some x.key) xs ys p.1 q' (tails_agree x.key x.value y.value xs ys p.1 q' h') in
      (λ i. record { key = e i; value = v i } ∷ t i)
  | inr (inl l) ↦ (let b : None ≡ Some x.value = sym (nothing_below y ys x.key q.1 l) ∙ sym (h x.key) ∙ value_first x xs in cc)
  | inr (inr g) ↦ (let b : None ≡ Some y.value = sym (nothing_below x xs y.key p.1 g) ∙ h y.key ∙ value_first y ys in cc)
]

-- ---- values that differ

and_parts : (p q : Bool) → (p && q) ≡ true → (p ≡ true) × (q ≡ true)
and_parts true q e = (refl, e)
and_parts false q e = cc

text_same : (a b : List ℕ) → pointwise eqb a b ≡ true → a ≡ b
text_same [] [] e = refl
text_same [] (y ∷ ys) e = cc
text_same (x ∷ xs) [] e = cc
text_same (x ∷ xs) (y ∷ ys) e =
    let p = and_parts (eqb x y) (pointwise eqb xs ys) e in
    let h : x ≡ y = grind (arith, common_steps) in
    (λ i. h i ∷ text_same xs ys p.1 i)

own_text : (a : List ℕ) → pointwise eqb a a ≡ true
own_text = nat_list_eq_equiv.refl

differ_same : (p : Option (Option (List ℕ))) → differ p p ≡ false
differ_same None = refl
differ_same (Some None) = refl
differ_same (Some (Some text)) = ap not (own_text text)

not_false : (t : Bool) → not t ≡ false → t ≡ true
not_false true e = refl
not_false false e = cc

same_case : (p q : Option (Option (List ℕ))) → differ p q ≡ false → p ≡ q
same_case None None e = refl
same_case None (Some q) e = cc
same_case (Some p) None e = cc
same_case (Some None) (Some None) e = refl
same_case (Some None) (Some (Some b)) e = cc
same_case (Some (Some a)) (Some None) e = cc
same_case (Some (Some a)) (Some (Some b)) e = ap (λ (z : List ℕ). Some (Some z)) (text_same a b (not_false (pointwise eqb a b) e))

-- ---- the rules

pub merged_is_map : MergedIsMap
merged_is_map a b c m s e =
    let i = inv_ok a b c m e in
    record {
      apart = λ k. none_changed a.items b.items c.items k i.0;
      rises = subst (λ (z : BucketContents). Rises None (keys_of z.items)) (sym i.1) (merged_rises a.items b.items c.items s.first s.second s.third);
      values = λ k. ap (λ (z : BucketContents). value_at z.items k) i.1 ∙ merged_values a.items b.items c.items k s.first s.second s.third;
      link = ap (λ (z : BucketContents). z.next) i.1;
    }

pub least_is_named : LeastIsNamed
least_is_named a b c k s e =
    let i = least_changed_is a.items b.items c.items k s.first s.second s.third (inv_key a b c k e) in
    record { both = i.0; least = i.1 }

-- with nothing changed by both, the rules are those that look at no single key
apart_rules : (a b c m : BucketContents) → NoneChangedByBoth a b c → record { items = merged_items a.items b.items c.items; next = b.next } ≡ m → merge_of a b c ≡ unless_refused a b c m
apart_rules a b c m h e =
    let none = apart_none a.items b.items c.items (all_keys a.items b.items c.items) h in
    (λ i. cond (same_links a b c) (cond (no_items b.items || no_items c.items) (Err EmptySide) (unless_changed (none i) (cond (first_key_left a.items b.items c.items) (Err FirstKey) (Ok (e i))))) (Err Link))

kept_committed : (p q : Option (Option (List ℕ))) → kept_value p q p ≡ q
kept_committed p q = ap (λ (t : Bool). cond t p q) (differ_same p)

kept_stored : (t : Bool) (p q : Option (Option (List ℕ))) → differ q p ≡ t → cond t q p ≡ q
kept_stored true p q e = refl
kept_stored false p q e = sym (same_case q p e)

apart_committed : (p q : Option (Option (List ℕ))) → both_changed p q p ≡ false
apart_committed p q = ap (λ (t : Bool). differ q p && t) (differ_same p) ∙ never (differ q p) where
  never : (t : Bool) → (t && false) ≡ false
  never true = refl
  never false = refl

apart_stored : (p q : Option (Option (List ℕ))) → both_changed p p q ≡ false
apart_stored p q = ap (λ (t : Bool). t && differ q p) (differ_same p)

pub committed_alone : CommittedAloneIsKept
committed_alone a b p q =
    let items : merged_items a.items b.items a.items ≡ b.items =
    same_lists None (merged_items a.items b.items a.items) b.items (merged_rises a.items b.items a.items p q p) q
    (λ k. merged_values a.items b.items a.items k p q p ∙ kept_committed (value_at a.items k) (value_at b.items k)) in
    apart_rules a b a b (λ k. apart_committed (value_at a.items k) (value_at b.items k)) (λ i. record { items = items i; next = b.next })

eq_link : (p q : Option ℕ) → option_eq nat_eq p q ≡ true → p ≡ q
eq_link None None e = refl
eq_link None (Some n) e = cc
eq_link (Some m) None e = cc
eq_link (Some m) (Some n) e = (let h : m ≡ n = grind (arith, common_steps) in ap Some h)

-- the link of the committed side is that of the stored one, or the links refuse
stored_link : (a c : BucketContents) (items : List Item) (t : Bool) → same_links a a c ≡ t → items ≡ c.items → cond t (cond (no_items a.items || no_items c.items) (Err EmptySide) (cond (first_key_left a.items a.items c.items) (Err FirstKey) (Ok (record { items = items; next = a.next })))) (Err Link) ≡ cond t (cond (no_items a.items || no_items c.items) (Err EmptySide) (cond (first_key_left a.items a.items c.items) (Err FirstKey) (Ok c))) (Err Link)
stored_link a c items true s e =
    let parts = and_parts (option_eq nat_eq a.next a.next) (option_eq nat_eq c.next a.next) s in
    let link : a.next ≡ c.next = sym (eq_link c.next a.next parts.1) in
    (λ i. cond (no_items a.items || no_items c.items) (Err EmptySide) (cond {A = Result BucketContents MergeRefusal} (first_key_left a.items a.items c.items) (Err FirstKey) (Ok (record { items = e i; next = link i }))))
stored_link a c items false s e = refl

pub stored_alone : StoredAloneIsKept
stored_alone a c p q =
    let items : merged_items a.items a.items c.items ≡ c.items =
    same_lists None (merged_items a.items a.items c.items) c.items (merged_rises a.items a.items c.items p p q) q
    (λ k. merged_values a.items a.items c.items k p p q ∙ kept_stored (differ (value_at c.items k) (value_at a.items k)) (value_at a.items k) (value_at c.items k) refl) in
    apart_rules a a c (record { items = merged_items a.items a.items c.items; next = a.next }) (λ k. apart_stored (value_at a.items k) (value_at c.items k)) refl
    ∙ stored_link a c (merged_items a.items a.items c.items) (same_links a a c) refl items

-- ---- the sides exchanged

exchanged_kept : (p q r : Option (Option (List ℕ))) (t u : Bool) → differ q p ≡ t → differ r p ≡ u → (t && u) ≡ false → cond u r q ≡ cond t q r
exchanged_kept p q r true true e f g = cc
exchanged_kept p q r true false e f g = refl
exchanged_kept p q r false true e f g = refl
exchanged_kept p q r false false e f g = same_case q p e ∙ sym (same_case r p f)

and_swap : (p q : Bool) → (p && q) ≡ (q && p)
and_swap true true = refl
and_swap true false = refl
and_swap false true = refl
and_swap false false = refl

or_swap : (p q : Bool) → (p || q) ≡ (q || p)
or_swap true true = refl
or_swap true false = refl
or_swap false true = refl
or_swap false false = refl

abbrev with_link : BucketContents → BucketContents → BucketContents → List Item → Option ℕ → Bool → Result BucketContents MergeRefusal
with_link a b c items next t = cond {A = Result BucketContents MergeRefusal} t (cond {A = Result BucketContents MergeRefusal} (no_items b.items || no_items c.items) (Err EmptySide) (cond {A = Result BucketContents MergeRefusal} (first_key_left a.items b.items c.items) (Err FirstKey) (Ok (record { items = items; next = next })))) (Err Link)

exchanged_link : (a b c : BucketContents) (items : List Item) (t : Bool) → same_links a b c ≡ t → with_link a b c items b.next t ≡ with_link a b c items c.next t
exchanged_link a b c items true s =
    let parts = and_parts (option_eq nat_eq b.next a.next) (option_eq nat_eq c.next a.next) s in
    let link : b.next ≡ c.next = eq_link b.next a.next parts.0 ∙ sym (eq_link c.next a.next parts.1) in
    ap (λ (next : Option ℕ). with_link a b c items next true) link
exchanged_link a b c items false s = refl

pub exchanged : ExchangedMergeAlike
exchanged a b c s h =
    let items : merged_items a.items b.items c.items ≡ merged_items a.items c.items b.items =
    same_lists None (merged_items a.items b.items c.items) (merged_items a.items c.items b.items)
    (merged_rises a.items b.items c.items s.first s.second s.third) (merged_rises a.items c.items b.items s.first s.third s.second)
    (λ k. merged_values a.items b.items c.items k s.first s.second s.third
    ∙ exchanged_kept (value_at a.items k) (value_at b.items k) (value_at c.items k) (differ (value_at b.items k) (value_at a.items k)) (differ (value_at c.items k) (value_at a.items k)) refl refl (h k)
    ∙ sym (merged_values a.items c.items b.items k s.first s.third s.second)) in
    let links = and_swap (option_eq nat_eq b.next a.next) (option_eq nat_eq c.next a.next) in
    let sides = or_swap (no_items b.items) (no_items c.items) in
    let firsts = or_swap (stands_below (least_key a.items) (least_key b.items)) (stands_below (least_key a.items) (least_key c.items)) in
    apart_rules a b c (record { items = merged_items a.items b.items c.items; next = b.next }) h refl
    ∙ exchanged_link a b c (merged_items a.items b.items c.items) (same_links a b c) refl
    ∙ (λ i. cond {A = Result BucketContents MergeRefusal} (links i) (cond {A = Result BucketContents MergeRefusal} (sides i) (Err EmptySide) (cond {A = Result BucketContents MergeRefusal} (firsts i) (Err FirstKey) (Ok (record { items = items i; next = c.next })))) (Err Link))
    ∙ sym (apart_rules a c b (record { items = merged_items a.items c.items b.items; next = c.next }) (λ k. and_swap (differ (value_at c.items k) (value_at a.items k)) (differ (value_at b.items k) (value_at a.items k)) ∙ h k) refl)
