-- Keys that rise, and the keys of two lists in one.
use Rattle.std.proofs.Common.{◌≡◌, Bool, true, cond, List, [], ◌∷◌, ◌++◌, filter, Option, Some, None, inl, inr, refl, sym, ◌∙◌, ap, subst}
use Rattle.btree_family.specs.declared.key.Key.{Key}
use Rattle.btree_family.specs.Keys.{key_eq, is_below}
use Rattle.btree_family.specs.Rising.{is_key_above, Rises}
use Rattle.bucket_merge.specs.Maps.{joined}
use Rattle.bucket_merge.specs.Walk.{lesser_key}
use Rattle.btree_family.specs.OrderLaws.{order, below_itself, eq_itself, below_not, above_eq, below_below}

-- the first bound is not above the second
abbrev pub IsLower : Option Key → Option Key → Type 0
IsLower low bound = (key : Key) → is_key_above bound key ≡ true → is_key_above low key ≡ true

pub none_lower : (bound : Option Key) → IsLower None bound
none_lower bound key h = refl

pub same_lower : (bound : Option Key) → IsLower bound bound
same_lower bound key h = h

pub above_lower : (low : Option Key) (k : Key) → is_key_above low k ≡ true → IsLower low (Some k)
above_lower None k h key g = refl
above_lower (Some l) k h key g = below_below l k key h g

pub rises_from : (low bound : Option Key) (ks : List Key) → IsLower low bound → Rises bound ks → Rises low ks
rises_from low bound [] l h = tt
rises_from low bound (k ∷ ks) l h = (l k h.0, h.1)

-- no key of a rising list is below its bound
none_below : (k : Key) (ks : List Key) → Rises (Some k) ks → filter (λ other. is_below other k) ks ≡ []
none_below k [] h = refl
none_below k (x ∷ ks) h =
    ap (λ (t : Bool). cond t (x ∷ filter (λ other. is_below other k) ks) (filter (λ other. is_below other k) ks)) (below_not k x h.0)
    ∙ none_below k ks (rises_from (Some k) (Some x) ks (above_lower (Some k) x h.0) h.1)

all_above : (k : Key) (ks : List Key) → Rises (Some k) ks → filter (λ other. is_below k other) ks ≡ ks
all_above k [] h = refl
all_above k (x ∷ ks) h =
    ap (λ (t : Bool). cond t (x ∷ filter (λ other. is_below k other) ks) (filter (λ other. is_below k other) ks)) h.0
    ∙ ap (λ (xs : List Key). x ∷ xs) (all_above k ks (rises_from (Some k) (Some x) ks (above_lower (Some k) x h.0) h.1))

-- ---- the first key of two lists

pub joined_none : (xs : List Key) → joined xs [] ≡ xs
joined_none [] = refl
joined_none (x ∷ xs) = ap (λ (ys : List Key). x ∷ ys) (joined_none xs)

pub joined_lt : (x : Key) (xs ys : List Key) → Rises (Some x) ys → joined (x ∷ xs) ys ≡ x ∷ joined xs ys
joined_lt x xs ys h =
    ap (λ (zs : List Key). zs ++ x ∷ joined xs (filter (λ other. is_below x other) ys)) (none_below x ys h)
    ∙ ap (λ (zs : List Key). x ∷ joined xs zs) (all_above x ys h)

pub joined_eq : (x : Key) (xs ys : List Key) → Rises (Some x) ys → joined (x ∷ xs) (x ∷ ys) ≡ x ∷ joined xs ys
joined_eq x xs ys h =
    ap (λ (t : Bool). cond t (x ∷ filter (λ other. is_below other x) ys) (filter (λ other. is_below other x) ys) ++ x ∷ joined xs (filter (λ other. is_below x other) (x ∷ ys))) (below_itself x)
    ∙ ap (λ (t : Bool). filter (λ other. is_below other x) ys ++ x ∷ joined xs (cond t (x ∷ filter (λ other. is_below x other) ys) (filter (λ other. is_below x other) ys))) (below_itself x)
    ∙ joined_lt x xs ys h

pub joined_gt : (x y : Key) (xs ys : List Key) → is_below y x ≡ true → joined (x ∷ xs) (y ∷ ys) ≡ y ∷ joined (x ∷ xs) ys
joined_gt x y xs ys h =
    ap (λ (t : Bool). cond t (y ∷ filter (λ other. is_below other x) ys) (filter (λ other. is_below other x) ys) ++ x ∷ joined xs (filter (λ other. is_below x other) (y ∷ ys))) h
    ∙ ap (λ (t : Bool). y ∷ (filter (λ other. is_below other x) ys ++ x ∷ joined xs (cond t (y ∷ filter (λ other. is_below x other) ys) (filter (λ other. is_below x other) ys)))) (below_not y x h)

-- ---- both rise, so does their join

-- what is known of the keys behind the first one of the first list
abbrev JoinRises : List Key → Type 0
JoinRises xs = (low : Option Key) (ys : List Key) → Rises low xs → Rises low ys → Rises low (joined xs ys)

rises_with : (x : Key) (xs : List Key) → JoinRises xs → (low : Option Key) (ys : List Key) → Rises low (x ∷ xs) → Rises low ys → Rises low (joined (x ∷ xs) ys)
rises_with x xs rest low [] p q = subst (Rises low) (sym (joined_none (x ∷ xs))) p
rises_with x xs rest low (y ∷ ys) p q = elim (order x y) [
  | inl e ↦
      let q' : Rises low (x ∷ ys) = subst (λ (k : Key). Rises low (k ∷ ys)) (sym e) q in
      let all : Rises low (x ∷ joined xs ys) = (p.0, rest (Some x) ys p.1 q'.1) in
      subst (λ (k : Key). Rises low (joined (x ∷ xs) (k ∷ ys))) e (subst (Rises low) (sym (joined_eq x xs ys q'.1)) all)
  | inr (inl l) ↦
      let all : Rises low (x ∷ joined xs (y ∷ ys)) = (p.0, rest (Some x) (y ∷ ys) p.1 (l, q.1)) in
      subst (Rises low) (sym (joined_lt x xs (y ∷ ys) (l, q.1))) all
  | inr (inr g) ↦
      let all : Rises low (y ∷ joined (x ∷ xs) ys) = (q.0, rises_with x xs rest (Some y) ys (g, p.1) q.1) in
      subst (Rises low) (sym (joined_gt x y xs ys g)) all
]

pub joined_rises : (xs : List Key) (low : Option Key) (ys : List Key) → Rises low xs → Rises low ys → Rises low (joined xs ys)
joined_rises [] low ys p q = q
joined_rises (x ∷ xs) low ys p q = rises_with x xs (joined_rises xs) low ys p q

-- ---- one step

abbrev pub first_of : List Key → Option Key
first_of [] = None
first_of (key ∷ keys) = Some key

-- the keys behind this one, where it is the first
abbrev pub keys_behind : List Key → Key → List Key
keys_behind [] key = []
keys_behind (first ∷ keys) key = cond (key_eq first key) keys (first ∷ keys)

pub behind_first : (k : Key) (ks : List Key) → keys_behind (k ∷ ks) k ≡ ks
behind_first k ks = ap (λ (t : Bool). cond t ks (k ∷ ks)) (eq_itself k)

pub behind_above : (k : Key) (ks : List Key) → Rises (Some k) ks → keys_behind ks k ≡ ks
behind_above k [] h = refl
behind_above k (x ∷ ks) h = ap (λ (t : Bool). cond t ks (x ∷ ks)) (above_eq x k h.0)

-- the lesser of the first keys is the first of the join, and behind it stands the join of what is left
pub record Stepped (low : Option Key) (xs ys : List Key) (k : Key) : Type 0 where
  pub is : joined xs ys ≡ k ∷ joined (keys_behind xs k) (keys_behind ys k)
  pub above : is_key_above low k ≡ true
  pub first : Rises (Some k) (keys_behind xs k)
  pub second : Rises (Some k) (keys_behind ys k)

step_lt : (low : Option Key) (x : Key) (xs ys : List Key) → Rises low (x ∷ xs) → Rises (Some x) ys → Stepped low (x ∷ xs) ys x
step_lt low x xs ys p q = record {
  is = joined_lt x xs ys q ∙ ap (λ (zs : List Key). x ∷ joined zs ys) (sym (behind_first x xs)) ∙ ap (λ (zs : List Key). x ∷ joined (keys_behind (x ∷ xs) x) zs) (sym (behind_above x ys q));
  above = p.0;
  first = subst (Rises (Some x)) (sym (behind_first x xs)) p.1;
  second = subst (Rises (Some x)) (sym (behind_above x ys q)) q;
}

step_eq : (low : Option Key) (x : Key) (xs ys : List Key) → Rises low (x ∷ xs) → Rises low (x ∷ ys) → Stepped low (x ∷ xs) (x ∷ ys) x
step_eq low x xs ys p q = record {
  is = joined_eq x xs ys q.1 ∙ ap (λ (zs : List Key). x ∷ joined zs ys) (sym (behind_first x xs)) ∙ ap (λ (zs : List Key). x ∷ joined (keys_behind (x ∷ xs) x) zs) (sym (behind_first x ys));
  above = p.0;
  first = subst (Rises (Some x)) (sym (behind_first x xs)) p.1;
  second = subst (Rises (Some x)) (sym (behind_first x ys)) q.1;
}

step_gt : (low : Option Key) (x y : Key) (xs ys : List Key) → Rises low (x ∷ xs) → Rises low (y ∷ ys) → is_below y x ≡ true → Stepped low (x ∷ xs) (y ∷ ys) y
step_gt low x y xs ys p q g = record {
  is = joined_gt x y xs ys g ∙ ap (λ (zs : List Key). y ∷ joined zs ys) (sym (behind_above y (x ∷ xs) (g, p.1))) ∙ ap (λ (zs : List Key). y ∷ joined (keys_behind (x ∷ xs) y) zs) (sym (behind_first y ys));
  above = q.0;
  first = subst (Rises (Some y)) (sym (behind_above y (x ∷ xs) (g, p.1))) (g, p.1);
  second = subst (Rises (Some y)) (sym (behind_first y ys)) q.1;
}

some_is : {A : Type 0} (a b : A) → Some a ≡ Some b → a ≡ b
some_is a b e = cc

pub stepped : (low : Option Key) (xs ys : List Key) (k : Key) → Rises low xs → Rises low ys → lesser_key (first_of xs) (first_of ys) ≡ Some k → Stepped low xs ys k
stepped low [] [] k p q e = cc
stepped low (x ∷ xs) [] k p q e = subst (Stepped low (x ∷ xs) []) (some_is x k e) (step_lt low x xs [] p tt)
stepped low [] (y ∷ ys) k p q e =
    let all : Stepped low [] (y ∷ ys) y = record {
      is = ap (λ (zs : List Key). y ∷ zs) (sym (behind_first y ys));
      above = q.0;
      first = tt;
      second = subst (Rises (Some y)) (sym (behind_first y ys)) q.1;
    } in
    subst (Stepped low [] (y ∷ ys)) (some_is y k e) all
stepped low (x ∷ xs) (y ∷ ys) k p q e = elim (order x y) [
  | inl s ↦
      let q' : Rises low (x ∷ ys) = subst (λ (z : Key). Rises low (z ∷ ys)) (sym s) q in
      let is_x : x ≡ k = some_is x k (ap (λ (t : Bool). Some (cond t x x)) (sym (below_itself x)) ∙ ap (λ (z : Key). Some (cond (is_below z x) z x)) s ∙ e) in
      subst (λ (z : Key). Stepped low (x ∷ xs) (z ∷ ys) k) s (subst (Stepped low (x ∷ xs) (x ∷ ys)) is_x (step_eq low x xs ys p q'))
  | inr (inl l) ↦
      let is_x : x ≡ k = some_is x k (ap (λ (t : Bool). Some (cond t y x)) (sym (below_not x y l)) ∙ e) in
      subst (Stepped low (x ∷ xs) (y ∷ ys)) is_x (step_lt low x xs (y ∷ ys) p (l, q.1))
  | inr (inr g) ↦
      let is_y : y ≡ k = some_is y k (ap (λ (t : Bool). Some (cond t y x)) (sym g) ∙ e) in
      subst (Stepped low (x ∷ xs) (y ∷ ys)) is_y (step_gt low x y xs ys p q g)
]
