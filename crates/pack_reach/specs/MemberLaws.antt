-- What is among the items of lists. For the proofs of those who follow a pack.
use Rattle.std.proofs.Common.{◌≡◌, ℕ, ◌⊎◌, inl, inr, ⊎_elim, Bool, true, false, ◌||◌, eqb, List, [], ◌∷◌, ◌++◌, filter, Option, Some, refl, sym, ap, ◌∙◌}
use Rattle.std.specs.Prelude.{IfSome}
use Rattle.std.specs.List.{AllByRecursion, flat_map, last_or, list_all}
use Rattle.std.proofs.lemmas.Bool.{cases_Bool, or_cases, or_left, or_right, and_parts, and_cases, eqb-true, eq-eqb}
use Rattle.pack_reach.specs.Reach.{is_in}
use Rattle.pack_reach.specs.Reached.{with_oid, with_oids}

-- ---- tests that hold at once

pub same_bools : (a b : Bool) → (a ≡ true → b ≡ true) → (b ≡ true → a ≡ true) → a ≡ b
same_bools true b f g = sym (f refl)
same_bools false true f g = g refl
same_bools false false f g = refl

-- ---- what holds of each item

pub each_implies : {X : Type 0} (P Q : X → Type 0) → ((x : X) → P x → Q x) → (xs : List X) → AllByRecursion P xs → AllByRecursion Q xs
each_implies P Q f [] all = tt
each_implies P Q f (x ∷ xs) all = (f x all.0, each_implies P Q f xs all.1)

pub each_of_all : {X : Type 0} (P : X → Type 0) → ((x : X) → P x) → (xs : List X) → AllByRecursion P xs
each_of_all P f [] = tt
each_of_all P f (x ∷ xs) = (f x, each_of_all P f xs)

-- the last item that passes a test has what each item has
pub last_has : {X : Type 0} (Q : X → Type 0) (p : X → Bool) (o : Option X) (xs : List X) → IfSome o Q → AllByRecursion Q xs → IfSome (last_or o (filter p xs)) Q
last_has Q p o [] one all = one
last_has Q p o (x ∷ xs) one all =
    ⊎_elim (λ (e : p x ≡ true). rw e (last_has Q p (Some x) xs all.0 all.1)) (λ (e : p x ≡ false). rw e (last_has Q p o xs one all.1)) (cases_Bool (p x))

-- and it passes
pub last_passes : {X : Type 0} (p : X → Bool) (o : Option X) (xs : List X) → IfSome o (λ x. p x ≡ true) → IfSome (last_or o (filter p xs)) (λ x. p x ≡ true)
last_passes p o [] one = one
last_passes p o (x ∷ xs) one =
    ⊎_elim (λ (e : p x ≡ true). rw e (last_passes p (Some x) xs e)) (λ (e : p x ≡ false). rw e (last_passes p o xs one)) (cases_Bool (p x))

-- ---- numbers among others

pub in_append : (n : ℕ) (xs ys : List ℕ) → is_in n (xs ++ ys) ≡ (is_in n xs || is_in n ys)
in_append n [] ys = refl
in_append n (x ∷ xs) ys =
    ⊎_elim (λ (e : eqb x n ≡ true). rw e refl) (λ (e : eqb x n ≡ false). rw e (in_append n xs ys)) (cases_Bool (eqb x n))

pub in_front : (n : ℕ) (xs ys : List ℕ) → is_in n xs ≡ true → is_in n (xs ++ ys) ≡ true
in_front n xs ys h = in_append n xs ys ∙ or_left (is_in n xs) (is_in n ys) h

pub in_back : (n : ℕ) (xs ys : List ℕ) → is_in n ys ≡ true → is_in n (xs ++ ys) ≡ true
in_back n xs ys h = in_append n xs ys ∙ or_right (is_in n xs) (is_in n ys) h

pub in_either : (n : ℕ) (xs ys : List ℕ) → is_in n (xs ++ ys) ≡ true → (is_in n xs ≡ true) ⊎ (is_in n ys ≡ true)
in_either n xs ys h = or_cases (is_in n xs) (is_in n ys) (sym (in_append n xs ys) ∙ h)

pub in_with : (n oid : ℕ) (oids : List ℕ) → is_in n (with_oid oids oid) ≡ (is_in n oids || eqb oid n)
in_with n oid oids = by_cases (is_in oid oids) refl
  where
    by_same : (b : Bool) → eqb oid n ≡ b → is_in oid oids ≡ true → is_in n oids ≡ (is_in n oids || eqb oid n)
    by_same true e there =
        let same : oid ≡ n = eqb-true oid n e in
        let is : is_in n oids ≡ true = sym (ap (λ (m : ℕ). is_in m oids) same) ∙ there in
        is ∙ sym (or_right (is_in n oids) (eqb oid n) e)
    by_same false e there = rw e (by_either (is_in n oids))
      where
        by_either : (b : Bool) → b ≡ (b || false)
        by_either true = refl
        by_either false = refl

    by_nil : (b : Bool) → (b || false) ≡ b
    by_nil true = refl
    by_nil false = refl

    by_cases : (b : Bool) → is_in oid oids ≡ b → is_in n (with_oid oids oid) ≡ (is_in n oids || eqb oid n)
    by_cases true e = rw e (by_same (eqb oid n) refl e)
    by_cases false e = rw e (in_append n oids (oid ∷ []) ∙ ap (λ (b : Bool). is_in n oids || b) (by_nil (eqb oid n)))

pub or_assoc : (a b c : Bool) → ((a || b) || c) ≡ (a || (b || c))
or_assoc true b c = refl
or_assoc false b c = refl

pub in_all : (n : ℕ) (oids more : List ℕ) → is_in n (with_oids oids more) ≡ (is_in n oids || is_in n more)
in_all n oids [] = by_nil (is_in n oids)
  where
    by_nil : (b : Bool) → b ≡ (b || false)
    by_nil true = refl
    by_nil false = refl
in_all n oids (m ∷ more) =
    in_all n (with_oid oids m) more ∙ ap (λ (b : Bool). b || is_in n more) (in_with n m oids) ∙ or_assoc (is_in n oids) (eqb m n) (is_in n more)

pub in_old : (n : ℕ) (oids more : List ℕ) → is_in n oids ≡ true → is_in n (with_oids oids more) ≡ true
in_old n oids more h = in_all n oids more ∙ or_left (is_in n oids) (is_in n more) h

pub in_new : (n : ℕ) (oids more : List ℕ) → is_in n more ≡ true → is_in n (with_oids oids more) ≡ true
in_new n oids more h = in_all n oids more ∙ or_right (is_in n oids) (is_in n more) h

-- where all are there already, nothing changes
pub nothing_new : (oids more : List ℕ) → list_all (λ n. is_in n oids) more ≡ true → with_oids oids more ≡ oids
nothing_new oids [] h = refl
nothing_new oids (m ∷ more) h =
    let parts = and_parts (is_in m oids) (list_all (λ n. is_in n oids) more) h in
    let first : is_in m oids ≡ true = parts.0 in
    let same : with_oid oids m ≡ oids = rw first refl in
    ap (λ (os : List ℕ). with_oids os more) same ∙ nothing_new oids more parts.1

-- each that is among them passes
pub all_pass : (p : ℕ → Bool) (n : ℕ) (ns : List ℕ) → list_all p ns ≡ true → is_in n ns ≡ true → p n ≡ true
all_pass p n [] all h = absurd (cc)
all_pass p n (m ∷ ns) all h =
    let parts = and_parts (p m) (list_all p ns) all in
    ⊎_elim (λ (e : eqb m n ≡ true). sym (ap p (eqb-true m n e)) ∙ parts.0) (λ (i : is_in n ns ≡ true). all_pass p n ns parts.1 i) (or_cases (eqb m n) (is_in n ns) h)

-- or some fails
pub one_fails : (p : ℕ → Bool) (ns : List ℕ) → list_all p ns ≡ false → (n : ℕ) × (is_in n ns ≡ true) × (p n ≡ false)
one_fails p [] h = absurd (cc)
one_fails p (m ∷ ns) h = ⊎_elim (λ (e : p m ≡ false). (m, or_left (eqb m m) (is_in m ns) (eq-eqb m m refl), e)) (λ (f : list_all p ns ≡ false). behind (one_fails p ns f)) (and_cases (p m) (list_all p ns) h)
  where
    behind : (n : ℕ) × (is_in n ns ≡ true) × (p n ≡ false) → (n : ℕ) × (is_in n (m ∷ ns) ≡ true) × (p n ≡ false)
    behind one = (one.0, or_right (eqb m one.0) (is_in one.0 ns) one.1, one.2)

-- ---- what one of several lists has

abbrev pub AnyOf : {X : Type 0} → (X → Type 0) → List X → Type 0
AnyOf P [] = ⊥
AnyOf P (x ∷ xs) = P x ⊎ AnyOf P xs

pub any_implies : {X : Type 0} (P Q : X → Type 0) → ((x : X) → P x → Q x) → (xs : List X) → AnyOf P xs → AnyOf Q xs
any_implies P Q f [] any = any
any_implies P Q f (x ∷ xs) (inl one) = inl (f x one)
any_implies P Q f (x ∷ xs) (inr any) = inr (any_implies P Q f xs any)

pub each_and_any : {X : Type 0} (P Q : X → Type 0) (R : Type 0) → ((x : X) → P x → Q x → R) → (xs : List X) → AllByRecursion P xs → AnyOf Q xs → R
each_and_any P Q R f [] all any = absurd any
each_and_any P Q R f (x ∷ xs) all (inl one) = f x all.0 one
each_and_any P Q R f (x ∷ xs) all (inr any) = each_and_any P Q R f xs all.1 any

pub in_some : {X : Type 0} (f : X → List ℕ) (n : ℕ) (xs : List X) → is_in n (flat_map f xs) ≡ true → AnyOf (λ x. is_in n (f x) ≡ true) xs
in_some f n [] h = absurd (cc)
in_some f n (x ∷ xs) h = ⊎_elim (λ (i : is_in n (f x) ≡ true). inl i) (λ (i : is_in n (flat_map f xs) ≡ true). inr (in_some f n xs i)) (in_either n (f x) (flat_map f xs) h)

pub some_in : {X : Type 0} (f : X → List ℕ) (n : ℕ) (xs : List X) → AnyOf (λ x. is_in n (f x) ≡ true) xs → is_in n (flat_map f xs) ≡ true
some_in f n [] any = absurd any
some_in f n (x ∷ xs) (inl i) = in_front n (f x) (flat_map f xs) i
some_in f n (x ∷ xs) (inr any) = in_back n (f x) (flat_map f xs) (some_in f n xs any)

-- each of the lists is in all of them together
pub each_in : {X : Type 0} (f : X → List ℕ) (xs : List X) → AllByRecursion (λ x. (n : ℕ) → is_in n (f x) ≡ true → is_in n (flat_map f xs) ≡ true) xs
each_in f [] = tt
each_in {X} f (x ∷ xs) = (λ n i. in_front n (f x) (flat_map f xs) i, each_implies (λ (y : X). (n : ℕ) → is_in n (f y) ≡ true → is_in n (flat_map f xs) ≡ true) (λ (y : X). (n : ℕ) → is_in n (f y) ≡ true → is_in n (flat_map f (x ∷ xs)) ≡ true) (λ y h n i. in_back n (f x) (flat_map f xs) (h n i)) xs (each_in f xs))

-- of one that passes a test
pub some_passing : {X : Type 0} (P : X → Type 0) (p : X → Bool) (xs : List X) → AnyOf (λ x. (p x ≡ true) × P x) xs → AnyOf P (filter p xs)
some_passing P p [] any = any
some_passing P p (x ∷ xs) (inl one) =
    let passes : p x ≡ true = one.0 in
    rw passes (inl one.1)
some_passing P p (x ∷ xs) (inr any) =
    ⊎_elim (λ (e : p x ≡ true). rw e (inr (some_passing P p xs any))) (λ (e : p x ≡ false). rw e (some_passing P p xs any)) (cases_Bool (p x))

pub passing_some : {X : Type 0} (P : X → Type 0) (p : X → Bool) (xs : List X) → AnyOf P (filter p xs) → AnyOf (λ x. (p x ≡ true) × P x) xs
passing_some P p [] any = any
passing_some P p (x ∷ xs) any =
    ⊎_elim (λ (e : p x ≡ true).
    let either : P x ⊎ AnyOf P (filter p xs) = rw e at any in
    ⊎_elim (λ (one : P x). inl (e, one)) (λ (rest : AnyOf P (filter p xs)). inr (passing_some P p xs rest)) either)
    (λ (e : p x ≡ false).
    let rest : AnyOf P (filter p xs) = rw e at any in
    inr (passing_some P p xs rest))
    (cases_Bool (p x))
