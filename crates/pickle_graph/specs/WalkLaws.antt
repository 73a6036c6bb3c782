-- Laws of walks, and of lists that have a node.
use Rattle.std.proofs.Common.{◌≡◌, ℕ, zero, suc, ◌+◌, ◌≤◌, Bool, true, false, cond, List, [], ◌∷◌, ◌++◌, refl, arith, sym, ◌∙◌, ap, subst, eqb, ◌⊎◌, inl, inr}
use Rattle.std.proofs.lemmas.Bool.{eqb-true, eq-eqb}
use Rattle.pickle_graph.specs.declared.node.Node.{Node}
use Rattle.pickle_graph.specs.Parts.{items_at}
use Rattle.pickle_graph.specs.Walks.{some_item, has_walk, has_way, leads}
use Rattle.pickle_graph.specs.Same.{has}

-- true isn't false
pub clash : {P : Type 0} (b : Bool) → b ≡ true → b ≡ false → P
clash true h k = absurd cc
clash false h k = absurd cc

pub cases_bool : (b : Bool) → (b ≡ true) ⊎ (b ≡ false)
cases_bool true = inl refl
cases_bool false = inr refl

pub not_true : (b : Bool) → (b ≡ true → ⊥) → b ≡ false
not_true true h = absurd (h refl)
not_true false h = refl

-- two tests that hold together are one
pub same_bool : (a b : Bool) → (a ≡ true → b ≡ true) → (b ≡ true → a ≡ true) → a ≡ b
same_bool true b f g = sym (f refl)
same_bool false true f g = g refl
same_bool false false f g = refl

pub has-head : (k x : ℕ) (xs : List ℕ) → has k (x ∷ xs) ≡ true → (x ≡ k) ⊎ (has k xs ≡ true)
has-head k x xs h = elim (cases_bool (eqb x k)) [
  | inl e ↦ inl (eqb-true x k e)
  | inr e ↦ inr (ap (λ (b : Bool). cond b true (has k xs)) (sym e) ∙ h)
]

pub has-here : (k x : ℕ) (xs : List ℕ) → x ≡ k → has k (x ∷ xs) ≡ true
has-here k x xs h = let e = eq-eqb x k h in rw e refl

pub has-later : (k x : ℕ) (xs : List ℕ) → has k xs ≡ true → has k (x ∷ xs) ≡ true
has-later k x xs h = elim (cases_bool (eqb x k)) [ inl e ↦ rw e refl | inr e ↦ rw e h ]

pub has-append : (k : ℕ) (xs ys : List ℕ) → has k (xs ++ ys) ≡ true → (has k xs ≡ true) ⊎ (has k ys ≡ true)
has-append k [] ys h = inr h
has-append k (x ∷ xs) ys h = elim (has-head k x (xs ++ ys) h) [
  | inl e ↦ inl (has-here k x xs e)
  | inr e ↦ elim (has-append k xs ys e) [ inl l ↦ inl (has-later k x xs l) | inr r ↦ inr r ]
]

pub has-left : (k : ℕ) (xs ys : List ℕ) → has k xs ≡ true → has k (xs ++ ys) ≡ true
has-left k [] ys h = absurd cc
has-left k (x ∷ xs) ys h = elim (has-head k x xs h) [ inl e ↦ has-here k x (xs ++ ys) e | inr e ↦ has-later k x (xs ++ ys) (has-left k xs ys e) ]

pub has-right : (k : ℕ) (xs ys : List ℕ) → has k ys ≡ true → has k (xs ++ ys) ≡ true
has-right k [] ys h = h
has-right k (x ∷ xs) ys h = has-later k x (xs ++ ys) (has-right k xs ys h)

-- one of several has what the test wants
pub some-has : (test : ℕ → Bool) (c : ℕ) (ms : List ℕ) → has c ms ≡ true → test c ≡ true → some_item test ms ≡ true
some-has test c [] h t = absurd cc
some-has test c (m ∷ ms) h t = elim (has-head c m ms h) [
  | inl e ↦ let k : test m ≡ true = ap test e ∙ t in rw k refl
  | inr e ↦ elim (cases_bool (test m)) [ inl k ↦ rw k refl | inr k ↦ rw k (some-has test c ms e t) ]
]

pub some-find : (test : ℕ → Bool) (ms : List ℕ) → some_item test ms ≡ true → (c : ℕ) × (has c ms ≡ true) × (test c ≡ true)
some-find test [] h = absurd cc
some-find test (m ∷ ms) h = elim (cases_bool (test m)) [
  | inl k ↦ (m, has-here m m ms refl, k)
  | inr k ↦
      let rest : some_item test ms ≡ true = ap (λ (b : Bool). cond b true (some_item test ms)) (sym k) ∙ h in
      let f = some-find test ms rest in
      (f.0, has-later f.0 m ms f.1, f.2)
]

pub some-weaker : (p q : ℕ → Bool) → ((m : ℕ) → p m ≡ true → q m ≡ true) → (ms : List ℕ) → some_item p ms ≡ true → some_item q ms ≡ true
some-weaker p q h ms e = let f = some-find p ms e in some-has q f.0 ms f.1 (h f.0 f.2)

-- a walk has shorter ones in front
pub walk-less : (n k : ℕ) (ns : List Node) (m : ℕ) → k ≤ n → has_walk n ns m ≡ true → has_walk k ns m ≡ true
unfolding has_walk
walk-less n zero ns m h w = refl
walk-less zero (suc k) ns m h w = absurd (omega arith)
walk-less (suc n) (suc k) ns m h w = some-weaker (has_walk n ns) (has_walk k ns) (λ c. walk-less n k ns c (omega arith)) (items_at ns m) w

pub walk-item : (n : ℕ) (ns : List Node) (x c : ℕ) → has c (items_at ns x) ≡ true → has_walk n ns c ≡ true → has_walk (suc n) ns x ≡ true
unfolding has_walk
walk-item n ns x c h w = some-has (has_walk n ns) c (items_at ns x) h w

-- a way, and a walk at its end
pub way-walk : (j n : ℕ) (ns : List Node) (a b : ℕ) → has_way j ns a b ≡ true → has_walk n ns b ≡ true → has_walk (j + n) ns a ≡ true
unfolding has_way
way-walk zero n ns a b h w =
    let e : a ≡ b = eqb-true a b h in
    let z : n ≡ zero + n = omega arith in
    subst (λ (k : ℕ). has_walk k ns a ≡ true) z (subst (λ (x : ℕ). has_walk n ns x ≡ true) (sym e) w)
way-walk (suc j) n ns a b h w =
    let f = some-find (λ m. has_way j ns m b) (items_at ns a) h in
    let e : suc (j + n) ≡ suc j + n = omega arith in
    subst (λ (k : ℕ). has_walk k ns a ≡ true) e (walk-item (j + n) ns a f.0 f.1 (way-walk j n ns f.0 b f.2 w))

-- a way, and one more edge
pub way-step : (n : ℕ) (ns : List Node) (a b c : ℕ) → has_way n ns a b ≡ true → has c (items_at ns b) ≡ true → has_way (suc n) ns a c ≡ true
unfolding has_way
way-step zero ns a b c h i = some-has (λ m. has_way 0 ns m c) c (items_at ns a) (ap (λ (x : ℕ). has c (items_at ns x)) (eqb-true a b h) ∙ i) (eq-eqb c c refl)
way-step (suc n) ns a b c h i =
    let f = some-find (λ m. has_way n ns m b) (items_at ns a) h in
    some-has (λ m. has_way (suc n) ns m c) f.0 (items_at ns a) f.1 (way-step n ns f.0 b c f.2 i)

-- where a way leads round, walks never end
pub round-walk : (j n : ℕ) (ns : List Node) (m : ℕ) → has_way (suc j) ns m m ≡ true → has_walk n ns m ≡ true
unfolding has_walk
round-walk j zero ns m h = refl
round-walk j (suc n) ns m h = walk-less (suc j + n) (suc n) ns m (omega arith) (way-walk (suc j) n ns m m h (round-walk j n ns m h))

-- what leads somewhere is a way
pub leads-way : (n : ℕ) (ns : List Node) (a b : ℕ) → leads n ns a b ≡ true → (j : ℕ) × (has_way j ns a b ≡ true)
unfolding leads has_way
leads-way zero ns a b h = (0, h)
leads-way (suc n) ns a b h = elim (cases_bool (eqb a b)) [
  | inl e ↦ (0, e)
  | inr e ↦
      let rest : some_item (λ m. leads n ns m b) (items_at ns a) ≡ true = ap (λ (t : Bool). cond t true (some_item (λ m. leads n ns m b) (items_at ns a))) (sym e) ∙ h in
      let f = some-find (λ m. leads n ns m b) (items_at ns a) rest in
      let w = leads-way n ns f.0 b f.2 in
      (suc w.0, some-has (λ m. has_way w.0 ns m b) f.0 (items_at ns a) f.1 w.1)
]

pub leads-self : (n : ℕ) (ns : List Node) (m : ℕ) → leads n ns m m ≡ true
unfolding leads
leads-self zero ns m = eq-eqb m m refl
leads-self (suc n) ns m = let e = eq-eqb m m refl in rw e refl
