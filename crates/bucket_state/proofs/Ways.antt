-- Walks in a copy are those of the graph.
use Rattle.std.proofs.Common.{◌≡◌, ℕ, zero, suc, Bool, true, false, cond, List, [], ◌∷◌, Some, refl, sym, ◌∙◌, ap, subst, eqb, eq-eqb}
use Rattle.std.specs.Prelude.{slice_get}
use Rattle.std.specs.Cmp.{both_ways}
use Rattle.std.proofs.lemmas.Bool.{eqb-true}
use Rattle.pickle_graph.specs.declared.node.Node.{Node}
use Rattle.pickle_graph.specs.Parts.{items_at}
use Rattle.pickle_graph.specs.Same.{HasOrigin, HaveOrigins, AllCopies, StandOnce, has, is_held_at}
use Rattle.pickle_graph.specs.Walks.{some_item, has_walk, leads}
use Rattle.bucket_state.proofs.Parts.{items_stand}

pub has_at : (ms : List ℕ) (i m : ℕ) → slice_get ms i ≡ Some m → has m ms ≡ true
has_at [] i m h = cc
has_at (x ∷ ms) zero m h = let same : x ≡ m = cc in rw (eq-eqb x m same) refl
has_at (x ∷ ms) (suc i) m h = either (eqb x m) (has m ms) (has_at ms i m h)
  where
    either : (t b : Bool) → b ≡ true → cond t true b ≡ true
    either true b e = refl
    either false b e = e

-- a node with items has one copy
pub one_copy : (ns : List Node) (ms : List ℕ) (i j m : ℕ) → StandOnce ns ms → slice_get ms i ≡ Some m → slice_get ms j ≡ Some m → is_held_at ns m ≡ true → i ≡ j
one_copy ns [] i j m once h g held = cc
one_copy ns (x ∷ ms) zero zero m once h g held = refl
one_copy ns (x ∷ ms) zero (suc j) m once h g held =
    let same : m ≡ x = cc in
    let none : has m ms ≡ false = subst (λ (y : ℕ). is_held_at ns y ≡ true → has y ms ≡ false) (sym same) once.0 held in
    let some = has_at ms j m g in cc
one_copy ns (x ∷ ms) (suc i) zero m once h g held =
    let same : m ≡ x = cc in
    let none : has m ms ≡ false = subst (λ (y : ℕ). is_held_at ns y ≡ true → has y ms ≡ false) (sym same) once.0 held in
    let some = has_at ms i m h in cc
one_copy ns (x ∷ ms) (suc i) (suc j) m once h g held = ap suc (one_copy ns ms i j m once.1 h g held)

-- numbers of a copy are equal where those that they stand for are, of which the second has items
pub same_test : (ns : List Node) (origin : List ℕ) (a b c d : ℕ) → StandOnce ns origin → HasOrigin origin a b → HasOrigin origin c d → is_held_at ns d ≡ true → eqb a c ≡ eqb b d
same_test ns origin a b c d once h g held = both_ways (eqb a c) (eqb b d) over back
  where
    over : eqb a c ≡ true → eqb b d ≡ true
    over e =
        let same : a ≡ c = eqb-true a c e in
        let there : Some b ≡ Some d = sym h ∙ ap (slice_get origin) same ∙ g in
        let equal : b ≡ d = cc in
        eq-eqb b d equal

    back : eqb b d ≡ true → eqb a c ≡ true
    back e =
        let same : b ≡ d = eqb-true b d e in
        eq-eqb a c (one_copy ns origin a c d once (h ∙ ap Some same) g held)

some_alike : (origin : List ℕ) (p q : ℕ → Bool) → ((x y : ℕ) → HasOrigin origin x y → p x ≡ q y) → (xs ys : List ℕ) → HaveOrigins origin xs ys → some_item p xs ≡ some_item q ys
some_alike origin p q f [] [] h = refl
some_alike origin p q f (x ∷ xs) (y ∷ ys) h = λ i. cond (f x y h.0 i) true (some_alike origin p q f xs ys h.1 i)
some_alike origin p q f [] (y ∷ ys) h = absurd h
some_alike origin p q f (x ∷ xs) [] h = absurd h

pub walks_alike : (n : ℕ) (origin : List ℕ) (ns cs : List Node) (a b : ℕ) → AllCopies origin ns cs origin → HasOrigin origin a b → has_walk n cs a ≡ has_walk n ns b
unfolding has_walk
walks_alike zero origin ns cs a b all h = refl
walks_alike (suc n) origin ns cs a b all h =
    some_alike origin (has_walk n cs) (has_walk n ns) (λ x y k. walks_alike n origin ns cs x y all k) (items_at cs a) (items_at ns b) (items_stand origin ns cs a b all h)

pub leads_alike : (n : ℕ) (origin : List ℕ) (ns cs : List Node) (a b c d : ℕ) → AllCopies origin ns cs origin → StandOnce ns origin → HasOrigin origin a b → HasOrigin origin c d → is_held_at ns d ≡ true → leads n cs a c ≡ leads n ns b d
unfolding leads
leads_alike zero origin ns cs a b c d all once h g held = same_test ns origin a b c d once h g held
leads_alike (suc n) origin ns cs a b c d all once h g held =
    let rest = some_alike origin (λ m. leads n cs m c) (λ m. leads n ns m d) (λ x y k. leads_alike n origin ns cs x y c d all once k g held) (items_at cs a) (items_at ns b) (items_stand origin ns cs a b all h) in
    λ i. cond (same_test ns origin a b c d once h g held i) true (rest i)

some_found : (origin : List ℕ) (q : ℕ → Bool) (xs ys : List ℕ) → HaveOrigins origin xs ys → some_item q ys ≡ true → (x : ℕ) × (y : ℕ) × HasOrigin origin x y × (q y ≡ true)
some_found origin q [] [] h e = cc
some_found origin q (x ∷ xs) (y ∷ ys) h e = by_test (q y) refl (some_found origin q xs ys h.1) e
  where
    by_test : (t : Bool) → q y ≡ t → (some_item q ys ≡ true → (x : ℕ) × (y : ℕ) × HasOrigin origin x y × (q y ≡ true)) → cond t true (some_item q ys) ≡ true → (x : ℕ) × (y : ℕ) × HasOrigin origin x y × (q y ≡ true)
    by_test true is later e = (x, y, h.0, is)
    by_test false is later e = later e
some_found origin q [] (y ∷ ys) h e = absurd h
some_found origin q (x ∷ xs) [] h e = absurd h

-- what the graph's root leads to has a copy
pub reached : (n : ℕ) (origin : List ℕ) (ns cs : List Node) (a b d : ℕ) → AllCopies origin ns cs origin → HasOrigin origin a b → leads n ns b d ≡ true → (c : ℕ) × HasOrigin origin c d
unfolding leads
reached zero origin ns cs a b d all h e = (a, h ∙ ap Some (eqb-true b d e))
reached (suc n) origin ns cs a b d all h e = by_test (eqb b d) refl (λ x y k g. reached n origin ns cs x y d all k g) e
  where
    by_test : (t : Bool) → eqb b d ≡ t → ((x y : ℕ) → HasOrigin origin x y → leads n ns y d ≡ true → (c : ℕ) × HasOrigin origin c d) → cond t true (some_item (λ m. leads n ns m d) (items_at ns b)) ≡ true → (c : ℕ) × HasOrigin origin c d
    by_test true is later g = (a, h ∙ ap Some (eqb-true b d is))
    by_test false is later g =
        let f = some_found origin (λ m. leads n ns m d) (items_at cs a) (items_at ns b) (items_stand origin ns cs a b all h) g in
        later f.0 f.1 f.2 f.3
