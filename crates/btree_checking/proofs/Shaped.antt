-- What a walk over a shape visits.
use Rattle.std.proofs.Common.{◌≡◌, ℕ, ◌+◌, zero, suc, Bool, true, false, List, [], ◌∷◌, ◌++◌, length, Option, Some, None, ◌⊎◌, inl, inr, refl, arith, sym, ◌∙◌, ap, subst, append_assoc}
use Rattle.std.specs.Prelude.{nat_eq, ◌||◌, if◌then◌else◌}
use Rattle.std.proofs.lemmas.Grind.{common_steps}
use Rattle.btree_shapes.specs.declared.node.Node.{Node}
use Rattle.btree_shapes.specs.Shapes.{Shape, Limb, oid_of, EachChild, joined, Stands, Link, links_of, Linked, first_leaf, NamesFirst}
use Rattle.btree_checking.specs.declared.links.Pointer.{Pointer}
use Rattle.btree_checking.specs.declared.links.Pointer.TheVariants.{First, Next}
use Rattle.btree_checking.specs.Rules.{was_visited}
use Rattle.btree_checking.specs.Verdicts.{leaf_or, leaf_in, is_same, names_first, names_next, first_wrong, or_else}
use Rattle.btree_checking.specs.Laws.{sum_of, size_of}
use Rattle.btree_shapes.specs.ChainLaws.{In, in_front, in_back}

-- the objects of a shape, in the order of a walk
abbrev pub visits_of : (h : ℕ) → Shape h → List (ℕ × Pointer)
visits_of zero s = (s.oid, Next s.next) ∷ []
visits_of (suc h) s = (s.oid, First s.first) ∷ joined (visits_of h) s.head s.tail

-- ---- how many there are

pub length-append : {A : Type 0} (xs ys : List A) → length (xs ++ ys) ≡ length xs + length ys
length-append [] ys = omega arith
length-append (x ∷ xs) ys = let e = length-append xs ys in omega (arith, e)

sum_visits : (h : ℕ) → ((s : Shape h) → length (visits_of h s) ≡ size_of h s) → (c : Shape h) (ls : List (Limb (Shape h))) → length (joined (visits_of h) c ls) ≡ sum_of (size_of h) c ls
sum_visits h each c [] = each c
sum_visits h each c (l ∷ ls) =
    let a = length-append (visits_of h c) (joined (visits_of h) l.child ls) in
    let b = each c in
    let r = sum_visits h each l.child ls in
    omega (arith, a, b, r)

pub count_visits : (h : ℕ) (s : Shape h) → length (visits_of h s) ≡ size_of h s
count_visits zero s = refl
count_visits (suc h) s = ap suc (sum_visits h (count_visits h) s.head s.tail)

-- ---- what was visited

or_holds : (a b : Bool) → (a || b) ≡ true → (a ≡ true) ⊎ (b ≡ true)
or_holds true b e = inl refl
or_holds false b e = inr e

pub number_is : (a b : ℕ) → nat_eq a b ≡ true → a ≡ b
number_is a b e = grind (arith, common_steps)

pub only_one : (oid x : ℕ) (pointer : Pointer) → was_visited ((x, pointer) ∷ []) oid ≡ true → x ≡ oid
only_one oid x pointer e = elim (or_holds (nat_eq oid x) false e) [
  | inl a ↦ sym (number_is oid x a)
  | inr b ↦ let bad : ⊥ = cc in absurd bad
]

or_right : (a b : Bool) → b ≡ true → (a || b) ≡ true
or_right true b e = refl
or_right false b e = e

pub visited_parts : (xs ys : List (ℕ × Pointer)) (oid : ℕ) → was_visited (xs ++ ys) oid ≡ true → (was_visited xs oid ≡ true) ⊎ (was_visited ys oid ≡ true)
visited_parts [] ys oid e = inr e
visited_parts (x ∷ xs) ys oid e = elim (or_holds (nat_eq oid x.0) (was_visited (xs ++ ys) oid) e) [
  | inl a ↦ inl (ap (λ b. b || was_visited xs oid) a)
  | inr r ↦ elim (visited_parts xs ys oid r) [
    | inl p ↦ inl (or_right (nat_eq oid x.0) (was_visited xs oid) p)
    | inr q ↦ inr q
  ]
]

-- an object that is visited with a shape stands in it, and its first leaf is one of those of the shape
pub record Among (nodes : ℕ → Option Node) (x : ℕ) (links : List Link) : Type 0 where
  pub height : ℕ
  pub shape : Shape height
  pub is : oid_of height shape ≡ x
  pub stands : Stands nodes height shape
  pub leaf : In (first_leaf height shape) links

pub among_more : (nodes : ℕ → Option Node) (x : ℕ) (xs ys : List Link) → Among nodes x xs → Among nodes x (xs ++ ys)
among_more nodes x xs ys a = record { height = a.height; shape = a.shape; is = a.is; stands = a.stands; leaf = in_front (first_leaf a.height a.shape) xs ys a.leaf }

pub among_back : (nodes : ℕ → Option Node) (x : ℕ) (xs ys : List Link) → Among nodes x ys → Among nodes x (xs ++ ys)
among_back nodes x xs ys a = record { height = a.height; shape = a.shape; is = a.is; stands = a.stands; leaf = in_back (first_leaf a.height a.shape) xs ys a.leaf }

in_joined : (o h : ℕ) (c : Shape h) (ls : List (Limb (Shape h))) → In o (links_of h c) → In o (joined (links_of h) c ls)
in_joined o h c [] i = i
in_joined o h c (l ∷ ls) i = in_front o (links_of h c) (joined (links_of h) l.child ls) i

pub first_among : (h : ℕ) (s : Shape h) → In (first_leaf h s) (links_of h s)
first_among zero s = inl refl
first_among (suc h) s = in_joined (first_leaf h s.head) h s.head s.tail (first_among h s.head)

among_joined : (nodes : ℕ → Option Node) (h x : ℕ) → ((s : Shape h) → Stands nodes h s → was_visited (visits_of h s) x ≡ true → Among nodes x (links_of h s)) → (c : Shape h) (ls : List (Limb (Shape h))) → Stands nodes h c → EachChild (Stands nodes h) ls → was_visited (joined (visits_of h) c ls) x ≡ true → Among nodes x (joined (links_of h) c ls)
among_joined nodes h x each c [] p q e = each c p e
among_joined nodes h x each c (l ∷ ls) p q e = elim (visited_parts (visits_of h c) (joined (visits_of h) l.child ls) x e) [
  | inl a ↦ among_more nodes x (links_of h c) (joined (links_of h) l.child ls) (each c p a)
  | inr b ↦ among_back nodes x (links_of h c) (joined (links_of h) l.child ls) (among_joined nodes h x each l.child ls q.0 q.1 b)
]

pub among_shape : (nodes : ℕ → Option Node) (h x : ℕ) (s : Shape h) → Stands nodes h s → was_visited (visits_of h s) x ≡ true → Among nodes x (links_of h s)
among_shape nodes zero x s p e = elim (or_holds (nat_eq x s.oid) false e) [
  | inl a ↦ record { height = zero; shape = s; is = sym (number_is x s.oid a); stands = p; leaf = inl refl }
  | inr b ↦ let bad : ⊥ = cc in absurd bad
]
among_shape nodes (suc h) x s p e = elim (or_holds (nat_eq x s.oid) (was_visited (joined (visits_of h) s.head s.tail) x) e) [
  | inl a ↦ record { height = suc h; shape = s; is = sym (number_is x s.oid a); stands = p; leaf = first_among (suc h) s }
  | inr b ↦ among_joined nodes h x (among_shape nodes h x) s.head s.tail p.1 p.2 b
]

-- ---- links

-- the links among visits
abbrev link_or : ℕ → Pointer → List Link → List Link
link_or oid (Next next) links = record { oid = oid; next = next } ∷ links
link_or oid (First first) links = links

abbrev pub links_in : List (ℕ × Pointer) → List Link
links_in [] = []
links_in (x ∷ xs) = link_or x.0 x.1 (links_in xs)

link-append : (oid : ℕ) (pointer : Pointer) (xs ys : List Link) → link_or oid pointer (xs ++ ys) ≡ link_or oid pointer xs ++ ys
link-append oid (Next next) xs ys = refl
link-append oid (First first) xs ys = refl

links-append : (xs ys : List (ℕ × Pointer)) → links_in (xs ++ ys) ≡ links_in xs ++ links_in ys
links-append [] ys = refl
links-append (x ∷ xs) ys = ap (link_or x.0 x.1) (links-append xs ys) ∙ link-append x.0 x.1 (links_in xs) (links_in ys)

links_joined : (h : ℕ) → ((s : Shape h) → links_in (visits_of h s) ≡ links_of h s) → (c : Shape h) (ls : List (Limb (Shape h))) → links_in (joined (visits_of h) c ls) ≡ joined (links_of h) c ls
links_joined h each c [] = each c
links_joined h each c (l ∷ ls) =
    links-append (visits_of h c) (joined (visits_of h) l.child ls) ∙ ap (λ xs. xs ++ links_in (joined (visits_of h) l.child ls)) (each c)
    ∙ ap (λ xs. links_of h c ++ xs) (links_joined h each l.child ls)

pub links_visited : (h : ℕ) (s : Shape h) → links_in (visits_of h s) ≡ links_of h s
links_visited zero s = refl
links_visited (suc h) s = links_joined h (links_visited h) s.head s.tail

abbrev first_oid : List Link → Option ℕ
first_oid [] = None
first_oid (x ∷ xs) = Some x.oid

leaf_by : (oid : ℕ) (pointer : Pointer) (other : Option ℕ) (links : List Link) → other ≡ first_oid links → leaf_or oid pointer other ≡ first_oid (link_or oid pointer links)
leaf_by oid (Next next) other links e = refl
leaf_by oid (First first) other links e = e

leaf_first : (xs : List (ℕ × Pointer)) → leaf_in xs ≡ first_oid (links_in xs)
leaf_first [] = refl
leaf_first (x ∷ xs) = leaf_by x.0 x.1 (leaf_in xs) (links_in xs) (leaf_first xs)

same_itself : (a : Option ℕ) → is_same a a ≡ true
same_itself None = refl
same_itself (Some a) = grind (arith, common_steps)

same_is : (a b : Option ℕ) → is_same a b ≡ true → a ≡ b
same_is None None e = refl
same_is None (Some b) e = absurd cc
same_is (Some a) None e = absurd cc
same_is (Some a) (Some b) e = ap Some (number_is a b e)

linked_by : (x : Link) (links : List Link) → x.next ≡ first_oid links → Linked links → Linked (x ∷ links)
linked_by x [] e l = e
linked_by x (y ∷ ys) e l = (e, l)

by_linked : (x : Link) (links : List Link) → Linked (x ∷ links) → (x.next ≡ first_oid links) × Linked links
by_linked x [] l = (l, tt)
by_linked x (y ∷ ys) l = l

-- the first test that fails is none of these
wrong_if : (b : Bool) (oid : ℕ) (rest : Option ℕ) → (if b then rest else Some oid) ≡ None → (b ≡ true) × (rest ≡ None)
wrong_if true oid rest e = (refl, e)
wrong_if false oid rest e = absurd cc

next_right : (oid : ℕ) (pointer : Pointer) (leaf : Option ℕ) (links : List Link) → leaf ≡ first_oid links → Linked (link_or oid pointer links) → (names_next pointer leaf ≡ true) × Linked links
next_right oid (First first) leaf links e l = (refl, l)
next_right oid (Next next) leaf links e l =
    let r = by_linked (record { oid = oid; next = next }) links l in
    (subst (λ a. is_same next a ≡ true) (r.0 ∙ sym e) (same_itself next), r.1)

right_next : (oid : ℕ) (pointer : Pointer) (leaf : Option ℕ) (links : List Link) → leaf ≡ first_oid links → names_next pointer leaf ≡ true → Linked links → Linked (link_or oid pointer links)
right_next oid (First first) leaf links e t l = l
right_next oid (Next next) leaf links e t l = linked_by (record { oid = oid; next = next }) links (same_is next leaf t ∙ e) l

pub linked_right : (xs : List (ℕ × Pointer)) → Linked (links_in xs) → first_wrong names_next xs ≡ None
linked_right [] l = refl
linked_right (x ∷ xs) l =
    let r = next_right x.0 x.1 (leaf_in xs) (links_in xs) (leaf_first xs) l in
    ap (λ b. if b then first_wrong names_next xs else Some x.0) r.0 ∙ linked_right xs r.1

pub right_linked : (xs : List (ℕ × Pointer)) → first_wrong names_next xs ≡ None → Linked (links_in xs)
right_linked [] e = tt
right_linked (x ∷ xs) e =
    let r = wrong_if (names_next x.1 (leaf_in xs)) x.0 (first_wrong names_next xs) e in
    right_next x.0 x.1 (leaf_in xs) (links_in xs) (leaf_first xs) r.0 (right_linked xs r.1)

-- ---- first leaves

leaf_joined : (h : ℕ) (c : Shape h) (ls : List (Limb (Shape h))) (rest : List (ℕ × Pointer)) → ((more : List (ℕ × Pointer)) → leaf_in (visits_of h c ++ more) ≡ Some (first_leaf h c)) → leaf_in (joined (visits_of h) c ls ++ rest) ≡ Some (first_leaf h c)
leaf_joined h c [] rest each = each rest
leaf_joined h c (l ∷ ls) rest each = ap leaf_in (append_assoc (visits_of h c) (joined (visits_of h) l.child ls) rest) ∙ each (joined (visits_of h) l.child ls ++ rest)

leaf_shape : (h : ℕ) (s : Shape h) (rest : List (ℕ × Pointer)) → leaf_in (visits_of h s ++ rest) ≡ Some (first_leaf h s)
leaf_shape zero s rest = refl
leaf_shape (suc h) s rest = leaf_joined h s.head s.tail rest (λ more. leaf_shape h s.head more)

names_joined : (h : ℕ) → ((s : Shape h) (rest : List (ℕ × Pointer)) → NamesFirst h s → first_wrong names_first (visits_of h s ++ rest) ≡ first_wrong names_first rest) → (c : Shape h) (ls : List (Limb (Shape h))) (rest : List (ℕ × Pointer)) → NamesFirst h c → EachChild (NamesFirst h) ls → first_wrong names_first (joined (visits_of h) c ls ++ rest) ≡ first_wrong names_first rest
names_joined h each c [] rest p q = each c rest p
names_joined h each c (l ∷ ls) rest p q =
    ap (first_wrong names_first) (append_assoc (visits_of h c) (joined (visits_of h) l.child ls) rest)
    ∙ each c (joined (visits_of h) l.child ls ++ rest) p ∙ names_joined h each l.child ls rest q.0 q.1

pub names_right : (h : ℕ) (s : Shape h) (rest : List (ℕ × Pointer)) → NamesFirst h s → first_wrong names_first (visits_of h s ++ rest) ≡ first_wrong names_first rest
names_right zero s rest n = refl
names_right (suc h) s rest n =
    let t : is_same (Some s.first) (leaf_in (joined (visits_of h) s.head s.tail ++ rest)) ≡ true =
    subst (λ a. is_same (Some s.first) a ≡ true) (ap Some n.0 ∙ sym (leaf_shape (suc h) s rest)) (same_itself (Some s.first)) in
    ap (λ b. if b then first_wrong names_first (joined (visits_of h) s.head s.tail ++ rest) else Some s.oid) t
    ∙ names_joined h (names_right h) s.head s.tail rest n.1 n.2

joined_names : (h : ℕ) → ((s : Shape h) (rest : List (ℕ × Pointer)) → first_wrong names_first (visits_of h s ++ rest) ≡ None → NamesFirst h s × (first_wrong names_first rest ≡ None)) → (c : Shape h) (ls : List (Limb (Shape h))) (rest : List (ℕ × Pointer)) → first_wrong names_first (joined (visits_of h) c ls ++ rest) ≡ None → NamesFirst h c × EachChild (NamesFirst h) ls × (first_wrong names_first rest ≡ None)
joined_names h each c [] rest e = let r = each c rest e in (r.0, tt, r.1)
joined_names h each c (l ∷ ls) rest e =
    let r = each c (joined (visits_of h) l.child ls ++ rest) (ap (first_wrong names_first) (sym (append_assoc (visits_of h c) (joined (visits_of h) l.child ls) rest)) ∙ e) in
    let q = joined_names h each l.child ls rest r.1 in
    (r.0, (q.0, q.1), q.2)

pub right_names : (h : ℕ) (s : Shape h) (rest : List (ℕ × Pointer)) → first_wrong names_first (visits_of h s ++ rest) ≡ None → NamesFirst h s × (first_wrong names_first rest ≡ None)
right_names zero s rest e = (tt, e)
right_names (suc h) s rest e =
    let r = wrong_if (is_same (Some s.first) (leaf_in (joined (visits_of h) s.head s.tail ++ rest))) s.oid (first_wrong names_first (joined (visits_of h) s.head s.tail ++ rest)) e in
    let q = joined_names h (right_names h) s.head s.tail rest r.1 in
    let f : Some s.first ≡ Some (first_leaf h s.head) = same_is (Some s.first) _ r.0 ∙ leaf_shape (suc h) s rest in
    ((cc, q.0, q.1), q.2)

-- ---- both

pub no_wrong : (a b : Option ℕ) → a ≡ None → b ≡ None → or_else a b ≡ None
no_wrong a b p q = rw (p, q) refl

pub none_wrong : (a b : Option ℕ) → or_else a b ≡ None → (a ≡ None) × (b ≡ None)
none_wrong None b e = (refl, e)
none_wrong (Some a) b e = absurd cc
