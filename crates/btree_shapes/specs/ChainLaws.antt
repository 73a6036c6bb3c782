-- In a chain of leaves none stands twice.
use Rattle.std.proofs.Common.{◌≡◌, ℕ, ◌≤◌, List, [], ◌∷◌, ◌++◌, Option, Some, None, refl, arith, length, sym, ◌∙◌, ap, zero, suc, inl, inr, ◌⊎◌}
use Rattle.btree_shapes.specs.declared.node.Node.{Node}
use Rattle.btree_shapes.specs.declared.node.Node.TheVariants as node
use Rattle.btree_shapes.specs.Shapes.{Shape, Limb, EachChild, joined, Stands, Link, links_of, Linked}

-- no link has this number
abbrev pub Avoids : ℕ → List Link → Type 0
Avoids o [] = Unit {0}
Avoids o (x ∷ xs) = (x.oid ≡ o → ⊥) × Avoids o xs

-- some link has this number
abbrev pub In : ℕ → List Link → Type 0
In o [] = ⊥
In o (x ∷ xs) = (x.oid ≡ o) ⊎ In o xs

abbrev pub Distinct : List Link → Type 0
Distinct [] = Unit {0}
Distinct (x ∷ xs) = Avoids x.oid xs × Distinct xs

abbrev pub next_in : Option Node → Option ℕ
next_in (Some (node.Leaf l)) = l.next
next_in (Some (node.Inner i)) = None
next_in (Some (node.Lone l)) = None
next_in None = None

-- the links are what the objects say
abbrev pub HasNexts : (ℕ → Option Node) → List Link → Type 0
HasNexts f [] = Unit {0}
HasNexts f (x ∷ xs) = (next_in (f x.oid) ≡ x.next) × HasNexts f xs

nexts-append : (f : ℕ → Option Node) (xs ys : List Link) → HasNexts f xs → HasNexts f ys → HasNexts f (xs ++ ys)
nexts-append f [] ys p q = q
nexts-append f (x ∷ xs) ys p q = (p.0, nexts-append f xs ys p.1 q)

nexts-joined : (f : ℕ → Option Node) (h : ℕ) → ((s : Shape h) → Stands f h s → HasNexts f (links_of h s)) → (c : Shape h) (ls : List (Limb (Shape h))) → Stands f h c → EachChild (Stands f h) ls → HasNexts f (joined (links_of h) c ls)
nexts-joined f h each c [] p q = each c p
nexts-joined f h each c (l ∷ ls) p q = nexts-append f (links_of h c) (joined (links_of h) l.child ls) (each c p) (nexts-joined f h each l.child ls q.0 q.1)

nexts-stand : (f : ℕ → Option Node) (h : ℕ) (s : Shape h) → Stands f h s → HasNexts f (links_of h s)
nexts-stand f zero s p = (ap next_in p, tt)
nexts-stand f (suc h) s p = nexts-joined f h (nexts-stand f h) s.head s.tail p.1 p.2

linked_tail : (x : Link) (xs : List Link) → Linked (x ∷ xs) → Linked xs
linked_tail x [] l = tt
linked_tail x (y ∷ ys) l = l.1

-- two chains from one number have one length
same_length : (f : ℕ → Option Node) (x y : Link) (xs ys : List Link) → HasNexts f (x ∷ xs) → HasNexts f (y ∷ ys) → Linked (x ∷ xs) → Linked (y ∷ ys) → x.oid ≡ y.oid → length xs ≡ length ys
same_length f x y [] [] p q l m e = refl
same_length f x y [] (b ∷ bs) p q l m e =
    let n : x.next ≡ y.next = sym p.0 ∙ ap (λ o. next_in (f o)) e ∙ q.0 in
    let bad : ⊥ = cc (l, m.0, n) in absurd bad
same_length f x y (a ∷ as') [] p q l m e =
    let n : x.next ≡ y.next = sym p.0 ∙ ap (λ o. next_in (f o)) e ∙ q.0 in
    let bad : ⊥ = cc (l.0, m, n) in absurd bad
same_length f x y (a ∷ as') (b ∷ bs) p q l m e =
    let n : x.next ≡ y.next = sym p.0 ∙ ap (λ o. next_in (f o)) e ∙ q.0 in
    let o : a.oid ≡ b.oid = cc (l.0, m.0, n) in
    ap suc (same_length f a b as' bs p.1 q.1 l.1 m.1 o)

apart : (f : ℕ → Option Node) (x : Link) (xs ys : List Link) → HasNexts f (x ∷ xs) → Linked (x ∷ xs) → HasNexts f ys → Linked ys → length ys ≤ length xs → Avoids x.oid ys
apart f x xs [] p l q m s = tt
apart f x xs (y ∷ ys) p l q m s = (
  λ e. let n = same_length f y x ys xs q p m l e in omega arith,
  apart f x xs ys p l q.1 (linked_tail y ys m) (omega arith),
)

distinct : (f : ℕ → Option Node) (xs : List Link) → HasNexts f xs → Linked xs → Distinct xs
distinct f [] p l = tt
distinct f (x ∷ xs) p l = (apart f x xs xs p l p.1 (linked_tail x xs l) (omega arith), distinct f xs p.1 (linked_tail x xs l))

pub distinct_links : (f : ℕ → Option Node) (h : ℕ) (s : Shape h) → Stands f h s → Linked (links_of h s) → Distinct (links_of h s)
distinct_links f h s p l = distinct f (links_of h s) (nexts-stand f h s p) l

-- ---- parts of chains

pub in_front : (o : ℕ) (xs ys : List Link) → In o xs → In o (xs ++ ys)
in_front o [] ys i = elim i [ ]
in_front o (x ∷ xs) ys (inl e) = inl e
in_front o (x ∷ xs) ys (inr i) = inr (in_front o xs ys i)

pub in_back : (o : ℕ) (xs ys : List Link) → In o ys → In o (xs ++ ys)
in_back o [] ys i = i
in_back o (x ∷ xs) ys i = inr (in_back o xs ys i)

pub avoids_parts : (o : ℕ) (xs ys : List Link) → Avoids o (xs ++ ys) → Avoids o xs × Avoids o ys
avoids_parts o [] ys a = (tt, a)
avoids_parts o (x ∷ xs) ys a = let r = avoids_parts o xs ys a.1 in ((a.0, r.0), r.1)

pub avoids_in : (o : ℕ) (xs : List Link) → Avoids o xs → In o xs → ⊥
avoids_in o [] a i = elim i [ ]
avoids_in o (x ∷ xs) a (inl e) = a.0 e
avoids_in o (x ∷ xs) a (inr i) = avoids_in o xs a.1 i

-- with this number in the one part, the other avoids it
pub distinct_front : (o : ℕ) (xs ys : List Link) → Distinct (xs ++ ys) → In o xs → Avoids o ys
distinct_front o [] ys d i = elim i [ ]
distinct_front o (x ∷ xs) ys d (inl e) = rw (← e) (avoids_parts x.oid xs ys d.0).1
distinct_front o (x ∷ xs) ys d (inr i) = distinct_front o xs ys d.1 i

pub distinct_back : (o : ℕ) (xs ys : List Link) → Distinct (xs ++ ys) → In o ys → Avoids o xs
distinct_back o [] ys d i = tt
distinct_back o (x ∷ xs) ys d i = (λ e. avoids_in x.oid ys (avoids_parts x.oid xs ys d.0).1 (rw e i), distinct_back o xs ys d.1 i)

pub distinct_parts : (xs ys : List Link) → Distinct (xs ++ ys) → Distinct xs × Distinct ys
distinct_parts [] ys d = (tt, d)
distinct_parts (x ∷ xs) ys d = let r = distinct_parts xs ys d.1 in (((avoids_parts x.oid xs ys d.0).0, r.0), r.1)
