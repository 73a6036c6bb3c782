-- Objects put in order.
use Rattle.std.proofs.Common.{◌≡◌, ℕ, ◌<◌, ◌≤◌, List, [], ◌∷◌, ◌++◌, Option, Some, None, refl, arith, Bool, true, false, sym, ◌∙◌, ap, subst, inl, inr, ◌⊎◌}
use Rattle.std.specs.Prelude.{map, nat_eq, nat_lt, ◌||◌, if◌then◌else◌}
use Rattle.std.proofs.lemmas.Grind.{common_steps}
use Rattle.std.proofs.lemmas.Bool.{cases_lt}
use Rattle.btree_shapes.specs.declared.node.Node.{Node}
use Rattle.btree_shapes.specs.declared.node.Node.TheVariants as node
use Rattle.btree_shapes.specs.Ways.{stands_in}
use Rattle.btree_putting.specs.declared.puts.Put.{Put}
use Rattle.btree_putting.specs.Puts.{put_oid, add_put, sort_puts}
use Rattle.btree_maps.specs.Drawn.{Differ}

-- a node as it is read back: a leaf without a number has no next one
abbrev pub as_read : Node → Node
as_read (node.Lone leaf) = node.Lone (record { items = leaf.items; next = None })
as_read (node.Leaf leaf) = node.Leaf leaf
as_read (node.Inner inner) = node.Inner inner

-- each of these stands among the nodes
abbrev pub AllPut : (ℕ → Option Node) → List Put → Type 0
AllPut f [] = Unit {0}
AllPut f (p ∷ ps) = (f p.oid ≡ Some (as_read p.node)) × AllPut f ps

pub or_left : (a b : Bool) → (a || b) ≡ false → a ≡ false
or_left true b e = e
or_left false b e = refl

pub or_right : (a b : Bool) → (a || b) ≡ false → b ≡ false
or_right true b e = absurd cc
or_right false b e = e

pub both : (a b : Bool) → a ≡ false → b ≡ false → (a || b) ≡ false
both a b p q = rw (p, q) refl

pub or_cases : (a b : Bool) → (a || b) ≡ true → (a ≡ true) ⊎ (b ≡ true)
or_cases true b e = inl refl
or_cases false b e = inr e

pub bool_cases : (b : Bool) → (b ≡ true) ⊎ (b ≡ false)
bool_cases true = inl refl
bool_cases false = inr refl

pub or_end : (a : Bool) → (a || false) ≡ true → a ≡ true
or_end true e = refl
or_end false e = e

pub same_number : (a b : ℕ) → nat_eq a b ≡ true → a ≡ b
same_number a b e = grind (arith, common_steps)

pub other_number : (a b : ℕ) → (a ≡ b → ⊥) → nat_eq a b ≡ false
other_number a b n = grind (arith, common_steps)

pub own_number : (a : ℕ) → nat_eq a a ≡ true
own_number a = grind (arith, common_steps)

swap : (a b c : Bool) → (a || (b || c)) ≡ (b || (a || c))
swap true true c = refl
swap true false c = refl
swap false true c = refl
swap false false c = refl

-- ---- sorting

lt_is : (a b : ℕ) → a < b → nat_lt a b ≡ true
lt_is a b l = grind (arith, common_steps)

lt_not : (a b : ℕ) → b ≤ a → nat_lt a b ≡ false
lt_not a b l = grind (arith, common_steps)

add_more : (p x : Put) (xs : List Put) → x.oid < p.oid → add_put p (x ∷ xs) ≡ x ∷ add_put p xs
add_more p x xs l = ap (λ b. if b then x ∷ add_put p xs else p ∷ x ∷ xs) (lt_is x.oid p.oid l)

add_end : (p x : Put) (xs : List Put) → p.oid ≤ x.oid → add_put p (x ∷ xs) ≡ p ∷ x ∷ xs
add_end p x xs l = ap (λ b. if b then x ∷ add_put p xs else p ∷ x ∷ xs) (lt_not x.oid p.oid l)

add_stands : (p : Put) (xs : List Put) (q : ℕ) → stands_in (map put_oid (add_put p xs)) q ≡ (nat_eq p.oid q || stands_in (map put_oid xs) q)
add_stands p [] q = refl
add_stands p (x ∷ xs) q = elim (cases_lt x.oid p.oid) [
  | inl l ↦ rw (add_more p x xs l) (ap (λ b. nat_eq x.oid q || b) (add_stands p xs q) ∙ swap (nat_eq x.oid q) (nat_eq p.oid q) (stands_in (map put_oid xs) q))
  | inr m ↦ rw (add_end p x xs m) refl
]

add_differ : (p : Put) (xs : List Put) → stands_in (map put_oid xs) p.oid ≡ false → Differ (map put_oid xs) → Differ (map put_oid (add_put p xs))
add_differ p [] s d = (refl, tt)
add_differ p (x ∷ xs) s d = elim (cases_lt x.oid p.oid) [
  | inl l ↦
      let n : nat_eq p.oid x.oid ≡ false = other_number p.oid x.oid (λ e. absurd (omega (arith, l, e))) in
      rw (add_more p x xs l) (add_stands p xs x.oid ∙ both (nat_eq p.oid x.oid) (stands_in (map put_oid xs) x.oid) n d.0, add_differ p xs (or_right (nat_eq x.oid p.oid) (stands_in (map put_oid xs) p.oid) s) d.1)
  | inr m ↦ rw (add_end p x xs m) (s, d)
]

add_parts : (f : ℕ → Option Node) (p : Put) (xs : List Put) → AllPut f (add_put p xs) → (f p.oid ≡ Some (as_read p.node)) × AllPut f xs
add_parts f p [] a = a
add_parts f p (x ∷ xs) a = elim (cases_lt x.oid p.oid) [
  | inl l ↦
      let b : AllPut f (x ∷ add_put p xs) = subst (AllPut f) (add_more p x xs l) a in
      let r = add_parts f p xs b.1 in
      (r.0, (b.0, r.1))
  | inr m ↦ subst (AllPut f) (add_end p x xs m) a
]

pub sort_stands : (ps : List Put) (q : ℕ) → stands_in (map put_oid (sort_puts ps)) q ≡ stands_in (map put_oid ps) q
sort_stands [] q = refl
sort_stands (p ∷ ps) q = add_stands p (sort_puts ps) q ∙ ap (λ b. nat_eq p.oid q || b) (sort_stands ps q)

pub sort_differ : (ps : List Put) → Differ (map put_oid ps) → Differ (map put_oid (sort_puts ps))
sort_differ [] d = tt
sort_differ (p ∷ ps) d = add_differ p (sort_puts ps) (sort_stands ps p.oid ∙ d.0) (sort_differ ps d.1)

pub sort_parts : (f : ℕ → Option Node) (ps : List Put) → AllPut f (sort_puts ps) → AllPut f ps
sort_parts f [] a = tt
sort_parts f (p ∷ ps) a = let r = add_parts f p (sort_puts ps) a in (r.0, sort_parts f ps r.1)

pub all_parts : (f : ℕ → Option Node) (ps qs : List Put) → AllPut f (ps ++ qs) → AllPut f ps × AllPut f qs
all_parts f [] qs a = (tt, a)
all_parts f (p ∷ ps) qs a = let r = all_parts f ps qs a.1 in ((a.0, r.0), r.1)

-- ---- numbers of several

or_assoc : (a b c : Bool) → ((a || b) || c) ≡ (a || (b || c))
or_assoc true b c = refl
or_assoc false b c = refl

pub stands_append : (xs ys : List ℕ) (q : ℕ) → stands_in (xs ++ ys) q ≡ (stands_in xs q || stands_in ys q)
stands_append [] ys q = refl
stands_append (x ∷ xs) ys q = ap (λ b. nat_eq x q || b) (stands_append xs ys q) ∙ sym (or_assoc (nat_eq x q) (stands_in xs q) (stands_in ys q))

pub oids_append : (xs ys : List Put) → map put_oid (xs ++ ys) ≡ map put_oid xs ++ map put_oid ys
oids_append [] ys = refl
oids_append (x ∷ xs) ys = ap (λ zs. x.oid ∷ zs) (oids_append xs ys)

pub differ_append : (xs ys : List ℕ) → Differ xs → Differ ys → ((q : ℕ) → stands_in ys q ≡ true → stands_in xs q ≡ false) → Differ (xs ++ ys)
differ_append [] ys d e n = e
differ_append (x ∷ xs) ys d e n = (stands_append xs ys x ∙ both (stands_in xs x) (stands_in ys x) d.0 (out (stands_in ys x) refl), differ_append xs ys d.1 e (λ q i. or_right (nat_eq x q) (stands_in xs q) (n q i))) where
  out : (b : Bool) → stands_in ys x ≡ b → stands_in ys x ≡ false
  out true i = let bad : nat_eq x x ≡ false = or_left (nat_eq x x) (stands_in xs x) (n x i) in let own = own_number x in absurd cc
  out false i = i
