-- Children of one object, as a set leaves them.
use Rattle.std.proofs.Common.{◌≡◌, ℕ, Bool, true, false, List, [], ◌∷◌, ◌++◌, Option, Some, None, refl, sym, ◌∙◌, ap, suc, inl, inr, ◌⊎◌, append_assoc}
use Rattle.std.specs.Prelude.{map, if◌then◌else◌, length}
use Rattle.btree_family.specs.declared.key.Key.{Key}
use Rattle.btree_family.specs.Keys.{rank_of, is_below}
use Rattle.btree_family.specs.Rising.{is_key_above, Rises}
use Rattle.bucket_state.specs.Trees.{separators_of}
use Rattle.btree_shapes.specs.declared.node.Node.{Node}
use Rattle.btree_shapes.specs.declared.node.Node.TheVariants as node
use Rattle.btree_shapes.specs.Shapes.{Shape, Limb, oid_of, branch_of, EachChild, EachLimb, joined, IsFrom, IsUpTo, Parted, Bounded, OfKind, Stands, Link, first_leaf, NamesFirst}
use Rattle.btree_setting.specs.Types.{Sprout}
use Rattle.btree_setting.specs.Inserting.{insert_branch}
use Rattle.btree_setting.specs.Changes.{branch_up}
use Rattle.btree_maps.specs.Drawn.{HasNone}
use Rattle.btree_family.specs.OrderLaws.{below_not, below_below}
use Rattle.btree_shapes.specs.BoundLaws.{from_wider, upto_wider}
use Rattle.btree_shapes.specs.ChainLaws.{In, in_front, in_back}

-- ---- the child for a key

-- what holds of the last child whose separator isn't above the key, or else of the first
abbrev pub ForKey : {S : Type 0} → (S → Type 0) → Key → S → List (Limb S) → Type 0
ForKey P key c [] = P c
ForKey P key c (l ∷ ls) = ((is_below key l.key ≡ true) × P c) ⊎ ((is_below key l.key ≡ false) × ForKey P key l.child ls)

pub in_for_key : {S : Type 0} (P : S → Type 0) (g : S → List Link) (to : ℕ) (key : Key) (c : S) (ls : List (Limb S)) → ((s : S) → P s → In to (g s)) → ForKey P key c ls → In to (joined g c ls)
in_for_key P g to key c [] each e = each c e
in_for_key P g to key c (x ∷ xs) each (inl e) = in_front to (g c) (joined g x.child xs) (each c e.1)
in_for_key P g to key c (x ∷ xs) each (inr e) = in_back to (g c) (joined g x.child xs) (in_for_key P g to key x.child xs each e.1)

-- the child for a key, with what holds of each child
pub chosen : {S : Type 0} (P Q : S → Type 0) (kind : ℕ) (key : Key) (c : S) (ls : List (Limb S)) → ForKey P key c ls → Q c → EachLimb kind Q ls → (t : S) × P t × Q t
chosen P Q kind key c [] e q qs = (c, e, q)
chosen P Q kind key c (l ∷ ls) (inl e) q qs = (c, e.1, q)
chosen P Q kind key c (l ∷ ls) (inr e) q qs = chosen P Q kind key l.child ls e.1 qs.1 qs.2

pub for_key_both : {S : Type 0} (P Q : S → Type 0) (kind : ℕ) (key : Key) (c : S) (ls : List (Limb S)) → ForKey P key c ls → Q c → EachLimb kind Q ls → ForKey (λ t. P t × Q t) key c ls
for_key_both P Q kind key c [] e q qs = (e, q)
for_key_both P Q kind key c (l ∷ ls) (inl e) q qs = inl (e.0, (e.1, q))
for_key_both P Q kind key c (l ∷ ls) (inr e) q qs = inr (e.0, for_key_both P Q kind key l.child ls e.1 qs.1 qs.2)

pub for_key_map : {S : Type 0} (P Q : S → Type 0) (key : Key) (c : S) (ls : List (Limb S)) → ((s : S) → P s → Q s) → ForKey P key c ls → ForKey Q key c ls
for_key_map P Q key c [] each e = each c e
for_key_map P Q key c (l ∷ ls) each (inl e) = inl (e.0, each c e.1)
for_key_map P Q key c (l ∷ ls) each (inr e) = inr (e.0, for_key_map P Q key l.child ls each e.1)

-- ---- children as they are named above

-- a child's separator, its number and its first leaf
abbrev pub sprout_of : (h : ℕ) → Limb (Shape h) → Sprout
sprout_of h limb = record { key = limb.key; child = oid_of h limb.child; first = first_leaf h limb.child }

abbrev pub sprouts_of : (h : ℕ) → List (Limb (Shape h)) → List Sprout
sprouts_of h ls = map (sprout_of h) ls

abbrev pub keys_up : List Sprout → List Key
keys_up ss = map (λ s. s.key) ss

-- a new child before the first whose separator is above the key
abbrev pub insert_sprout : Sprout → Key → List Sprout → List Sprout
insert_sprout up key [] = up ∷ []
insert_sprout up key (x ∷ xs) = if is_below key x.key then up ∷ x ∷ xs else x ∷ insert_sprout up key xs

abbrev pub insert_up : Option Sprout → Key → List Sprout → List Sprout
insert_up None key ss = ss
insert_up (Some up) key ss = insert_sprout up key ss

pub branches_up : (h : ℕ) (ls : List (Limb (Shape h))) → map (branch_of h) ls ≡ map branch_up (sprouts_of h ls)
branches_up h [] = refl
branches_up h (l ∷ ls) = ap (λ ys. branch_of h l ∷ ys) (branches_up h ls)

pub separators_up : (h : ℕ) (ls : List (Limb (Shape h))) → separators_of (map (branch_of h) ls) ≡ keys_up (sprouts_of h ls)
separators_up h [] = refl
separators_up h (l ∷ ls) = ap (λ ys. l.key ∷ ys) (separators_up h ls)

insert_if : (b : Bool) (up x : Sprout) (xs : List Sprout) (key : Key) → map branch_up (insert_sprout up key xs) ≡ insert_branch (branch_up up) key (map branch_up xs) → map branch_up (if b then up ∷ x ∷ xs else x ∷ insert_sprout up key xs) ≡ (if b then branch_up up ∷ branch_up x ∷ map branch_up xs else branch_up x ∷ insert_branch (branch_up up) key (map branch_up xs))
insert_if true up x xs key e = refl
insert_if false up x xs key e = ap (λ ys. branch_up x ∷ ys) e

pub insert_branches : (up : Sprout) (key : Key) (xs : List Sprout) → map branch_up (insert_sprout up key xs) ≡ insert_branch (branch_up up) key (map branch_up xs)
insert_branches up key [] = refl
insert_branches up key (x ∷ xs) = insert_if (is_below key x.key) up x xs key (insert_branches up key xs)

pub sprouts_append : (h : ℕ) (ls ms : List (Limb (Shape h))) → sprouts_of h (ls ++ ms) ≡ sprouts_of h ls ++ sprouts_of h ms
sprouts_append h [] ms = refl
sprouts_append h (l ∷ ls) ms = ap (λ ys. sprout_of h l ∷ ys) (sprouts_append h ls ms)

pub sprouts_length : (h : ℕ) (ls : List (Limb (Shape h))) → length (sprouts_of h ls) ≡ length ls
sprouts_length h [] = refl
sprouts_length h (l ∷ ls) = ap suc (sprouts_length h ls)

pub branches_length : (h : ℕ) (ls : List (Limb (Shape h))) → length (map (branch_of h) ls) ≡ length ls
branches_length h [] = refl
branches_length h (l ∷ ls) = ap suc (branches_length h ls)

-- where the new child goes: before one whose separator is above the key, behind one whose separator isn't
pub insert_before : (u : Option Sprout) (key : Key) (x : Sprout) (xs : List Sprout) → is_below key x.key ≡ true → insert_up u key [] ++ x ∷ xs ≡ insert_up u key (x ∷ xs)
insert_before None key x xs l = refl
insert_before (Some up) key x xs l = sym (ap (λ b. if b then up ∷ x ∷ xs else x ∷ insert_sprout up key xs) l)

pub insert_behind : (u : Option Sprout) (key : Key) (x : Sprout) (xs : List Sprout) → is_below key x.key ≡ false → x ∷ insert_up u key xs ≡ insert_up u key (x ∷ xs)
insert_behind None key x xs l = refl
insert_behind (Some up) key x xs l = sym (ap (λ b. if b then up ∷ x ∷ xs else x ∷ insert_sprout up key xs) l)

-- ---- separators that rise strictly

rises_if : (b : Bool) (low : Key) (up x : Sprout) (xs : List Sprout) (key : Key) → is_below low up.key ≡ true → is_below low x.key ≡ true → Rises None (keys_up (if b then up ∷ x ∷ xs else x ∷ insert_sprout up key xs)) → Rises (Some low) (keys_up (if b then up ∷ x ∷ xs else x ∷ insert_sprout up key xs))
rises_if true low up x xs key u l r = (u, r.1)
rises_if false low up x xs key u l r = (l, r.1)

-- where the new child is above a bound, and the others are, so are all
pub rises_up : (u : Option Sprout) (low : Key) (key : Key) (xs : List Sprout) → ((up : Sprout) → u ≡ Some up → is_below low up.key ≡ true) → Rises (Some low) (keys_up xs) → Rises None (keys_up (insert_up u key xs)) → Rises (Some low) (keys_up (insert_up u key xs))
rises_up None low key xs a o r = o
rises_up (Some up) low key [] a o r = (a up refl, tt)
rises_up (Some up) low key (x ∷ xs) a o r = rises_if (is_below key x.key) low up x xs key (a up refl) o.0 r

pub rises_parted : (h : ℕ) (low above : Option Key) (c : Shape h) (ls : List (Limb (Shape h))) (x : Limb (Shape h)) (xs : List (Limb (Shape h))) → Parted (Bounded h) low (Some x.key) c ls → is_key_above above x.key ≡ true → Rises above (keys_up (sprouts_of h ls)) → Rises None (keys_up (sprouts_of h (x ∷ xs))) → Rises above (keys_up (sprouts_of h (ls ++ x ∷ xs)))
rises_parted h low above c [] x xs p a r o = (a, o.1)
rises_parted h low above c (l ∷ ls) x xs p a r o = (r.0, rises_parted h (Some l.key) (Some l.key) l.child ls x xs p.3 p.1 r.1 o)

-- those before one are below it
pub rises_cut : (h : ℕ) (low : Option Key) (l : Limb (Shape h)) (ls : List (Limb (Shape h))) (m : Limb (Shape h)) (ms : List (Limb (Shape h))) → Rises low (keys_up (sprouts_of h (l ∷ ls ++ m ∷ ms))) → is_below l.key m.key ≡ true
rises_cut h low l [] m ms r = r.1.0
rises_cut h low l (x ∷ xs) m ms r = below_below l.key x.key m.key r.1.0 (rises_cut h (Some l.key) x xs m ms r.1)

-- ---- parts

pub limbs_append : {S : Type 0} (kind : ℕ) (P : S → Type 0) (ls ms : List (Limb S)) → EachLimb kind P ls → EachLimb kind P ms → EachLimb kind P (ls ++ ms)
limbs_append kind P [] ms p q = q
limbs_append kind P (l ∷ ls) ms p q = (p.0, p.1, limbs_append kind P ls ms p.2 q)

pub limbs_parts : {S : Type 0} (kind : ℕ) (P : S → Type 0) (ls : List (Limb S)) (m : Limb S) (ms : List (Limb S)) → EachLimb kind P (ls ++ m ∷ ms) → EachLimb kind P ls × (rank_of m.key ≡ kind) × P m.child × EachLimb kind P ms
limbs_parts kind P [] m ms p = (tt, p.0, p.1, p.2)
limbs_parts kind P (l ∷ ls) m ms p = let r = limbs_parts kind P ls m ms p.2 in ((p.0, p.1, r.0), r.1, r.2, r.3)

pub parted_append : {S : Type 0} (B : Option Key → Option Key → S → Type 0) (low high : Option Key) (c : S) (ls : List (Limb S)) (x : Limb S) (xs : List (Limb S)) → IsFrom low x.key → IsUpTo high x.key → Parted B low (Some x.key) c ls → Parted B (Some x.key) high x.child xs → Parted B low high c (ls ++ x ∷ xs)
parted_append B low high c [] x xs f u p q = (f, u, p, q)
parted_append B low high c (l ∷ ls) x xs f u p q = (p.0, upto_wider high x.key l.key u p.1, p.2, parted_append B (Some l.key) high l.child ls x xs (below_not l.key x.key p.1) u p.3 q)

pub parted_at : {S : Type 0} (B : Option Key → Option Key → S → Type 0) (low high : Option Key) (c : S) (ls : List (Limb S)) (m : Limb S) (ms : List (Limb S)) → Parted B low high c (ls ++ m ∷ ms) → IsFrom low m.key × IsUpTo high m.key × Parted B (Some m.key) high m.child ms
parted_at B low high c [] m ms p = (p.0, p.1, p.3)
parted_at B low high c (l ∷ ls) m ms p = let r = parted_at B (Some l.key) high l.child ls m ms p.3 in (from_wider low l.key m.key p.0 r.0, r.1, r.2)

pub parted_left : (h : ℕ) (low high above : Option Key) (c : Shape h) (ls : List (Limb (Shape h))) (m : Limb (Shape h)) (ms : List (Limb (Shape h))) → Rises above (keys_up (sprouts_of h (ls ++ m ∷ ms))) → Parted (Bounded h) low high c (ls ++ m ∷ ms) → Parted (Bounded h) low (Some m.key) c ls
parted_left h low high above c [] m ms r p = p.2
parted_left h low high above c (l ∷ ls) m ms r p = (p.0, rises_cut h above l ls m ms r, p.2, parted_left h (Some l.key) high (Some l.key) l.child ls m ms r.1 p.3)

pub joined_append : {S X : Type 0} (g : S → List X) (c : S) (ls : List (Limb S)) (x : Limb S) (xs : List (Limb S)) → joined g c (ls ++ x ∷ xs) ≡ joined g c ls ++ joined g x.child xs
joined_append g c [] x xs = refl
joined_append g c (l ∷ ls) x xs = ap (λ ys. g c ++ ys) (joined_append g l.child ls x xs) ∙ sym (append_assoc (g c) (joined g l.child ls) (joined g x.child xs))

-- ---- what stands, is named and is of one kind

abbrev pub Fine : (ℕ → Option Node) → ℕ → (h : ℕ) → Shape h → Type 0
Fine nodes kind h s = Stands nodes h s × NamesFirst h s × OfKind kind h s

-- the same, and none of these numbers is in it
abbrev pub OldShape : (ℕ → Option Node) → List ℕ → ℕ → (h : ℕ) → Shape h → Type 0
OldShape nodes oids kind h s = Fine nodes kind h s × HasNone oids h s

old_limbs : (nodes : ℕ → Option Node) (oids : List ℕ) (kind h : ℕ) (ls : List (Limb (Shape h))) → EachChild (Stands nodes h) ls → EachChild (NamesFirst h) ls → EachLimb kind (OfKind kind h) ls → EachChild (HasNone oids h) ls → EachLimb kind (OldShape nodes oids kind h) ls
old_limbs nodes oids kind h [] a b c d = tt
old_limbs nodes oids kind h (l ∷ ls) a b c d = (c.0, ((a.0, b.0, c.1), d.0), old_limbs nodes oids kind h ls a.1 b.1 c.2 d.1)

pub old_head : (nodes : ℕ → Option Node) (oids : List ℕ) (kind h : ℕ) (s : Shape (suc h)) → OldShape nodes oids kind (suc h) s → OldShape nodes oids kind h s.head
old_head nodes oids kind h s o = ((o.0.0.1, o.0.1.1, o.0.2.0), o.1.1)

pub old_tail : (nodes : ℕ → Option Node) (oids : List ℕ) (kind h : ℕ) (s : Shape (suc h)) → OldShape nodes oids kind (suc h) s → EachLimb kind (OldShape nodes oids kind h) s.tail
old_tail nodes oids kind h s o = old_limbs nodes oids kind h s.tail o.0.0.2 o.0.1.2 o.0.2.1 o.1.2

limbs_stand : (nodes : ℕ → Option Node) (kind h : ℕ) (ls : List (Limb (Shape h))) → EachLimb kind (Fine nodes kind h) ls → EachChild (Stands nodes h) ls
limbs_stand nodes kind h [] p = tt
limbs_stand nodes kind h (l ∷ ls) p = (p.1.0, limbs_stand nodes kind h ls p.2)

limbs_name : (nodes : ℕ → Option Node) (kind h : ℕ) (ls : List (Limb (Shape h))) → EachLimb kind (Fine nodes kind h) ls → EachChild (NamesFirst h) ls
limbs_name nodes kind h [] p = tt
limbs_name nodes kind h (l ∷ ls) p = (p.1.1, limbs_name nodes kind h ls p.2)

limbs_kind : (nodes : ℕ → Option Node) (kind h : ℕ) (ls : List (Limb (Shape h))) → EachLimb kind (Fine nodes kind h) ls → EachLimb kind (OfKind kind h) ls
limbs_kind nodes kind h [] p = tt
limbs_kind nodes kind h (l ∷ ls) p = (p.0, p.1.2, limbs_kind nodes kind h ls p.2)

-- an object is fine where its children are
pub fine_inner : (nodes : ℕ → Option Node) (kind h : ℕ) (s : Shape (suc h)) → nodes s.oid ≡ Some (node.Inner (record { head = oid_of h s.head; tail = map (branch_of h) s.tail; first = s.first })) → s.first ≡ first_leaf h s.head → Fine nodes kind h s.head → EachLimb kind (Fine nodes kind h) s.tail → Fine nodes kind (suc h) s
fine_inner nodes kind h s e n p q =
    ((e, p.0, limbs_stand nodes kind h s.tail q), (n, p.1, limbs_name nodes kind h s.tail q), (p.2, limbs_kind nodes kind h s.tail q))
