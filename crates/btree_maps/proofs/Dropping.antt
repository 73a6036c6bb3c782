-- Chains of leaves that one leaf leaves.
use Rattle.std.proofs.Common.{◌≡◌, ℕ, List, [], ◌∷◌, ◌++◌, Bool, true, false, Option, refl, arith, sym, ◌∙◌, ap, subst, inl, inr}
use Rattle.std.specs.Prelude.{map, if◌then◌else◌, ◌==◌}
use Rattle.std.proofs.lemmas.Grind.{common_steps}
use Rattle.std.proofs.lemmas.Bool.{cases_eq}
use Rattle.btree_shapes.specs.Shapes.{Link, Linked}
use Rattle.btree_shapes.specs.ChainLaws.{Avoids, In, Distinct, distinct_parts, distinct_back}

-- ---- without one link

abbrev pub drop_link : ℕ → List Link → List Link
drop_link to [] = []
drop_link to (x ∷ xs) = if x.oid == to then xs else x ∷ drop_link to xs

-- a leaf that is emptied leaves the chain
abbrev pub cut_links : Bool → ℕ → List Link → List Link
cut_links true to ls = drop_link to ls
cut_links false to ls = ls

pub drop_same : (to : ℕ) (x : Link) (xs : List Link) → x.oid ≡ to → drop_link to (x ∷ xs) ≡ xs
drop_same to x xs e = grind (arith, common_steps)

pub drop_other : (to : ℕ) (x : Link) (xs : List Link) → (x.oid ≡ to → ⊥) → drop_link to (x ∷ xs) ≡ x ∷ drop_link to xs
drop_other to x xs n = grind (arith, common_steps)

drop_front : (to : ℕ) (xs ys : List Link) → In to xs → drop_link to (xs ++ ys) ≡ drop_link to xs ++ ys
drop_front to [] ys i = elim i [ ]
drop_front to (x ∷ xs) ys (inl e) = drop_same to x (xs ++ ys) e ∙ ap (λ zs. zs ++ ys) (sym (drop_same to x xs e))
drop_front to (x ∷ xs) ys (inr i) = elim (cases_eq x.oid to) [
  | inl e ↦ drop_same to x (xs ++ ys) e ∙ ap (λ zs. zs ++ ys) (sym (drop_same to x xs e))
  | inr n ↦ drop_other to x (xs ++ ys) n ∙ ap (λ zs. x ∷ zs) (drop_front to xs ys i) ∙ ap (λ zs. zs ++ ys) (sym (drop_other to x xs n))
]

pub drop_back : (to : ℕ) (xs ys : List Link) → Avoids to xs → drop_link to (xs ++ ys) ≡ xs ++ drop_link to ys
drop_back to [] ys a = refl
drop_back to (x ∷ xs) ys a = drop_other to x (xs ++ ys) a.0 ∙ ap (λ zs. x ∷ zs) (drop_back to xs ys a.1)

pub cut_front : (e : Bool) (to : ℕ) (xs ys : List Link) → In to xs → cut_links e to (xs ++ ys) ≡ cut_links e to xs ++ ys
cut_front true to xs ys i = drop_front to xs ys i
cut_front false to xs ys i = refl

pub cut_back : (e : Bool) (to : ℕ) (xs ys : List Link) → Avoids to xs → cut_links e to (xs ++ ys) ≡ xs ++ cut_links e to ys
cut_back true to xs ys a = drop_back to xs ys a
cut_back false to xs ys a = refl

-- ---- with another link of one leaf

abbrev pub relink_one : ℕ → Option ℕ → Link → Link
relink_one p nx x = record { oid = x.oid; next = if x.oid == p then nx else x.next }

pub map_append : {X Y : Type 0} (g : X → Y) (xs ys : List X) → map g (xs ++ ys) ≡ map g xs ++ map g ys
map_append g [] ys = refl
map_append g (x ∷ xs) ys = ap (λ zs. g x ∷ zs) (map_append g xs ys)

avoids_map : (p : ℕ) (nx : Option ℕ) (o : ℕ) (xs : List Link) → Avoids o xs → Avoids o (map (relink_one p nx) xs)
avoids_map p nx o [] a = tt
avoids_map p nx o (x ∷ xs) a = (a.0, avoids_map p nx o xs a.1)

pub distinct_map : (p : ℕ) (nx : Option ℕ) (xs : List Link) → Distinct xs → Distinct (map (relink_one p nx) xs)
distinct_map p nx [] d = tt
distinct_map p nx (x ∷ xs) d = (avoids_map p nx x.oid xs d.0, distinct_map p nx xs d.1)

pub next_other : (p : ℕ) (nx old : Option ℕ) (o : ℕ) → (o ≡ p → ⊥) → (if o == p then nx else old) ≡ old
next_other p nx old o n = grind (arith, common_steps)

pub next_same : (p : ℕ) (nx old : Option ℕ) (o : ℕ) → o ≡ p → (if o == p then nx else old) ≡ nx
next_same p nx old o e = grind (arith, common_steps)

pub relink_off : (p : ℕ) (nx : Option ℕ) (x : Link) → (x.oid ≡ p → ⊥) → relink_one p nx x ≡ x
relink_off p nx x n = ap (λ z. record { oid = x.oid; next = z }) (next_other p nx x.next x.oid n)

pub relink_at : (p : ℕ) (nx : Option ℕ) (x : Link) → x.oid ≡ p → relink_one p nx x ≡ record { oid = x.oid; next = nx }
relink_at p nx x e = ap (λ z. record { oid = x.oid; next = z }) (next_same p nx x.next x.oid e)

relink_avoids : (p : ℕ) (nx : Option ℕ) (xs : List Link) → Avoids p xs → map (relink_one p nx) xs ≡ xs
relink_avoids p nx [] a = refl
relink_avoids p nx (x ∷ xs) a = ap (λ z. z ∷ map (relink_one p nx) xs) (relink_off p nx x a.0) ∙ ap (λ zs. x ∷ zs) (relink_avoids p nx xs a.1)

-- ---- the chain stays one

abbrev pub link : ℕ → Option ℕ → Link
link oid next = record { oid = oid; next = next }

-- without one link, which the one before takes over
cut_chain : (xs ys : List Link) (p to : ℕ) (q next : Option ℕ) → Linked (xs ++ link p q ∷ link to next ∷ ys) → Linked (xs ++ link p next ∷ ys)
cut_chain [] [] p to q next l = l.1
cut_chain [] (y ∷ ys) p to q next l = l.1
cut_chain (x ∷ []) ys p to q next l = (l.0, cut_chain [] ys p to q next l.1)
cut_chain (x ∷ z ∷ zs) ys p to q next l = (l.0, cut_chain (z ∷ zs) ys p to q next l.1)

-- where the leaf before took over the link
pub chain_after : (xs ys : List Link) (p to : ℕ) (q next : Option ℕ) → Linked (xs ++ link p q ∷ link to next ∷ ys) → Distinct (xs ++ link p q ∷ link to next ∷ ys) → Linked (drop_link to (map (relink_one p next) (xs ++ link p q ∷ link to next ∷ ys)))
chain_after xs ys p to q next l d =
    let dp = distinct_parts xs (link p q ∷ link to next ∷ ys) d in
    let ax = distinct_back p xs (link p q ∷ link to next ∷ ys) d (inl refl) in
    let tx = distinct_back to xs (link p q ∷ link to next ∷ ys) d (inr (inl refl)) in
    let off = dp.1.0 in
    let e1 : map (relink_one p next) (xs ++ link p q ∷ link to next ∷ ys) ≡ xs ++ link p next ∷ link to next ∷ ys =
    map_append (relink_one p next) xs (link p q ∷ link to next ∷ ys)
    ∙ ap (λ zs. zs ++ relink_one p next (link p q) ∷ map (relink_one p next) (link to next ∷ ys)) (relink_avoids p next xs ax)
    ∙ ap (λ z. xs ++ z ∷ map (relink_one p next) (link to next ∷ ys)) (relink_at p next (link p q) refl)
    ∙ ap (λ zs. xs ++ link p next ∷ zs) (relink_avoids p next (link to next ∷ ys) off) in
    let e2 : drop_link to (xs ++ link p next ∷ link to next ∷ ys) ≡ xs ++ link p next ∷ ys =
    drop_back to xs (link p next ∷ link to next ∷ ys) tx
    ∙ ap (λ zs. xs ++ zs) (drop_other to (link p next) (link to next ∷ ys) (λ e. off.0 (sym e)) ∙ ap (λ zs. link p next ∷ zs) (drop_same to (link to next) ys refl)) in
    subst (λ zs. Linked (drop_link to zs)) (sym e1) (subst Linked (sym e2) (cut_chain xs ys p to q next l))

-- where the leaf was the first, nothing else moves
pub chain_first : (to : ℕ) (next : Option ℕ) (ys : List Link) → Linked (link to next ∷ ys) → Linked (drop_link to (link to next ∷ ys))
chain_first to next ys l = subst Linked (sym (drop_same to (link to next) ys refl)) (rest_of (link to next) ys l) where
  rest_of : (x : Link) (xs : List Link) → Linked (x ∷ xs) → Linked xs
  rest_of x [] l = tt
  rest_of x (y ∷ ys) l = l.1
