-- A chain of leaves in which one got a new one behind it.
use Rattle.std.proofs.Common.{◌≡◌, ℕ, List, [], ◌∷◌, ◌++◌, Bool, true, false, Option, Some, None, refl, arith, sym, ◌∙◌, ap, inl, inr}
use Rattle.std.specs.Prelude.{if◌then◌else◌, ◌==◌}
use Rattle.std.proofs.lemmas.Grind.{common_steps}
use Rattle.btree_shapes.specs.Shapes.{Link, Linked}
use Rattle.btree_shapes.specs.ChainLaws.{Avoids, In, Distinct, in_front, avoids_in}

-- where a leaf got a new one behind it, it links to that one, which takes over its link
abbrev pub relink : ℕ → Option ℕ → List Link → List Link
relink to None ls = ls
relink to (Some o) [] = []
relink to (Some o) (x ∷ xs) = if x.oid == to then record { oid = x.oid; next = Some o } ∷ record { oid = o; next = x.next } ∷ xs else x ∷ relink to (Some o) xs

pub relink_here : (to o : ℕ) (x : Link) (xs : List Link) → x.oid ≡ to → relink to (Some o) (x ∷ xs) ≡ record { oid = x.oid; next = Some o } ∷ record { oid = o; next = x.next } ∷ xs
relink_here to o x xs e = grind (arith, common_steps)

relink_there : (to o : ℕ) (x : Link) (xs : List Link) → (x.oid ≡ to → ⊥) → relink to (Some o) (x ∷ xs) ≡ x ∷ relink to (Some o) xs
relink_there to o x xs n = grind (arith, common_steps)

pub relink_front : (to : ℕ) (w : Option ℕ) (xs ys : List Link) → In to xs → Distinct (xs ++ ys) → relink to w (xs ++ ys) ≡ relink to w xs ++ ys
relink_front to None xs ys i d = refl
relink_front to (Some o) [] ys i d = elim i [ ]
relink_front to (Some o) (x ∷ xs) ys (inl e) d = relink_here to o x (xs ++ ys) e ∙ ap (λ zs. zs ++ ys) (sym (relink_here to o x xs e))
relink_front to (Some o) (x ∷ xs) ys (inr i) d =
    let n : x.oid ≡ to → ⊥ = λ e. avoids_in x.oid (xs ++ ys) d.0 (in_front x.oid xs ys (rw e i)) in
    relink_there to o x (xs ++ ys) n ∙ ap (λ zs. x ∷ zs) (relink_front to (Some o) xs ys i d.1) ∙ ap (λ zs. zs ++ ys) (sym (relink_there to o x xs n))

pub relink_back : (to : ℕ) (w : Option ℕ) (xs ys : List Link) → Avoids to xs → relink to w (xs ++ ys) ≡ xs ++ relink to w ys
relink_back to None xs ys a = refl
relink_back to (Some o) [] ys a = refl
relink_back to (Some o) (x ∷ xs) ys a = relink_there to o x (xs ++ ys) a.0 ∙ ap (λ zs. x ∷ zs) (relink_back to (Some o) xs ys a.1)

linked_if : (b : Bool) (o : ℕ) (x : Link) (xs zs : List Link) → Linked (record { oid = x.oid; next = Some o } ∷ record { oid = o; next = x.next } ∷ xs) → Linked (x ∷ zs) → Linked (if b then record { oid = x.oid; next = Some o } ∷ record { oid = o; next = x.next } ∷ xs else x ∷ zs)
linked_if true o x xs zs p q = p
linked_if false o x xs zs p q = q

linked_before : (b : Bool) (x a y : Link) (xs zs : List Link) → x.next ≡ Some a.oid → x.next ≡ Some y.oid → Linked (if b then a ∷ xs else y ∷ zs) → Linked (x ∷ (if b then a ∷ xs else y ∷ zs))
linked_before true x a y xs zs p q l = (p, l)
linked_before false x a y xs zs p q l = (q, l)

-- the chain stays one
pub linked_relink : (to : ℕ) (w : Option ℕ) (xs : List Link) → Linked xs → Linked (relink to w xs)
linked_relink to None xs l = l
linked_relink to (Some o) [] l = tt
linked_relink to (Some o) (x ∷ []) l = linked_if (x.oid == to) o x [] [] (refl, l) l
linked_relink to (Some o) (x ∷ y ∷ ys) l =
    linked_if (x.oid == to) o x (y ∷ ys) (relink to (Some o) (y ∷ ys)) (refl, l)
    (linked_before (y.oid == to) x (record { oid = y.oid; next = Some o }) y (record { oid = o; next = y.next } ∷ ys) (relink to (Some o) ys) l.0 l.0 (linked_relink to (Some o) (y ∷ ys) l.1))
