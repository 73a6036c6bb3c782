-- No way down has more objects than there are numbers.
use Rattle.std.proofs.Common.{◌≡◌, ℕ, ◌<◌, ◌^◌, zero, suc, Bool, true, false, List, [], ◌∷◌, length, Option, ◌⊎◌, inl, inr, refl, arith, ap}
use Rattle.std.specs.Prelude.{eqb, ◌||◌}
use Rattle.std.specs.List.{list_any, IsDistinct, AllByRecursion}
use Rattle.std.proofs.lemmas.Bool.{eqb-true}
use Rattle.std.proofs.lemmas.Map.Keys.{IsDistinct-cons}
use Rattle.std.proofs.lemmas.Map.Steps.{length-le_from_distinct_below}
use Rattle.btree_shapes.specs.declared.node.Node.{Node}
use Rattle.btree_shapes.specs.Shapes.{Shape, oid_of, Stands}
use Rattle.btree_checking.specs.Laws.{HaveNumbers, HeightIsBounded}
use Rattle.btree_checking.proofs.Finding.{one_height}

-- the objects of the way down by first children
abbrev spine : (h : ℕ) → Shape h → List ℕ
spine zero s = s.oid ∷ []
spine (suc h) s = s.oid ∷ spine h s.head

spine-length : (h : ℕ) (s : Shape h) → length (spine h s) ≡ suc h
spine-length zero s = refl
spine-length (suc h) s = ap suc (spine-length h s.head)

or_holds : (a b : Bool) → (a || b) ≡ true → (a ≡ true) ⊎ (b ≡ true)
or_holds true b e = inl refl
or_holds false b e = inr e

spine_below : (h : ℕ) (s : Shape h) → HaveNumbers h s → (q : ℕ) → list_any (eqb q) (spine h s) ≡ true → q < 2 ^ 64
spine_below zero s n q e = elim (or_holds (eqb q s.oid) false e) [
  | inl a ↦ let x = eqb-true q s.oid a in omega (arith, x, n)
  | inr b ↦ let bad : ⊥ = cc in absurd bad
]
spine_below (suc h) s n q e = elim (or_holds (eqb q s.oid) (list_any (eqb q) (spine h s.head)) e) [
  | inl a ↦ let x = eqb-true q s.oid a in let y = n.0 in omega (arith, x, y)
  | inr b ↦ spine_below h s.head n.1 q b
]

by_test : (b : Bool) → (b ≡ true) ⊎ (b ≡ false)
by_test true = inl refl
by_test false = inr refl

-- an object that stands higher is none of the way
higher_apart : (nodes : ℕ → Option Node) (h h' : ℕ) (s : Shape h) (t : Shape h') → Stands nodes h s → Stands nodes h' t → h < h' → eqb (oid_of h' t) (oid_of h s) ≡ false
higher_apart nodes h h' s t p q l = elim (by_test (eqb (oid_of h' t) (oid_of h s))) [
  | inl same ↦ let e = (one_height nodes h' h t s q p (eqb-true (oid_of h' t) (oid_of h s) same)).0 in absurd (omega (arith, e, l))
  | inr apart ↦ apart
]

spine_apart : (nodes : ℕ → Option Node) (h h' : ℕ) (s : Shape h) (t : Shape h') → Stands nodes h s → Stands nodes h' t → h < h' → AllByRecursion (λ y. eqb (oid_of h' t) y ≡ false) (spine h s)
spine_apart nodes zero h' s t p q l = (higher_apart nodes zero h' s t p q l, tt)
spine_apart nodes (suc h) h' s t p q l = (higher_apart nodes (suc h) h' s t p q l, spine_apart nodes h h' s.head t p.1 q (omega (arith, l)))

none_distinct : IsDistinct eqb []
unfolding IsDistinct
none_distinct = tt

spine_distinct : (nodes : ℕ → Option Node) (h : ℕ) (s : Shape h) → Stands nodes h s → IsDistinct eqb (spine h s)
spine_distinct nodes zero s p = IsDistinct-cons eqb s.oid [] tt none_distinct
spine_distinct nodes (suc h) s p = IsDistinct-cons eqb s.oid (spine h s.head) (spine_apart nodes h (suc h) s.head s p.1 p (omega arith)) (spine_distinct nodes h s.head p.1)

height : (nodes : ℕ → Option Node) (h : ℕ) (s : Shape h) → HaveNumbers h s → Stands nodes h s → h < 2 ^ 64
height nodes h s n p =
    let l = length-le_from_distinct_below (spine h s) (2 ^ 64) (spine_distinct nodes h s p) (spine_below h s n) in
    let e = spine-length h s in
    omega (arith, l, e)

pub height_bounded : HeightIsBounded
height_bounded nodes root kind h s numbers root_is stands bounded of_kind names linked = record {
  root_is = root_is;
  height = height nodes h s numbers stands;
  stands = stands;
  bounded = bounded;
  of_kind = of_kind;
  names = names;
  linked = linked;
}
