-- The table of what was visited, and its links.
use Rattle.std.proofs.Common.{◌≡◌, ℕ, ◌+◌, ◌-◌, ◌<◌, zero, suc, Bool, true, false, cond, List, [], ◌∷◌, ◌++◌, length, drop, slice_get, is_some, Option, Some, refl, arith, sym, ◌∙◌, ap}
use Rattle.std.specs.Prelude.{nat_eq, ◌||◌, if◌then◌else◌}
use Rattle.std.specs.Map.{lookup}
use Rattle.indexmap.specs.IndexMap.{insert_entry}
use Rattle.btree_checking.specs.declared.links.Pointer.{Pointer}
use Rattle.btree_shapes.specs.declared.node.Node.{Node}
use Rattle.btree_shapes.specs.Nodes.{items_in}
use Rattle.btree_checking.specs.declared.place.Place.{Place}
use Rattle.btree_checking.specs.Rules.{Tour, was_visited, keys_in, pointer_of, kind_with, depth_with, with_visit}
use Rattle.btree_checking.specs.Verdicts.{leaf_or, leaf_in, first_wrong}

found_by : (b : Bool) (pointer : Pointer) (rest : Option Pointer) (was : Bool) → is_some rest ≡ was → is_some (cond b (Some pointer) rest) ≡ (b || was)
found_by true pointer rest was e = refl
found_by false pointer rest was e = e

pub found_visited : (visits : List (ℕ × Pointer)) (oid : ℕ) → is_some (lookup (nat_eq oid) visits) ≡ was_visited visits oid
found_visited [] oid = refl
found_visited (v ∷ vs) oid = found_by (nat_eq oid v.0) v.1 (lookup (nat_eq oid) vs) (was_visited vs oid) (found_visited vs oid)

new_by : (b : Bool) (w : Bool) (x y : List (ℕ × Pointer)) → (b || w) ≡ false → (if b then x else y) ≡ y
new_by true w x y e = absurd cc
new_by false w x y e = refl

was_not : (b w : Bool) → (b || w) ≡ false → w ≡ false
was_not true w e = absurd cc
was_not false w e = e

-- a new object goes last
pub insert_new : (visits : List (ℕ × Pointer)) (oid : ℕ) (pointer : Pointer) → was_visited visits oid ≡ false → insert_entry nat_eq visits oid pointer ≡ visits ++ (oid, pointer) ∷ []
insert_new [] oid pointer e = refl
insert_new (v ∷ vs) oid pointer e =
    new_by (nat_eq oid v.0) (was_visited vs oid) ((v.0, pointer) ∷ vs) (v ∷ insert_entry nat_eq vs oid pointer) e
    ∙ ap (λ zs. v ∷ zs) (insert_new vs oid pointer (was_not (nat_eq oid v.0) (was_visited vs oid) e))

-- ---- from one on

pub drop_one : {X : Type 0} (xs : List X) (i : ℕ) (x : X) → slice_get xs i ≡ Some x → drop i xs ≡ x ∷ drop (suc i) xs
drop_one [] i x e = absurd cc
drop_one (y ∷ ys) zero x e = let same : y ≡ x = cc in ap (λ z. z ∷ ys) same
drop_one (y ∷ ys) (suc i) x e = drop_one ys i x e

pub leaf_before : (visits : List (ℕ × Pointer)) (i : ℕ) (oid : ℕ) (pointer : Pointer) → slice_get visits i ≡ Some (oid, pointer) → leaf_in (drop i visits) ≡ leaf_or oid pointer (leaf_in (drop (suc i) visits))
leaf_before visits i oid pointer e = ap leaf_in (drop_one visits i (oid, pointer) e)

pub wrong_before : (test : Pointer → Option ℕ → Bool) (visits : List (ℕ × Pointer)) (i : ℕ) (oid : ℕ) (pointer : Pointer) → slice_get visits i ≡ Some (oid, pointer) → first_wrong test (drop i visits) ≡ (if test pointer (leaf_in (drop (suc i) visits)) then first_wrong test (drop (suc i) visits) else Some oid)
wrong_before test visits i oid pointer e = ap (first_wrong test) (drop_one visits i (oid, pointer) e)

-- ---- one more object was visited

pub visit_is : (tour : Tour) (place : Place) (node : Node) (visits : List (ℕ × Pointer)) (kind depth : Option ℕ) (items : ℕ) → visits ≡ tour.visits ++ (place.oid, pointer_of node) ∷ [] → kind ≡ kind_with tour.kind (keys_in node) → depth ≡ depth_with tour.depth place.level node → items ≡ tour.items + length (items_in node) → record { visits = visits; kind = kind; depth = depth; items = items } ≡ with_visit place tour node
visit_is tour place node visits kind depth items v k d i = rw (v, k, d, i) refl

-- ---- one further back

back_one : (place : ℕ) → 0 < place → place ≡ suc (place - 1)
back_one place l = omega (arith, l)

pub leaf_step : (visits : List (ℕ × Pointer)) (place oid : ℕ) (pointer : Pointer) (leaf : Option ℕ) → 0 < place → slice_get visits (place - 1) ≡ Some (oid, pointer) → leaf ≡ leaf_in (drop place visits) → leaf_or oid pointer leaf ≡ leaf_in (drop (place - 1) visits)
leaf_step visits place oid pointer leaf l e f =
    ap (leaf_or oid pointer) (f ∙ ap (λ n. leaf_in (drop n visits)) (back_one place l)) ∙ sym (leaf_before visits (place - 1) oid pointer e)

pub wrong_step : (test : Pointer → Option ℕ → Bool) (visits : List (ℕ × Pointer)) (place oid : ℕ) (pointer : Pointer) (leaf behind : Option ℕ) → 0 < place → slice_get visits (place - 1) ≡ Some (oid, pointer) → leaf ≡ leaf_in (drop place visits) → behind ≡ first_wrong test (drop place visits) → (if test pointer leaf then behind else Some oid) ≡ first_wrong test (drop (place - 1) visits)
wrong_step test visits place oid pointer leaf behind l e f g =
    ap (λ a. if test pointer a then behind else Some oid) (f ∙ ap (λ n. leaf_in (drop n visits)) (back_one place l))
    ∙ ap (λ b. if test pointer (leaf_in (drop (suc (place - 1)) visits)) then b else Some oid) (g ∙ ap (λ n. first_wrong test (drop n visits)) (back_one place l))
    ∙ sym (wrong_before test visits (place - 1) oid pointer e)
