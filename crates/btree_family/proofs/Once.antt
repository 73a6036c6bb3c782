-- A table in which no class stands twice.
use Rattle.std.proofs.Common.{◌≡◌, ℕ, zero, suc, Bool, true, false, List, [], ◌∷◌, Some, refl, sym, ◌∙◌, ap, cond, eqb, slice_get, ◌&&◌}
use Rattle.std.proofs.lemmas.Bool.{false≢true}
use Rattle.std.specs.Cmp.{first_so, second_so}
use Rattle.std.specs.Cmp.Lexicographic.{pointwise, bytes_decides}
use Rattle.btree_family.specs.Classes.{Class, is_known_as, class_in, has_class, no_class_twice}

-- a class is known by its own names
known_itself : (m n : List ℕ) (c : Class) → c.module_name ≡ m → c.class_name ≡ n → is_known_as m n c ≡ true
known_itself m n c p q =
    let one : pointwise eqb c.module_name m ≡ true = (bytes_decides c.module_name m).1 p in
    let two : pointwise eqb c.class_name n ≡ true = (bytes_decides c.class_name n).1 q in
    λ i. one i && two i

-- the table has the names of its classes
has_its_class : (classes : List Class) (i : ℕ) (c : Class) (m n : List ℕ) → slice_get classes i ≡ Some c → c.module_name ≡ m → c.class_name ≡ n → has_class classes m n ≡ true
has_its_class [] i c m n h p q = cc
has_its_class (first ∷ rest) zero c m n h p q =
    let same : first ≡ c = cc in
    let e : is_known_as m n first ≡ true = known_itself m n first (ap (λ (x : Class). x.module_name) same ∙ p) (ap (λ (x : Class). x.class_name) same ∙ q) in
    rw e refl
has_its_class (first ∷ rest) (suc i) c m n h p q = either (is_known_as m n first) (has_class rest m n) (has_its_class rest i c m n h p q)
  where
    either : (t b : Bool) → b ≡ true → cond t true b ≡ true
    either true b e = refl
    either false b e = e

-- the first class's names stand in no later one
apart : (first : Class) (rest : List Class) (i : ℕ) (c : Class) → no_class_twice (first ∷ rest) ≡ true → slice_get rest i ≡ Some c → first.module_name ≡ c.module_name → first.class_name ≡ c.class_name → ⊥
apart first rest i c h here p q =
    let has : has_class rest first.module_name first.class_name ≡ true = has_its_class rest i c first.module_name first.class_name here (sym p) (sym q) in
    false≢true (sym (ap (λ b. cond b false (no_class_twice rest)) has) ∙ h)

-- the later classes have no names twice
later : (first : Class) (rest : List Class) → no_class_twice (first ∷ rest) ≡ true → no_class_twice rest ≡ true
later first rest h = second (has_class rest first.module_name first.class_name) (no_class_twice rest) h
  where
    second : (t b : Bool) → cond t false b ≡ true → b ≡ true
    second true b e = absurd (false≢true e)
    second false b e = e

-- a class that isn't known by these names
unknown : (m n : List ℕ) (c : Class) → ((c.module_name ≡ m) → (c.class_name ≡ n) → ⊥) → (t : Bool) → is_known_as m n c ≡ t → t ≡ false
unknown m n c no_way true e =
    absurd (no_way ((bytes_decides c.module_name m).0 (first_so (pointwise eqb c.module_name m) (pointwise eqb c.class_name n) e)) ((bytes_decides c.class_name n).0 (second_so (pointwise eqb c.module_name m) (pointwise eqb c.class_name n) e)))
unknown m n c no_way false e = refl

-- names lead to their class
pub class_in-names : (classes : List Class) (i : ℕ) (c : Class) → no_class_twice classes ≡ true → slice_get classes i ≡ Some c → class_in classes c.module_name c.class_name ≡ Some c
class_in-names [] i c h here = cc
class_in-names (first ∷ rest) zero c h here =
    let same : first ≡ c = cc in
    let e : is_known_as c.module_name c.class_name first ≡ true = known_itself c.module_name c.class_name first (ap (λ (x : Class). x.module_name) same) (ap (λ (x : Class). x.class_name) same) in
    rw e (ap Some same)
class_in-names (first ∷ rest) (suc i) c h here =
    let e : is_known_as c.module_name c.class_name first ≡ false = unknown c.module_name c.class_name first (apart first rest i c h here) (is_known_as c.module_name c.class_name first) refl in
    rw e (class_in-names rest i c (later first rest h) here)

-- classes with the same names stand at the same place
pub same_place : (classes : List Class) (i j : ℕ) (a b : Class) → no_class_twice classes ≡ true → slice_get classes i ≡ Some a → slice_get classes j ≡ Some b → a.module_name ≡ b.module_name → a.class_name ≡ b.class_name → i ≡ j
same_place [] i j a b h at_i at_j p q = cc
same_place (first ∷ rest) zero zero a b h at_i at_j p q = refl
same_place (first ∷ rest) zero (suc j) a b h at_i at_j p q =
    let e : first ≡ a = cc in
    absurd (apart first rest j b h at_j (ap (λ (x : Class). x.module_name) e ∙ p) (ap (λ (x : Class). x.class_name) e ∙ q))
same_place (first ∷ rest) (suc i) zero a b h at_i at_j p q =
    let e : first ≡ b = cc in
    absurd (apart first rest i a h at_i (ap (λ (x : Class). x.module_name) e ∙ sym p) (ap (λ (x : Class). x.class_name) e ∙ sym q))
same_place (first ∷ rest) (suc i) (suc j) a b h at_i at_j p q =
    ap (λ n. suc n) (same_place rest i j a b (later first rest h) at_i at_j p q)
