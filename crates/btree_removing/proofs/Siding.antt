-- Steps of the loop over the objects of a way, for the children besides it.
use Rattle.std.proofs.Common.{◌≡◌, ℕ, ◌+◌, Bool, List, [], ◌∷◌, ◌++◌, Option, Some, None, refl, arith, sym, ◌∙◌, ap, length, zero, suc, drop}
use Rattle.std.specs.Prelude.{slice_get, ◌≤◌}
use Rattle.btree_family.specs.declared.key.Key.{Key}
use Rattle.btree_removing.specs.declared.rung.Rung.{Rung}
use Rattle.btree_removing.specs.declared.sides.Sides.{Sides}
use Rattle.btree_removing.specs.Sides.{side, sides_from, no_sides, sides_of}

drop_at : (xs : List Rung) (n : ℕ) (x : Rung) → slice_get xs n ≡ Some x → drop n xs ≡ x ∷ drop (suc n) xs
drop_at [] n x e = cc
drop_at (y ∷ ys) zero x e = ap (λ z. z ∷ ys) (cc)
drop_at (y ∷ ys) (suc n) x e = drop_at ys n x e

drop_all : (xs : List Rung) (n : ℕ) → length xs ≤ n → drop n xs ≡ []
drop_all [] zero l = refl
drop_all [] (suc n) l = refl
drop_all (x ∷ xs) zero l = absurd (omega (arith, l))
drop_all (x ∷ xs) (suc n) l = drop_all xs n (omega (arith, l))

-- what the rest of the objects gives is the whole
pub record SidesSo (key : Key) (rungs : List Rung) (above : List ℕ) (found : Sides) (place : ℕ) : Type 0 where
  pub gives : sides_from above key found (drop place rungs) ≡ sides_of key rungs

pub sides_start : (key : Key) (rungs : List Rung) (above : List ℕ) → above ≡ [] → SidesSo key rungs above (record { left = None; head = None }) 0
sides_start key rungs above e = record { gives = ap (λ xs. sides_from xs key no_sides rungs) e }

pub sides_step : (key : Key) (rungs : List Rung) (above above' : List ℕ) (found found' : Sides) (place place' : ℕ) (rung : Rung) → SidesSo key rungs above found place → place' ≡ suc place → slice_get rungs place ≡ Some rung → above' ≡ above ++ rung.oid ∷ [] → found' ≡ side above' key found rung → SidesSo key rungs above' found' place'
sides_step key rungs above above' found found' place place' rung s p g a f = record {
  gives =
      ap (λ n. sides_from above' key found' (drop n rungs)) p
      ∙ ap (λ x. sides_from above' key x (drop (suc place) rungs)) f
      ∙ ap (λ xs. sides_from xs key (side xs key found rung) (drop (suc place) rungs)) a
      ∙ ap (λ xs. sides_from above key found xs) (sym (drop_at rungs place rung g))
      ∙ s.gives;
}

pub sides_end : (key : Key) (rungs : List Rung) (above : List ℕ) (found : Sides) (place : ℕ) → SidesSo key rungs above found place → length rungs ≤ place → found ≡ sides_of key rungs
sides_end key rungs above found place s l = ap (sides_from above key found) (sym (drop_all rungs place l)) ∙ s.gives
