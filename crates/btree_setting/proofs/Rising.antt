-- Steps of the loops over the objects above a leaf.
use Rattle.std.proofs.Common.{◌≡◌, ℕ, ◌+◌, ◌-◌, ◌<◌, ◌≤◌, Bool, true, false, List, [], ◌∷◌, ◌++◌, Option, Some, None, refl, arith, sym, ◌∙◌, ap, subst, length, zero, suc, drop, append_assoc, append-nil}
use Rattle.std.specs.Prelude.{slice_get, ◌&&◌}
use Rattle.btree_family.specs.declared.key.Key.{Key}
use Rattle.btree_shapes.specs.declared.path.Step.{Step}
use Rattle.btree_setting.specs.declared.bottom.Bottom.{Bottom}
use Rattle.btree_setting.specs.declared.change.Change.{Change}
use Rattle.btree_setting.specs.declared.growing.Terms.{Terms}
use Rattle.btree_setting.specs.declared.rung.Rung.{Rung}
use Rattle.btree_setting.specs.Rungs.{grows, first_below, rung_of, rungs_of}
use Rattle.btree_putting.specs.Firsts.{is_none}
use Rattle.btree_setting.specs.Changes.{IsBottom, IsSet, IsRootSet, Rise, RootRise}

-- ---- the objects of a way

-- those below the rest of the path are done
pub record RungsSo (max : ℕ) (key : Key) (splits : Bool) (leaf : ℕ) (whole path : List Step) (rungs : List Rung) (leaves grow : Bool) (first : ℕ) : Type 0 where
  pub done : List Step
  pub cut : whole ≡ path ++ done
  pub rungs_are : rungs ≡ rungs_of max key splits leaf done
  pub leaves_are : leaves ≡ is_none done
  pub grow_is : grow ≡ grows max splits done
  pub first_is : first ≡ first_below leaf done

pub rungs_start : (max : ℕ) (key : Key) (splits : Bool) (leaf : ℕ) (whole : List Step) (rungs : List Rung) → rungs ≡ [] → RungsSo max key splits leaf whole whole rungs true splits leaf
rungs_start max key splits leaf whole rungs e = record { done = []; cut = sym (append-nil whole); rungs_are = e; leaves_are = refl; grow_is = refl; first_is = refl }

pub rungs_step : (max : ℕ) (key : Key) (splits : Bool) (leaf : ℕ) (whole path path' : List Step) (rungs rungs' : List Rung) (leaves grow : Bool) (first : ℕ) (step : Step) (rung : Rung) (grow' : Bool) → RungsSo max key splits leaf whole path rungs leaves grow first → path ≡ path' ++ step ∷ [] → rungs' ≡ rung ∷ rungs → ((done : List Step) → leaves ≡ is_none done → grow ≡ grows max splits done → first ≡ first_below leaf done → (rung ≡ rung_of max key splits leaf step done) × (grow' ≡ grows max splits (step ∷ done))) → RungsSo max key splits leaf whole path' rungs' false grow' step.inner.first
rungs_step max key splits leaf whole path path' rungs rungs' leaves grow first step rung grow' s p r f =
    let g = f s.done s.leaves_are s.grow_is s.first_is in
    record {
      done = step ∷ s.done;
      cut = s.cut ∙ ap (λ xs. xs ++ s.done) p ∙ append_assoc path' (step ∷ []) s.done;
      rungs_are = r ∙ ap (λ x. x ∷ rungs) g.0 ∙ ap (λ xs. rung_of max key splits leaf step s.done ∷ xs) s.rungs_are;
      leaves_are = refl;
      grow_is = g.1;
      first_is = refl;
    }

pub rungs_end : (max : ℕ) (key : Key) (splits : Bool) (leaf : ℕ) (whole path : List Step) (rungs : List Rung) (leaves grow : Bool) (first : ℕ) → RungsSo max key splits leaf whole path rungs leaves grow first → path ≡ [] → rungs ≡ rungs_of max key splits leaf whole
rungs_end max key splits leaf whole path rungs leaves grow first s p =
    s.rungs_are ∙ ap (rungs_of max key splits leaf) (sym (s.cut ∙ ap (λ xs. xs ++ s.done) p))

-- ---- the way up

-- what stands from a place on is changed
abbrev pub Climbs : Terms → Bottom → List Rung → ℕ → Change → Type 0
Climbs terms bottom rungs place change = IsSet terms bottom (drop place rungs) change

drop_all : (xs : List Rung) → drop (length xs) xs ≡ []
drop_all [] = refl
drop_all (x ∷ xs) = drop_all xs

drop_at : (xs : List Rung) (n : ℕ) (x : Rung) → slice_get xs n ≡ Some x → drop n xs ≡ x ∷ drop (suc n) xs
drop_at [] n x e = cc
drop_at (y ∷ ys) zero x e = ap (λ z. z ∷ ys) (cc)
drop_at (y ∷ ys) (suc n) x e = drop_at ys n x e

pub climb_start : (terms : Terms) (bottom : Bottom) (rungs : List Rung) (place : ℕ) (change : Change) → place ≡ length rungs → IsBottom terms.leaf terms.plain bottom change → Climbs terms bottom rungs place change
climb_start terms bottom rungs place change e b = subst (λ xs. IsSet terms bottom xs change) (sym (ap (λ n. drop n rungs) e ∙ drop_all rungs)) b

pub climb_step : (terms : Terms) (bottom : Bottom) (rungs : List Rung) (above place : ℕ) (rung : Rung) (below change : Change) → above ≡ suc place → Climbs terms bottom rungs above below → slice_get rungs place ≡ Some rung → Rise terms.inner terms.key terms.plain rung below change → Climbs terms bottom rungs place change
climb_step terms bottom rungs above place rung below change e c g r =
    subst (λ xs. IsSet terms bottom xs change) (sym (drop_at rungs place rung g))
    (below, subst (λ n. IsSet terms bottom (drop n rungs) below) e c, r)

pub climb_root : (terms : Terms) (bottom : Bottom) (rungs : List Rung) (above : ℕ) (rung : Rung) (below change : Change) → above ≡ 1 → Climbs terms bottom rungs above below → slice_get rungs 0 ≡ Some rung → RootRise terms.inner terms.key terms.plain rung below change → IsRootSet terms bottom rungs change
climb_root terms bottom rungs above rung below change e c g r =
    subst (λ xs. IsRootSet terms bottom xs change) (sym (drop_at rungs 0 rung g))
    (below, subst (λ n. IsSet terms bottom (drop n rungs) below) e c, r)

pub no_rungs : (terms : Terms) (bottom : Bottom) (rungs : List Rung) (change : Change) → length rungs ≡ 0 → IsBottom terms.leaf terms.plain bottom change → IsRootSet terms bottom rungs change
no_rungs terms bottom [] change e b = b
no_rungs terms bottom (x ∷ xs) change e b = absurd (omega (arith, e))
