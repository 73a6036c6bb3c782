-- A shape that takes an addition stays as it is.
use Rattle.std.proofs.Common.{◌≡◌, ℕ, zero, suc, Bool, true, false, cond, List, [], ◌∷◌, Option, Some, None, refl, sym, ◌∙◌, ap, subst}
use Rattle.std.specs.Prelude.{slice_get, slice_set}
use Rattle.pickle_reading.specs.Steps.{IsAdded}
use Rattle.pickle_references.specs.declared.shapes.Shape.{Shape}
use Rattle.pickle_references.specs.declared.shapes.Adding.{Adding}
use Rattle.pickle_references.specs.declared.shapes.Adding.TheVariants as addings
use Rattle.pickle_references.specs.Shapes.{takes}
use Rattle.pickle_references.specs.Sights.{with_adding}

-- what stands there may stand there again
pub set-same : (xs : List Shape) (n : ℕ) (x : Shape) → slice_get xs n ≡ Some x → slice_set xs n x ≡ xs
set-same [] n x h = refl
set-same (y ∷ xs) zero x h = let e : y ≡ x = cc in ap (λ (z : Shape). z ∷ xs) (sym e)
set-same (y ∷ xs) (suc n) x h = ap (λ (l : List Shape). y ∷ l) (set-same xs n x h)

with-taking : (shapes : List Shape) (number : ℕ) (shape : Shape) → slice_get shapes number ≡ Some shape → (b : Bool) → IsAdded b shapes number (cond b (Some shape) None) shapes
with-taking shapes number shape h true = (refl, sym (set-same shapes number shape h))
with-taking shapes number shape h false = refl

pub takes-none : (adding : Adding) → takes adding None ≡ false
takes-none addings.Values = refl
takes-none addings.Pairs = refl
takes-none addings.State = refl

pub stays : (shapes : List Shape) (number : ℕ) (adding : Adding) (found : Option Shape) (is : Bool) → slice_get shapes number ≡ found → is ≡ takes adding found → IsAdded is shapes number (with_adding adding found) shapes
stays shapes number adding None is h e = e ∙ takes-none adding
stays shapes number adding (Some shape) is h e = subst (λ (b : Bool). IsAdded b shapes number (with_adding adding (Some shape)) shapes) (sym e) (with-taking shapes number shape h (takes adding (Some shape)))
