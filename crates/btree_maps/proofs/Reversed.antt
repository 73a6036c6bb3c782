-- Lists the other way round.
use Rattle.std.proofs.Common.{◌≡◌, List, [], ◌∷◌, refl, ◌∙◌, Bool, true, false, reverse}
use Rattle.std.specs.Prelude.{◌||◌}
use Rattle.std.specs.List.{list_any}
use mathlib.Core.List.{reverse_aux}

or_moved : (a b c : Bool) → (b || (a || c)) ≡ ((a || b) || c)
or_moved true true c = refl
or_moved true false c = refl
or_moved false true c = refl
or_moved false false c = refl

list_any_onto : {X : Type 0} (p : X → Bool) (xs ys : List X) → list_any p (reverse_aux xs ys) ≡ (list_any p xs || list_any p ys)
list_any_onto p [] ys = refl
list_any_onto p (x ∷ xs) ys = list_any_onto p xs (x ∷ ys) ∙ or_moved (p x) (list_any p xs) (list_any p ys)

or_false : (a : Bool) → (a || false) ≡ a
or_false true = refl
or_false false = refl

pub list_any_reversed : {X : Type 0} (p : X → Bool) (xs : List X) → list_any p (reverse xs) ≡ list_any p xs
list_any_reversed p xs = list_any_onto p xs [] ∙ or_false (list_any p xs)
