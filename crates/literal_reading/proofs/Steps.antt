-- Steps of reading: what follows from a step that answers.
use Rattle.std.proofs.Common.{◌≡◌, ℕ, Bool, true, false, cond, List, [], ◌∷◌, ◌++◌, length, take, drop, Option, Some, None, refl, sym, ◌∙◌}
use Rattle.std.specs.Str.{bytes_eq}
use Rattle.std.proofs.lemmas.Option.{cond_some, some_pair_parts}
use Rattle.std.proofs.lemmas.List.{take-append-drop, take_at, drop_at}
use Rattle.std.proofs.lemmas.Slice.Eq.{bytes_eq-Decides}
use Rattle.literal_reading.specs.Reading.{if_some, rest_behind, one_at}

-- one of two ways was taken
pub from_if : {A B P : Type 0} (o : Option A) (f : A → Option B) (other : Option B) (y : B) → if_some o f other ≡ Some y
    → ((x : A) → o ≡ Some x → f x ≡ Some y → P) → (other ≡ Some y → P) → P
from_if (Some x) f other y e then else_way = then x refl e
from_if None f other y e then else_way = else_way e

-- the test held
pub cond_true : {A : Type 0} (b : Bool) (r : Option A) (y : A) → cond b r None ≡ Some y → (b ≡ true) × (r ≡ Some y)
cond_true true r y e = (refl, e)
cond_true false r y e = absurd cc

-- the test failed
pub cond_false : {A : Type 0} (b : Bool) (r : Option A) (y : A) → cond b None r ≡ Some y → (b ≡ false) × (r ≡ Some y)
cond_false true r y e = absurd cc
cond_false false r y e = (refl, e)

pub behind_takes : (word bytes rest : List ℕ) → rest_behind word bytes ≡ Some rest → bytes ≡ word ++ rest
unfolding rest_behind
behind_takes word bytes rest e =
    let p = cond_some (bytes_eq (take (length word) bytes) word) (drop (length word) bytes) rest e in
    let front : take (length word) bytes ≡ word = (bytes_eq-Decides _ _).0 p.0 in
    sym (take-append-drop (length word) bytes) ∙ cc (front, p.1)

pub behind_again : (word rest : List ℕ) → rest_behind word (word ++ rest) ≡ Some rest
unfolding rest_behind
behind_again word rest =
    let front = take_at word rest (length word) refl in
    let back = drop_at word rest (length word) refl in
    let same : bytes_eq word word ≡ true = (bytes_eq-Decides word word).1 refl in
    rw (front, back, same) refl

pub one_takes : (bytes : List ℕ) (b : ℕ) (rest : List ℕ) → one_at bytes ≡ Some (b, rest) → bytes ≡ b ∷ rest
one_takes [] b rest e = absurd cc
one_takes (c ∷ bytes) b rest e = let p = some_pair_parts _ _ _ _ e in cc (p.0, p.1)
