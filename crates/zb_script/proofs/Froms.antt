-- Bytes of which none is below a bound.
use Rattle.std.proofs.Common.{◌≡◌, ℕ, ◌≤◌, Bool, true, false, cond, List, [], ◌∷◌, ◌++◌, Option, Some, None, refl, arith}
use Rattle.std.specs.Prelude.{nat_le, ◌⊎◌}
use Rattle.std.proofs.Common.{inl, inr}
use Rattle.std.specs.List.{AllByRecursion, list_all}
use Rattle.std.specs.Int.{w64, to_be_bytes}
use Rattle.std.proofs.lemmas.Bool.{leb-true, and_parts}
use Rattle.std.proofs.lemmas.Bool.Decides.{nat_tests}
use Rattle.zb_ids.specs.Hex.{hex_text, hex_number}
use Rattle.zb_script.specs.Names.{is_letter_or_digit, IsName}
use Rattle.zb_script.specs.Lines.{Lacks}

-- no byte below k
abbrev pub From : ℕ → List ℕ → Type 0
From k bytes = AllByRecursion (λ b. k ≤ b) bytes

pub From-append : (k : ℕ) (a b : List ℕ) → From k a → From k b → From k (a ++ b)
From-append k [] b p q = q
From-append k (x ∷ a) b p q = (p.0, From-append k a b p.1 q)

pub From-weaker : (j k : ℕ) (a : List ℕ) → k ≤ j → From j a → From k a
From-weaker j k [] le p = tt
From-weaker j k (x ∷ a) le p = (omega (arith, p.0), From-weaker j k a le p.1)

pub from_test : (k : ℕ) (bytes : List ℕ) → list_all (λ b. nat_le k b) bytes ≡ true → From k bytes
from_test k [] h = tt
from_test k (b ∷ bytes) h = let p = and_parts (nat_le k b) (list_all (λ b. nat_le k b) bytes) h in (leb-true k b p.0, from_test k bytes p.1)

pub hex_from : (bytes : List ℕ) → From 48 (hex_text bytes)
hex_from [] = tt
hex_from (b ∷ bytes) = (grind (arith, nat_tests), (grind (arith, nat_tests), hex_from bytes))

pub number_from : (n : ℕ) → From 48 (hex_number n)
unfolding hex_number
number_from n = hex_from (to_be_bytes w64 n)

letters_from : (bytes : List ℕ) → list_all is_letter_or_digit bytes ≡ true → From 48 bytes
letters_from [] h = tt
letters_from (b ∷ bytes) h =
    let p = and_parts (is_letter_or_digit b) (list_all is_letter_or_digit bytes) h in
    let one : is_letter_or_digit b ≡ true = p.0 in
    (grind (arith, nat_tests), letters_from bytes p.1)

pub name_from : (bytes : List ℕ) → IsName bytes → From 48 bytes
name_from bytes h = letters_from bytes (and_parts _ _ h).1

pub Lacks-from : (bytes : List ℕ) → From 32 bytes → Lacks 10 bytes
Lacks-from [] h = tt
Lacks-from (b ∷ bytes) h = ((λ e. absurd (omega (arith, e, h.0))), Lacks-from bytes h.1)

-- ---- chosen values

pub cond_none_some : {A : Type 0} (b : Bool) (x y : A) → cond b None (Some x) ≡ Some y → (b ≡ false) × (x ≡ y)
cond_none_some true x y e = absurd cc
cond_none_some false x y e = (refl, cc)

pub cond_none : {A : Type 0} (b : Bool) (r : Option A) (y : A) → cond b None r ≡ Some y → (b ≡ false) × (r ≡ Some y)
cond_none true r y e = absurd cc
cond_none false r y e = (refl, e)

pub cond_else_none : {A : Type 0} (b : Bool) (r : Option A) (y : A) → cond b r None ≡ Some y → (b ≡ true) × (r ≡ Some y)
cond_else_none true r y e = (refl, e)
cond_else_none false r y e = absurd cc

pub chosen : {A : Type 0} (b : Bool) (x y z : A) → cond b x y ≡ z → ((b ≡ true) × (x ≡ z)) ⊎ ((b ≡ false) × (y ≡ z))
chosen true x y z e = inl (refl, e)
chosen false x y z e = inr (refl, e)
