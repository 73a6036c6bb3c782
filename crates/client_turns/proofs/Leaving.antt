-- A client whose link isn't known any more, in the place of itself.
use Rattle.std.proofs.Common.{◌≡◌, ℕ, zero, suc, List, [], ◌∷◌, Some, refl, ap, ◌∙◌}
use Rattle.std.specs.Prelude.{slice_get, slice_set}
use Rattle.client_turns.specs.declared.member.Member.{Member}
use Rattle.client_turns.specs.declared.member.Member.TheVariants.{Near, Far}
use Rattle.client_turns.specs.Members.{is_linked, session_of, without_link}

pub set_get : (xs : List Member) (at : ℕ) (x y : Member) → slice_get xs at ≡ Some x → slice_get (slice_set xs at y) at ≡ Some y
set_get [] at x y there = absurd cc
set_get (z ∷ xs) zero x y there = refl
set_get (z ∷ xs) (suc at) x y there = set_get xs at x y there

pub set_twice : (xs : List Member) (at : ℕ) (x y : Member) → slice_set (slice_set xs at x) at y ≡ slice_set xs at y
set_twice [] at x y = refl
set_twice (z ∷ xs) zero x y = refl
set_twice (z ∷ xs) (suc at) x y = ap (λ (ys : List Member). z ∷ ys) (set_twice xs at x y)

pub lost_there : (xs ys : List Member) (at : ℕ) (x : Member) → slice_get xs at ≡ Some x → ys ≡ slice_set xs at (without_link x) → slice_get ys at ≡ Some (without_link x)
lost_there xs ys at x there is = ap (λ (zs : List Member). slice_get zs at) is ∙ set_get xs at x (without_link x) there

pub without_session : (x : Member) → session_of (without_link x) ≡ session_of x
without_session (Near x) = refl
without_session (Far x) = refl

pub without_linked : (x : Member) → is_linked (without_link x) ≡ is_linked x
without_linked (Near x) = refl
without_linked (Far x) = refl
