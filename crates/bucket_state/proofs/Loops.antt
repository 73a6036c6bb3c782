-- What loops over members and entries have found so far.
use Rattle.std.proofs.Common.{◌≡◌, List, [], ◌∷◌, ◌++◌, Option, Some, None, refl, ap, append_assoc}
use Rattle.bucket_state.specs.States.{found_both}

-- these, and behind them what is found, if it is
abbrev pub behind : {X : Type 0} → List X → Option (List X) → Option (List X)
behind xs None = None
behind xs (Some ys) = Some (xs ++ ys)

pub behind_nothing : {X : Type 0} (found : Option (List X)) → behind [] found ≡ found
behind_nothing None = refl
behind_nothing (Some ys) = refl

pub behind_more : {X : Type 0} (xs : List X) (x : X) (found : Option (List X)) → behind (xs ++ x ∷ []) found ≡ behind xs (found_both (λ y ys. y ∷ ys) (Some x) found)
behind_more xs x None = refl
behind_more xs x (Some ys) = ap Some (append_assoc xs (x ∷ []) ys)
