-- What a store answers of a list in two parts, for the proofs of those who keep stores.
use Rattle.std.proofs.Common.{◌≡◌, ℕ, max, List, [], ◌∷◌, ◌++◌, arith}
use Rattle.zb_model.specs.Queries.{greatest_of}

-- the greatest of two lists is the greater of the two greatest
pub greatest-append : (ms ns : List ℕ) → greatest_of (ms ++ ns) ≡ max (greatest_of ms) (greatest_of ns)
greatest-append [] ns = omega arith
greatest-append (m ∷ ms) ns = rw (greatest-append ms ns) (omega arith)
