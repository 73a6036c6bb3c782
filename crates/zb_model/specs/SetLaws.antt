-- What is in a set of objects once one was put in.
use Rattle.std.proofs.Common.{◌≡◌, ℕ, Bool, ◌||◌, eqb, ap, ◌∙◌}
use Rattle.std.specs.Cmp.{nat_cmp_total, unsigned_tied}
use Rattle.std.specs.Ordering.{nat_cmp, eq_by_cmp}
use Rattle.std.specs.FinSet.{FinSet, contains, contains-insert, insert}

-- an object that is put in, and another
pub in_inserted : (s : FinSet nat_cmp) (k q : ℕ) → contains (insert s k) q ≡ (eqb q k || contains s q)
in_inserted s k q =
    contains-insert nat_cmp_total s k q ∙ ap (λ (b : Bool). b || contains s q) (tie q k)
  where
    tie : (a b : ℕ) → eq_by_cmp nat_cmp a b ≡ eqb a b
    tie a b = unsigned_tied a b
