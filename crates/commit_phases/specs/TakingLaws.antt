-- What is left of stores that are taken one by one. For the proofs of those who take them.
use Rattle.std.proofs.Common.{◌≡◌, ℕ, ◌+◌, List, ◌∷◌, length, ap, arith}
use Rattle.std.specs.Prelude.{All}
use Rattle.std.proofs.lemmas.List.Elements.{All-rest}
use Rattle.zb_model.specs.declared.pending.PendingStore.{PendingStore}
use Rattle.zb_model.specs.Database.{IsRecord}

-- so many are left, and none of them stores an empty record
pub record AreLeft (count : ℕ) (left : List PendingStore) : Type 0 where
  pub ends : count ≡ length left
  pub filled : All (λ p. IsRecord p.content) left

pub one_fewer : (count next : ℕ) (items left : List PendingStore) (p : PendingStore) → items ≡ p ∷ left → next + 1 ≡ count → AreLeft count items → AreLeft next left
one_fewer count next items left p is fewer are =
    let ends : count ≡ length items = are.ends in
    let lengths : length items ≡ length (p ∷ left) = ap (λ (ps : List PendingStore). length ps) is in
    record {
      ends = omega (arith, fewer, ends, lengths);
      filled = All-rest (λ (q : PendingStore). IsRecord q.content) p left items is are.filled;
    }
