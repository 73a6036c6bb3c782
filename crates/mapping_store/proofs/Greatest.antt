-- The greatest of numbers in two parts.
use Rattle.std.proofs.Common.{◌≡◌, ℕ, ◌+◌, ◌<◌, max, List, ◌∷◌, ◌++◌, length, get_or, drop, drop-cons, arith}
use Rattle.std.proofs.lemmas.Grind.{common_steps}
use Rattle.std.specs.List.{flat_map}
use Rattle.zb_model.specs.declared.data.Transaction.{Transaction}
use Rattle.zb_model.specs.Queries.{greatest_of, greatest_oid, oids_of}
use Rattle.zb_model.specs.QueryLaws.{greatest-append}

pub greatest_append : (n : ℕ) (ms ns : List ℕ) → max n (greatest_of (ms ++ ns)) ≡ max (max n (greatest_of ms)) (greatest_of ns)
greatest_append n ms ns = rw (greatest-append ms ns) (omega arith)

-- with the objects of one transaction more
pub greatest_first : (n : ℕ) (t : Transaction) (list : List Transaction) → max n (greatest_oid (t ∷ list)) ≡ max (max n (greatest_of (oids_of t))) (greatest_oid list)
greatest_first n t list = greatest_append n (oids_of t) (flat_map oids_of list)

-- one step of a walk over the list
pub greatest_step : (n m i : ℕ) (list : List Transaction) (t : Transaction) → i < length list → t ≡ get_or list i t → m ≡ max n (greatest_of (oids_of t)) → max n (greatest_oid (drop i list)) ≡ max m (greatest_oid (drop (i + 1) list))
greatest_step n m i list t within at is =
    let e : drop i list ≡ t ∷ drop (i + 1) list = grind (arith, common_steps, drop-cons list i t within) in
    rw e (rw is (greatest_first n t (drop (i + 1) list)))
