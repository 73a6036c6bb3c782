-- A list of one transaction is a database.
use Rattle.std.proofs.Common.{◌≡◌, ℕ, ◌-◌, ◌<◌, ◌^◌, [], ◌∷◌, map, arith}
use Rattle.std.specs.Prelude.{All, nat_eq}
use Rattle.std.specs.List.{IsDistinct}
use Rattle.std.proofs.lemmas.Grind.{common_steps}
use Rattle.std.proofs.lemmas.List.Elements.{All-cons, All-nil}
use Rattle.zb_model.specs.declared.data.Change.{Change}
use Rattle.zb_model.specs.declared.data.Transaction.{Transaction}
use Rattle.zb_model.specs.Database.{IsDatabase, IsRecord}

one_is_distinct : (n : ℕ) → IsDistinct nat_eq (n ∷ [])
unfolding IsDistinct
one_is_distinct n = (tt, tt)

abbrev AreRecords : Transaction → Type 0
AreRecords t = All (λ c. IsRecord c.content) t.changes

-- of one change, with a number within the bounds
pub first_database : (tid : ℕ) (first : Transaction) (change : Change) → first.tid ≡ tid → 0 < tid → tid < 2 ^ 64 - 1 → first.changes ≡ change ∷ [] → IsRecord change.content → IsDatabase (first ∷ [])
first_database tid first change is above below one filled = record {
  rising = λ k within. grind (arith, common_steps);
  bounded = rw is below;
  distinct = All-cons (λ (t : Transaction). IsDistinct nat_eq (map (λ c. c.oid) t.changes)) first [] (rw one (one_is_distinct change.oid)) (All-nil (λ (t : Transaction). IsDistinct nat_eq (map (λ c. c.oid) t.changes)));
  filled = All-cons AreRecords first [] (rw one (All-cons (λ (c : Change). IsRecord c.content) change [] filled (All-nil (λ (c : Change). IsRecord c.content)))) (All-nil AreRecords);
}
