-- Transactions of a list and of their places.
use Rattle.std.proofs.Common.{◌≡◌, ℕ, zero, suc, Bool, List, [], ◌∷◌, Some, Result, Ok, Err, refl, subst}
use Rattle.std.specs.Prelude.{IfOk, slice_get}
use Rattle.zb_model.specs.declared.data.Change.{Change}
use Rattle.zb_model.specs.declared.data.Transaction.{Transaction}
use Rattle.fs_index.specs.declared.place.Place.{Place}
use Rattle.fs_reading.specs.Standing.{TransactionStands, TransactionsStand}
use Rattle.fs_reading.specs.ChangesStand.{ChangesStand, AllChangesStand}

pub transaction_from : (t : Transaction) {tid : ℕ} {packed : Bool} {user description extension : List ℕ} {changes : List Change}
    → tid ≡ t.tid → packed ≡ t.packed → user ≡ t.user → description ≡ t.description → extension ≡ t.extension → changes ≡ t.changes
    → let made : Transaction = record { tid = tid; packed = packed; user = user; description = description; extension = extension; changes = changes } in made ≡ t
transaction_from t p q r s u v = rw (p, q, r, s, u, v) refl

-- the transaction with a number, and what stands at its place
pub record Numbered (bytes : List ℕ) (ts : List Transaction) (i : ℕ) (p : Place) : Type 0 where
  pub transaction : Transaction
  pub is : slice_get ts i ≡ Some transaction
  pub stands : TransactionStands bytes p transaction
  pub changes : ChangesStand bytes p.at transaction.changes

pub numbered : (bytes : List ℕ) (ps : List Place) (ts : List Transaction) (i : ℕ) (p : Place) → TransactionsStand bytes ps ts → AllChangesStand bytes ps ts → slice_get ps i ≡ Some p → Numbered bytes ts i p
numbered bytes [] ts i p all changes is = absurd cc
numbered bytes (q ∷ qs) [] i p all changes is = absurd all
numbered bytes (q ∷ qs) (t ∷ ts) zero p all changes is =
    let same : q ≡ p = cc in
    record { transaction = t; is = refl; stands = subst (λ (x : Place). TransactionStands bytes x t) same all.0; changes = subst (λ (x : Place). ChangesStand bytes x.at t.changes) same changes.0 }
numbered bytes (q ∷ qs) (t ∷ ts) (suc i) p all changes is = let more = numbered bytes qs ts i p all.1 changes.1 is in record { transaction = more.transaction; is = more.is; stands = more.stands; changes = more.changes }

pub if_ok : {T E : Type 0} (r : Result T E) (P Q : T → Type 0) → ((x : T) → P x → Q x) → IfOk r P → IfOk r Q
if_ok (Ok x) P Q f h = f x h
if_ok (Err e) P Q f h = h
