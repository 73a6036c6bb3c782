-- Changes that wait for a vote. Source: `Connection` and the two-phase commit of ZODB; the limits are own.
use Rattle.std.specs.Prelude.{◌≡◌, ℕ, ◌≤◌, ◌^◌, List, [], ◌∷◌, Option, Some, None, Result, Ok, Err, Bool, ◌==◌, if◌then◌else◌, nat_lt, nat_eq, length, map, All}
use Rattle.std.specs.List.{find, sum_by, IsDistinct}
use Rattle.zb_model.specs.declared.data.Content.{Content}
use Rattle.zb_model.specs.declared.data.Content.TheVariants.{Held, Absent}
use Rattle.zb_model.specs.declared.pending.PendingStore.{PendingStore}
use Rattle.zb_model.specs.declared.pending.PendingCheck.{PendingCheck}
use Rattle.zb_model.specs.Database.{IsRecord}
use Rattle.commit_phases.specs.declared.errors.PendingError.{PendingError}
use Rattle.commit_phases.specs.declared.errors.PendingError.TheVariants as pending_error

-- stores and deletes in the order in which their objects were first stored or deleted, and checks in their order
pub record PendingChanges : Type 0 where
  pub stores : List PendingStore
  pub checks : List PendingCheck

-- how many bytes one object, and one transaction, may have
abbrev pub object_limit : ℕ
object_limit = 2 ^ 24

abbrev pub transaction_limit : ℕ
transaction_limit = 2 ^ 26

-- how many bytes a content has: none where the object isn't there
abbrev pub length_of_content : Content → ℕ
length_of_content (Held bytes) = length bytes
length_of_content Absent = 0

-- how many bytes some stores have; a delete has none
abbrev pub size_of_stores : List PendingStore → ℕ
size_of_stores stores = sum_by (λ p. length_of_content p.content) stores

-- a second store or delete of an object keeps the first one's place and base, and has its own content
abbrev pub with_pending : List PendingStore → PendingStore → List PendingStore
with_pending [] p = p ∷ []
with_pending (q ∷ stores) p = if p.oid == q.oid then (record { oid = q.oid; base = q.base; content = p.content }) ∷ stores else q ∷ with_pending stores p

abbrev pub is_store_of : ℕ → PendingStore → Bool
is_store_of oid p = oid == p.oid

-- what waits for an object, if anything
abbrev pub pending_of : List PendingStore → ℕ → Option PendingStore
pending_of stores oid = find (is_store_of oid) stores

-- the length that passes a limit once this store or delete waits: the object's own, else that of all
abbrev pub excess_with : List PendingStore → PendingStore → Option ℕ
excess_with stores p =
    if nat_lt object_limit (length_of_content p.content) then Some (length_of_content p.content)
    else if nat_lt transaction_limit (size_of_stores (with_pending stores p)) then Some (size_of_stores (with_pending stores p))
    else None

-- stores and deletes that wait for a vote: each object once, no empty record, and all within the limits
pub record AreStores (stores : List PendingStore) : Type 0 where
  pub distinct : IsDistinct nat_eq (map (λ p. p.oid) stores)
  pub filled : All (λ p. IsRecord p.content) stores
  pub short : All (λ p. length_of_content p.content ≤ object_limit) stores
  pub within : size_of_stores stores ≤ transaction_limit

-- a store waits exactly where no length passes a limit, else that length is told; memory is free to run out
abbrev pub IsOkUnlessTooLong : {T : Type 0} → Option ℕ → Result T PendingError → Type 0
IsOkUnlessTooLong excess (Ok _) = excess ≡ None
IsOkUnlessTooLong excess (Err (pending_error.TooLong n)) = excess ≡ Some n
IsOkUnlessTooLong excess (Err pending_error.Memory) = Unit {0}

-- a store behind others, unless a length passes a limit, which is told
abbrev pub stored_on : List PendingStore → PendingStore → Option ℕ → Result (List PendingStore) ℕ
stored_on stores p None = Ok (with_pending stores p)
stored_on stores p (Some length) = Err length

abbrev pub behind_stored : Result (List PendingStore) ℕ → (List PendingStore → Result (List PendingStore) ℕ) → Result (List PendingStore) ℕ
behind_stored (Ok stores) next = next stores
behind_stored (Err length) next = Err length

-- stores one after another, each unless a length passes a limit, which is told
abbrev pub stores_after : List PendingStore → List PendingStore → Result (List PendingStore) ℕ
stores_after stores [] = Ok stores
stores_after stores (p ∷ more) = behind_stored (stored_on stores p (excess_with stores p)) (λ left. stores_after left more)

-- several stores wait exactly where no length passes a limit, else that length is told; memory is free to run out
abbrev pub AreStoredUnlessTooLong : {T : Type 0} → Result (List PendingStore) ℕ → List PendingStore → Result T PendingError → Type 0
AreStoredUnlessTooLong defined now (Ok _) = defined ≡ Ok now
AreStoredUnlessTooLong defined now (Err (pending_error.TooLong n)) = defined ≡ Err n
AreStoredUnlessTooLong defined now (Err pending_error.Memory) = Unit {0}
