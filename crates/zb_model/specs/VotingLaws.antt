-- A list with a voted transaction behind it is a database again, for the proofs of those who keep stores.
use Rattle.std.proofs.Common.{◌≡◌, ℕ, ◌-◌, ◌<◌, ◌^◌, List, [], ◌∷◌, ◌++◌, Option, Some, None, length, get_or, map, refl, sym, ap, subst, arith}
use Rattle.std.proofs.lemmas.List.{map-append}
use Rattle.std.specs.Prelude.{nat_eq}
use Rattle.std.specs.List.{last_or, IsDistinct}
use Rattle.std.specs.List.Sorted.{IsStrictlyIncreasing}
use Rattle.std.specs.Option.{option_map_or}
use Rattle.std.proofs.lemmas.Grind.{common_steps}
use Rattle.std.proofs.lemmas.List.Elements.{All-push}
use Rattle.zb_base.specs.Lists.{last_or_push}
use Rattle.zb_model.specs.declared.data.Transaction.{Transaction}
use Rattle.zb_model.specs.declared.new_transaction.NewChange.{NewChange}
use Rattle.zb_model.specs.declared.new_transaction.NewTransaction.{NewTransaction}
use Rattle.zb_model.specs.Database.{IsDatabase, newest_tid}
use Rattle.zb_model.specs.RecordLaws.{HasRecords, voted_are_records}
use Rattle.zb_model.specs.Voting.{IsWellFormed, IsVotable, voted_change, voted_of}

-- a transaction's number
abbrev pub tid_of : Transaction → ℕ
tid_of t = t.tid

-- the newest of a list is the last one behind it
pub newest-push : (list : List Transaction) (t : Transaction) → newest_tid (list ++ t ∷ []) ≡ t.tid
newest-push list t = ap (λ (o : Option Transaction). option_map_or tid_of o 0) (last_or_push None list t)

newest-some : (t : Transaction) (list : List Transaction) → option_map_or tid_of (last_or (Some t) list) 0 ≡ get_or (t.tid ∷ map tid_of list) (length list) 0
newest-some t [] = refl
newest-some t (x ∷ list) = newest-some x list

newest-at : (list : List Transaction) → newest_tid list ≡ get_or (0 ∷ map tid_of list) (length list) 0
newest-at [] = refl
newest-at (t ∷ list) = newest-some t list

increasing-push : (xs : List ℕ) (last n : ℕ) → IsStrictlyIncreasing xs → get_or xs (length xs - 1) 0 ≡ last → last < n → IsStrictlyIncreasing (xs ++ n ∷ [])
increasing-push xs last n rising is below = λ k within. grind (arith, common_steps, rising k)

rising-push : (list : List Transaction) (t : Transaction) → IsStrictlyIncreasing (0 ∷ map tid_of list) → newest_tid list < t.tid → IsStrictlyIncreasing (0 ∷ map tid_of (list ++ t ∷ []))
rising-push list t rising later =
    let last : get_or (0 ∷ map tid_of list) (length (0 ∷ map tid_of list) - 1) 0 ≡ newest_tid list = grind (arith, common_steps, sym (newest-at list)) in
    subst (λ (tids : List ℕ). IsStrictlyIncreasing (0 ∷ tids)) (sym (map-append tid_of list (t ∷ [])))
    (increasing-push (0 ∷ map tid_of list) (newest_tid list) t.tid rising last later)

-- a transaction that is voted changes the objects of the new one
pub oids_kept : (list : List Transaction) (changes : List NewChange) → map (λ c. c.oid) (map (voted_change list) changes) ≡ map (λ c. c.oid) changes
oids_kept list [] = refl
oids_kept list (c ∷ changes) = ap (λ (oids : List ℕ). c.oid ∷ oids) (oids_kept list changes)

-- a database with a transaction behind it that is later, bounded, names each object once and has no empty record
pub database-push : (list : List Transaction) (t : Transaction) → IsDatabase list → newest_tid list < t.tid → t.tid < 2 ^ 64 - 1 → IsDistinct nat_eq (map (λ c. c.oid) t.changes) → HasRecords t → IsDatabase (list ++ t ∷ [])
database-push list t is later bound distinct filled = record {
  rising = rising-push list t is.rising later;
  bounded = rw (newest-push list t) bound;
  distinct = All-push (λ (t : Transaction). IsDistinct nat_eq (map (λ c. c.oid) t.changes)) list t is.distinct distinct;
  filled = All-push HasRecords list t is.filled filled;
}

-- and so with what a new transaction becomes, where it may be voted
pub voted_database : (list : List Transaction) (new : NewTransaction) → IsDatabase list → IsWellFormed new → IsVotable list new → IsDatabase (list ++ voted_of list new ∷ [])
voted_database list new is formed votable = database-push list (voted_of list new) is votable.later formed.tid (rw (oids_kept list new.changes) formed.distinct) (voted_are_records list new.changes is formed.filled)
