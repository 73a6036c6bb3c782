-- How the table of pending stores stands for the stores.
use Rattle.std.proofs.Common.{◌≡◌, ℕ, ◌+◌, ◌-◌, ◌<◌, ◌≤◌, Bool, true, false, cond, eqb, ltb, List, [], ◌∷◌, map, Option, Some, None, refl, sym, ap, subst, ◌∙◌, arith}
use Rattle.std.specs.Prelude.{nat_eq, All}
use Rattle.std.specs.Option.{option_map}
use Rattle.std.specs.List.{IsDistinct}
use Rattle.std.specs.Map.{keys_of, lookup}
use Rattle.std.proofs.lemmas.Bool.{lt-ltb, le-ltb, eqb-true}
use Rattle.std.proofs.lemmas.List.Elements.{All-cons, All-head, All-tail}
use Rattle.std.proofs.lemmas.List.Sums.{sum_by-cons}
use Rattle.zb_model.specs.declared.data.Content.{Content}
use Rattle.zb_model.specs.declared.data.Content.TheVariants.{Absent}
use Rattle.zb_model.specs.declared.pending.PendingStore.{PendingStore}
use Rattle.zb_model.specs.Database.{IsRecord}
use Rattle.indexmap.specs.IndexMap.{insert_entry}
use Rattle.commit_phases.specs.declared.pending.Stored.{Stored}
use Rattle.commit_phases.specs.Kept.{base_or, length_or_none, store_of, stores_of}
use Rattle.commit_phases.specs.Pending.{excess_with, length_of_content, object_limit, pending_of, size_of_stores, transaction_limit, with_pending, AreStores}

abbrev store_at : ℕ → ℕ → Content → PendingStore
store_at oid base content = record { oid = oid; base = base; content = content }

abbrev pub kept_as : ℕ → Content → Stored
kept_as base content = record { base = base; content = content }

-- what is put into the table is put among the stores
pub put_is : (es : List (ℕ × Stored)) (oid base : ℕ) (content : Content)
    → stores_of (insert_entry nat_eq es oid (kept_as (base_or (lookup (nat_eq oid) es) base) content)) ≡ with_pending (stores_of es) (store_at oid base content)
put_is [] oid base content = refl
put_is (e ∷ es) oid base content = by_cases (eqb oid e.0) (put_is es oid base content)
  where
    by_cases : (b : Bool)
        → stores_of (insert_entry nat_eq es oid (kept_as (base_or (lookup (nat_eq oid) es) base) content)) ≡ with_pending (stores_of es) (store_at oid base content)
        → stores_of (cond b ((e.0, kept_as (base_or (cond b (Some e.1) (lookup (nat_eq oid) es)) base) content) ∷ es) (e ∷ insert_entry nat_eq es oid (kept_as (base_or (cond b (Some e.1) (lookup (nat_eq oid) es)) base) content)))
        ≡ cond b (store_at e.0 e.1.base content ∷ stores_of es) (store_of e ∷ with_pending (stores_of es) (store_at oid base content))
    by_cases true rest = refl
    by_cases false rest = ap (λ (ps : List PendingStore). store_of e ∷ ps) rest

-- how many bytes the stores have then
pub put_size : (es : List (ℕ × Stored)) (oid base : ℕ) (content : Content)
    → size_of_stores (with_pending (stores_of es) (store_at oid base content)) + length_or_none (lookup (nat_eq oid) es) ≡ size_of_stores (stores_of es) + length_of_content content
put_size [] oid base content = omega arith
put_size (e ∷ es) oid base content = by_cases (eqb oid e.0) (put_size es oid base content)
  where
    by_cases : (b : Bool)
        → size_of_stores (with_pending (stores_of es) (store_at oid base content)) + length_or_none (lookup (nat_eq oid) es) ≡ size_of_stores (stores_of es) + length_of_content content
        → size_of_stores (cond b (store_at e.0 e.1.base content ∷ stores_of es) (store_of e ∷ with_pending (stores_of es) (store_at oid base content))) + length_or_none (cond b (Some e.1) (lookup (nat_eq oid) es))
        ≡ size_of_stores (store_of e ∷ stores_of es) + length_of_content content
    by_cases true rest = omega (
      arith,
      sum_by-cons (λ (p : PendingStore). length_of_content p.content) (store_at e.0 e.1.base content) (stores_of es),
      sum_by-cons (λ (p : PendingStore). length_of_content p.content) (store_of e) (stores_of es),
    )
    by_cases false rest = omega (
      arith,
      rest,
      sum_by-cons (λ (p : PendingStore). length_of_content p.content) (store_of e) (with_pending (stores_of es) (store_at oid base content)),
      sum_by-cons (λ (p : PendingStore). length_of_content p.content) (store_of e) (stores_of es),
    )

-- an earlier store is among those that the table has
pub earlier_within : (es : List (ℕ × Stored)) (oid : ℕ) → length_or_none (lookup (nat_eq oid) es) ≤ size_of_stores (stores_of es)
earlier_within [] oid = omega arith
earlier_within (e ∷ es) oid = by_cases (eqb oid e.0) (earlier_within es oid)
  where
    by_cases : (b : Bool) → length_or_none (lookup (nat_eq oid) es) ≤ size_of_stores (stores_of es)
        → length_or_none (cond b (Some e.1) (lookup (nat_eq oid) es)) ≤ size_of_stores (store_of e ∷ stores_of es)
    by_cases true rest = omega (arith, sum_by-cons (λ (p : PendingStore). length_of_content p.content) (store_of e) (stores_of es))
    by_cases false rest = omega (arith, rest, sum_by-cons (λ (p : PendingStore). length_of_content p.content) (store_of e) (stores_of es))

-- what holds of the contents of all stores and of the new one holds of all then
pub all_with : (P : Content → Type 0) (stores : List PendingStore) (p : PendingStore) → All (λ q. P q.content) stores → P p.content → All (λ q. P q.content) (with_pending stores p)
all_with P [] p all new = All-cons (λ q. P q.content) p [] new all
all_with P (q ∷ stores) p all new = by_cases (eqb p.oid q.oid) (all_with P stores p (All-tail (λ q. P q.content) q stores all) new)
  where
    by_cases : (b : Bool) → All (λ q. P q.content) (with_pending stores p) → All (λ q. P q.content) (cond b (store_at q.oid q.base p.content ∷ stores) (q ∷ with_pending stores p))
    by_cases true rest = All-cons (λ q. P q.content) (store_at q.oid q.base p.content) stores new (All-tail (λ q. P q.content) q stores all)
    by_cases false rest = All-cons (λ q. P q.content) q (with_pending stores p) (All-head (λ q. P q.content) q stores all) rest

-- the objects of the stores are the keys of the table
pub oids_are : (es : List (ℕ × Stored)) → map (λ p. p.oid) (stores_of es) ≡ keys_of es
oids_are [] = refl
oids_are (e ∷ es) = ap (λ (ns : List ℕ). e.0 ∷ ns) (oids_are es)

-- ---- limits

pub put_too_long : (stores : List PendingStore) (p : PendingStore) (n : ℕ) → length_of_content p.content ≤ object_limit → n ≡ size_of_stores (with_pending stores p) → transaction_limit < n → excess_with stores p ≡ Some n
put_too_long stores p n short is long =
    let object : ltb object_limit (length_of_content p.content) ≡ false = le-ltb object_limit (length_of_content p.content) short in
    let all : ltb transaction_limit (size_of_stores (with_pending stores p)) ≡ true = lt-ltb transaction_limit (size_of_stores (with_pending stores p)) (omega (arith, is, long)) in
    rw object (rw all (ap (λ (k : ℕ). Some k) (sym is)))

pub put_fits : (stores : List PendingStore) (p : PendingStore) → length_of_content p.content ≤ object_limit → size_of_stores (with_pending stores p) ≤ transaction_limit → excess_with stores p ≡ None
put_fits stores p short within =
    let object : ltb object_limit (length_of_content p.content) ≡ false = le-ltb object_limit (length_of_content p.content) short in
    let all : ltb transaction_limit (size_of_stores (with_pending stores p)) ≡ false = le-ltb transaction_limit (size_of_stores (with_pending stores p)) within in
    rw object (rw all refl)

-- with one store more that fits they are stores
pub are_stores : (es new : List (ℕ × Stored)) (p : PendingStore) → AreStores (stores_of es) → IsDistinct nat_eq (keys_of new) → stores_of new ≡ with_pending (stores_of es) p → IsRecord p.content → length_of_content p.content ≤ object_limit → size_of_stores (with_pending (stores_of es) p) ≤ transaction_limit → AreStores (stores_of new)
are_stores es new p are distinct is filled short within = record {
  distinct = subst (λ (ns : List ℕ). IsDistinct nat_eq ns) (sym (oids_are new)) distinct;
  filled = subst (λ (ps : List PendingStore). All (λ q. IsRecord q.content) ps) (sym is) (all_with (λ (content : Content). IsRecord content) (stores_of es) p are.filled filled);
  short = subst (λ (ps : List PendingStore). All (λ q. length_of_content q.content ≤ object_limit) ps) (sym is) (all_with (λ (content : Content). length_of_content content ≤ object_limit) (stores_of es) p are.short short);
  within = subst (λ (ps : List PendingStore). size_of_stores ps ≤ transaction_limit) (sym is) within;
}

-- ---- deletes

-- what a delete takes off the bytes of all
pub deleted_size : (es : List (ℕ × Stored)) (oid base size earlier : ℕ) → size ≡ size_of_stores (stores_of es) → earlier ≡ length_or_none (lookup (nat_eq oid) es)
    → size - earlier ≡ size_of_stores (with_pending (stores_of es) (store_at oid base Absent))
deleted_size es oid base size earlier all one = omega (arith, all, one, earlier_within es oid, put_size es oid base Absent)

-- with a delete more they are stores
pub are_with_delete : (es new : List (ℕ × Stored)) (oid base : ℕ) → AreStores (stores_of es) → IsDistinct nat_eq (keys_of new) → stores_of new ≡ with_pending (stores_of es) (store_at oid base Absent) → AreStores (stores_of new)
are_with_delete es new oid base are distinct is =
    let within : size_of_stores (with_pending (stores_of es) (store_at oid base Absent)) ≤ transaction_limit = omega (arith, put_size es oid base Absent, are.within) in
    are_stores es new (store_at oid base Absent) are distinct is tt (omega arith) within

-- ---- what stands for an object

-- the store of an object is that of its entry
pub store_found : (es : List (ℕ × Stored)) (oid : ℕ) → option_map (λ (s : Stored). store_of (oid, s)) (lookup (nat_eq oid) es) ≡ pending_of (stores_of es) oid
store_found [] oid = refl
store_found (e ∷ es) oid = by_cases (eqb oid e.0) refl (store_found es oid)
  where
    by_cases : (b : Bool) → eqb oid e.0 ≡ b → option_map (λ (s : Stored). store_of (oid, s)) (lookup (nat_eq oid) es) ≡ pending_of (stores_of es) oid
        → option_map (λ (s : Stored). store_of (oid, s)) (cond b (Some e.1) (lookup (nat_eq oid) es)) ≡ cond b (Some (store_of e)) (pending_of (stores_of es) oid)
    by_cases true is rest = ap (λ (n : ℕ). Some (store_of (n, e.1))) (eqb-true oid e.0 is)
    by_cases false is rest = rest

base_then : (oid : ℕ) (found : Option Stored) → option_map (λ (s : Stored). s.base) found ≡ option_map (λ (p : PendingStore). p.base) (option_map (λ (s : Stored). store_of (oid, s)) found)
base_then oid None = refl
base_then oid (Some s) = refl

-- and its base
pub base_found : (es : List (ℕ × Stored)) (oid : ℕ) → option_map (λ (s : Stored). s.base) (lookup (nat_eq oid) es) ≡ option_map (λ (p : PendingStore). p.base) (pending_of (stores_of es) oid)
base_found es oid = base_then oid (lookup (nat_eq oid) es) ∙ ap (option_map (λ (p : PendingStore). p.base)) (store_found es oid)
