-- A packed list is a database with no more changes than the list, for the proofs of those who keep stores.
use Rattle.std.proofs.Common.{◌≡◌, ℕ, zero, suc, ◌+◌, ◌<◌, ◌≤◌, ⊎_elim, Bool, true, false, List, [], ◌∷◌, length, get_or, map, filter, add-one, arith}
use native.Mathlib.Numerals.{unary_clauses}
use Rattle.std.specs.Prelude.{All, nat_eq}
use Rattle.std.specs.List.{AllByRecursion, IsDistinct, cons_option, filter_map}
use Rattle.std.specs.List.Sorted.{IsStrictlyIncreasing}
use Rattle.std.specs.Ordering.{nat_cmp}
use Rattle.std.specs.FinSet.{FinSet}
use Rattle.std.proofs.lemmas.Bool.{cases_Bool, cases_lt, le-leb, lt-leb}
use Rattle.std.proofs.lemmas.List.Elements.{All-from_recursion, recursion_from_All}
use Rattle.std.proofs.lemmas.List.Sums.{sum_by-cons}
use Rattle.zb_model.specs.declared.data.Change.{Change}
use Rattle.zb_model.specs.declared.data.Transaction.{Transaction}
use Rattle.zb_model.specs.Database.{IsDatabase, newest_tid}
use Rattle.zb_model.specs.RecordLaws.{ChangesToRecord, HasRecords}
use Rattle.zb_model.specs.SerialLaws.{RisesTo, database_rises, newest_within}
use Rattle.zb_model.specs.Packing.{packed_by, packed_form, packed_one, stays}
use Rattle.zb_model.specs.Packs.{change_count}

-- ---- tids rise

rises_below : (low low' high : ℕ) (list : List Transaction) → low ≤ low' → RisesTo low' high list → RisesTo low high list
rises_below low low' high [] l h = omega (arith, l, h)
rises_below low low' high (t ∷ list) l h = (omega (arith, l, h.0), h.1)

form_rises : (x : Transaction) (changes : List Change) (low high : ℕ) (rest : List Transaction) → low < x.tid → RisesTo x.tid high rest → RisesTo low high (cons_option (packed_form x changes) rest)
form_rises x [] low high rest l h = rises_below low x.tid high rest (omega (arith, l)) h
form_rises x (c ∷ changes) low high rest l h = (l, h)

packed_rises : (t : ℕ) (keep : FinSet nat_cmp) (all : List Transaction) (low high : ℕ) (list : List Transaction) → RisesTo low high list → RisesTo low high (filter_map (packed_one t keep all) list)
packed_rises t keep all low high [] h = h
packed_rises t keep all low high (x ∷ list) h =
    let rest = packed_rises t keep all x.tid high list h.1 in
    ⊎_elim (λ (late : t < x.tid). rw (lt-leb x.tid t late) (h.0, rest))
    (λ (early : x.tid ≤ t). rw (le-leb x.tid t early) (form_rises x (filter (stays t keep all x.tid) x.changes) low high (filter_map (packed_one t keep all) list) h.0 rest))
    (cases_lt t x.tid)

abbrev tids : List Transaction → List ℕ
tids list = map (λ (t : Transaction). t.tid) list

increasing_more : (low : ℕ) (x : Transaction) (list : List Transaction) → low < x.tid → IsStrictlyIncreasing (x.tid ∷ tids list) → (k : ℕ) → k + 1 < length (low ∷ x.tid ∷ tids list) → get_or (low ∷ x.tid ∷ tids list) k 0 < get_or (low ∷ x.tid ∷ tids list) (k + 1) 0
increasing_more low x list l rest zero within = l
increasing_more low x list l rest (suc k) within = simp unary_clauses (rw add-one at (rest k (omega (arith, within))))

increasing : (low high : ℕ) (list : List Transaction) → RisesTo low high list → IsStrictlyIncreasing (low ∷ tids list)
increasing low high [] h = λ k within. absurd (omega (arith, within))
increasing low high (x ∷ list) h = increasing_more low x list h.0 (increasing x.tid high list h.1)

-- ---- no object is named twice

abbrev oids : List Change → List ℕ
oids changes = map (λ (c : Change). c.oid) changes

filter_apart : (p : Change → Bool) (oid : ℕ) (changes : List Change) → AllByRecursion (λ n. nat_eq oid n ≡ false) (oids changes) → AllByRecursion (λ n. nat_eq oid n ≡ false) (oids (filter p changes))
filter_apart p oid [] all = tt
filter_apart p oid (c ∷ changes) all =
    let rest = filter_apart p oid changes all.1 in
    ⊎_elim (λ (e : p c ≡ true). rw e (all.0, rest)) (λ (e : p c ≡ false). rw e rest) (cases_Bool (p c))

filter_distinct : (p : Change → Bool) (changes : List Change) → IsDistinct nat_eq (oids changes) → IsDistinct nat_eq (oids (filter p changes))
unfolding IsDistinct
filter_distinct p [] distinct = tt
filter_distinct p (c ∷ changes) distinct =
    let rest = filter_distinct p changes distinct.1 in
    ⊎_elim (λ (e : p c ≡ true). rw e (filter_apart p c.oid changes distinct.0, rest)) (λ (e : p c ≡ false). rw e rest) (cases_Bool (p c))

abbrev NamesOnce : Transaction → Type 0
NamesOnce x = IsDistinct nat_eq (oids x.changes)

form_once : (x : Transaction) (changes : List Change) (rest : List Transaction) → IsDistinct nat_eq (oids changes) → AllByRecursion NamesOnce rest → AllByRecursion NamesOnce (cons_option (packed_form x changes) rest)
form_once x [] rest once all = all
form_once x (c ∷ changes) rest once all = (once, all)

packed_once : (t : ℕ) (keep : FinSet nat_cmp) (all list : List Transaction) → AllByRecursion NamesOnce list → AllByRecursion NamesOnce (filter_map (packed_one t keep all) list)
packed_once t keep all [] once = tt
packed_once t keep all (x ∷ list) once =
    let rest = packed_once t keep all list once.1 in
    ⊎_elim (λ (late : t < x.tid). rw (lt-leb x.tid t late) (once.0, rest))
    (λ (early : x.tid ≤ t). rw (le-leb x.tid t early) (form_once x (filter (stays t keep all x.tid) x.changes) (filter_map (packed_one t keep all) list) (filter_distinct (stays t keep all x.tid) x.changes once.0) rest))
    (cases_lt t x.tid)

-- ---- no record is empty

filter_records : (p : Change → Bool) (changes : List Change) → AllByRecursion ChangesToRecord changes → AllByRecursion ChangesToRecord (filter p changes)
filter_records p [] all = tt
filter_records p (c ∷ changes) all =
    let rest = filter_records p changes all.1 in
    ⊎_elim (λ (e : p c ≡ true). rw e (all.0, rest)) (λ (e : p c ≡ false). rw e rest) (cases_Bool (p c))

kept_records : (p : Change → Bool) (changes : List Change) → All ChangesToRecord changes → All ChangesToRecord (filter p changes)
kept_records p changes all = All-from_recursion ChangesToRecord (filter p changes) (filter_records p changes (recursion_from_All ChangesToRecord changes all))

form_records : (x : Transaction) (changes : List Change) (rest : List Transaction) → All ChangesToRecord changes → AllByRecursion HasRecords rest → AllByRecursion HasRecords (cons_option (packed_form x changes) rest)
form_records x [] rest here all = all
form_records x (c ∷ changes) rest here all = (here, all)

packed_records : (t : ℕ) (keep : FinSet nat_cmp) (all list : List Transaction) → AllByRecursion HasRecords list → AllByRecursion HasRecords (filter_map (packed_one t keep all) list)
packed_records t keep all [] filled = tt
packed_records t keep all (x ∷ list) filled =
    let rest = packed_records t keep all list filled.1 in
    ⊎_elim (λ (late : t < x.tid). rw (lt-leb x.tid t late) (filled.0, rest))
    (λ (early : x.tid ≤ t). rw (le-leb x.tid t early) (form_records x (filter (stays t keep all x.tid) x.changes) (filter_map (packed_one t keep all) list) (kept_records (stays t keep all x.tid) x.changes filled.0) rest))
    (cases_lt t x.tid)

-- a packed list is a database again
pub packed_database : (t : ℕ) (keep : FinSet nat_cmp) (list : List Transaction) → IsDatabase list → IsDatabase (packed_by t keep list)
packed_database t keep list is =
    let rises = packed_rises t keep list 0 (newest_tid list) list (database_rises list is) in
    let within : newest_tid (packed_by t keep list) ≤ newest_tid list = newest_within (newest_tid list) (packed_by t keep list) rises in
    record {
      rising = increasing 0 (newest_tid list) (packed_by t keep list) rises;
      bounded = omega (arith, within, is.bounded);
      distinct = All-from_recursion NamesOnce (packed_by t keep list) (packed_once t keep list list (recursion_from_All NamesOnce list is.distinct));
      filled = All-from_recursion HasRecords (packed_by t keep list) (packed_records t keep list list (recursion_from_All HasRecords list is.filled));
    }

-- ---- how many changes are left

abbrev count_in : Transaction → ℕ
count_in t = length t.changes

filter_fewer : (p : Change → Bool) (changes : List Change) → length (filter p changes) ≤ length changes
filter_fewer p [] = omega arith
filter_fewer p (c ∷ changes) =
    let rest = filter_fewer p changes in
    ⊎_elim (λ (e : p c ≡ true). rw e (omega (arith, rest))) (λ (e : p c ≡ false). rw e (omega (arith, rest))) (cases_Bool (p c))

form_fewer : (x : Transaction) (changes : List Change) (rest list : List Transaction) → length changes ≤ length x.changes → change_count rest ≤ change_count list → change_count (cons_option (packed_form x changes) rest) ≤ change_count (x ∷ list)
form_fewer x [] rest list l h = omega (arith, l, h, sum_by-cons count_in x list)
form_fewer x (c ∷ changes) rest list l h =
    let more : Transaction = record x { packed = true; changes = c ∷ changes } in
    omega (arith, l, h, sum_by-cons count_in x list, sum_by-cons count_in more rest)

fewer : (t : ℕ) (keep : FinSet nat_cmp) (all list : List Transaction) → change_count (filter_map (packed_one t keep all) list) ≤ change_count list
fewer t keep all [] = omega arith
fewer t keep all (x ∷ list) =
    let rest = fewer t keep all list in
    ⊎_elim (λ (late : t < x.tid). rw (lt-leb x.tid t late) (omega (arith, rest, sum_by-cons count_in x list, sum_by-cons count_in x (filter_map (packed_one t keep all) list))))
    (λ (early : x.tid ≤ t). rw (le-leb x.tid t early) (form_fewer x (filter (stays t keep all x.tid) x.changes) (filter_map (packed_one t keep all) list) list (filter_fewer (stays t keep all x.tid) x.changes) rest))
    (cases_lt t x.tid)

-- a packed list has no more changes than the list
pub packed_fewer : (t : ℕ) (keep : FinSet nat_cmp) (list : List Transaction) → change_count (packed_by t keep list) ≤ change_count list
packed_fewer t keep list = fewer t keep list list
