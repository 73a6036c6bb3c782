-- What a pack leaves of a list's newest transaction and of its greatest object. For the proofs of those who follow the machine.
use Rattle.std.proofs.Common.{◌≡◌, ℕ, ◌<◌, ◌≤◌, max, ⊎_elim, Bool, true, false, List, [], ◌∷◌, filter, map, Option, Some, None, refl, arith}
use Rattle.std.specs.List.{cons_option, filter_map, flat_map, last_or}
use Rattle.std.specs.Option.{option_map_or}
use Rattle.std.specs.Ordering.{nat_cmp}
use Rattle.std.specs.FinSet.{FinSet}
use Rattle.std.proofs.lemmas.Bool.{cases_Bool, cases_lt, le-leb, lt-leb}
use Rattle.zb_model.specs.declared.data.Change.{Change}
use Rattle.zb_model.specs.declared.data.Transaction.{Transaction}
use Rattle.zb_model.specs.Database.{newest_tid}
use Rattle.zb_model.specs.Packing.{packed_by, packed_form, packed_one, stays}
use Rattle.zb_model.specs.Queries.{greatest_of, greatest_oid, oids_of}
use Rattle.zb_model.specs.QueryLaws.{greatest-append}

-- ---- the newest transaction

abbrev tid_of : Option Transaction → ℕ
tid_of o = option_map_or (λ (x : Transaction). x.tid) o 0

form_kept : (x : Transaction) (left : Option Transaction) (rest : List Transaction) (changes : List Change) (tid : ℕ) → ((o : Option Transaction) → tid_of (last_or o rest) ≡ tid)
    → tid_of (last_or left (cons_option (packed_form x changes) rest)) ≡ tid
form_kept x left rest [] tid each = each left
form_kept x left rest (c ∷ changes) tid each = each (Some (record x { packed = true; changes = c ∷ changes }))

-- the last transaction of what a pack leaves, where the last one of the list is above its tid
last_kept : (t : ℕ) (keep : FinSet nat_cmp) (all list : List Transaction) (o left : Option Transaction) → (t < tid_of o → tid_of left ≡ tid_of o) → t < tid_of (last_or o list)
    → tid_of (last_or left (filter_map (packed_one t keep all) list)) ≡ tid_of (last_or o list)
last_kept t keep all [] o left same above = same above
last_kept t keep all (x ∷ list) o left same above =
    ⊎_elim (λ (late : t < x.tid). rw (lt-leb x.tid t late) (last_kept t keep all list (Some x) (Some x) (λ _. refl) above))
    (λ (early : x.tid ≤ t).
    rw (le-leb x.tid t early)
    (form_kept x left (filter_map (packed_one t keep all) list) (filter (stays t keep all x.tid) x.changes) (tid_of (last_or (Some x) list))
    (λ left. last_kept t keep all list (Some x) left (λ late. absurd (omega (arith, early, late))) above)))
    (cases_lt t x.tid)

-- a pack below the newest transaction leaves it the newest
pub newest_packed : (t : ℕ) (keep : FinSet nat_cmp) (list : List Transaction) → t < newest_tid list → newest_tid (packed_by t keep list) ≡ newest_tid list
newest_packed t keep list above = last_kept t keep list list None None (λ late. refl) above

-- ---- the greatest object

filter_greatest : (p : Change → Bool) (changes : List Change) → greatest_of (map (λ (c : Change). c.oid) (filter p changes)) ≤ greatest_of (map (λ (c : Change). c.oid) changes)
filter_greatest p [] = omega arith
filter_greatest p (c ∷ changes) =
    let rest = filter_greatest p changes in
    ⊎_elim (λ (e : p c ≡ true). rw e (omega (arith, rest))) (λ (e : p c ≡ false). rw e (omega (arith, rest))) (cases_Bool (p c))

ahead_greatest : (x : Transaction) (list : List Transaction) → greatest_oid (x ∷ list) ≡ max (greatest_of (oids_of x)) (greatest_oid list)
ahead_greatest x list = greatest-append (oids_of x) (flat_map oids_of list)

form_greatest : (x : Transaction) (changes : List Change) (rest list : List Transaction) → greatest_of (map (λ (c : Change). c.oid) changes) ≤ greatest_of (oids_of x) → greatest_oid rest ≤ greatest_oid list
    → greatest_oid (cons_option (packed_form x changes) rest) ≤ greatest_oid (x ∷ list)
form_greatest x [] rest list fewer less = omega (arith, less, ahead_greatest x list)
form_greatest x (c ∷ changes) rest list fewer less =
    let kept : Transaction = record x { packed = true; changes = c ∷ changes } in
    omega (arith, fewer, less, ahead_greatest x list, ahead_greatest kept rest)

left_greatest : (t : ℕ) (keep : FinSet nat_cmp) (all list : List Transaction) → greatest_oid (filter_map (packed_one t keep all) list) ≤ greatest_oid list
left_greatest t keep all [] = omega arith
left_greatest t keep all (x ∷ list) =
    let rest = left_greatest t keep all list in
    ⊎_elim (λ (late : t < x.tid). rw (lt-leb x.tid t late) (omega (arith, rest, ahead_greatest x list, ahead_greatest x (filter_map (packed_one t keep all) list))))
    (λ (early : x.tid ≤ t). rw (le-leb x.tid t early) (form_greatest x (filter (stays t keep all x.tid) x.changes) (filter_map (packed_one t keep all) list) list (filter_greatest (stays t keep all x.tid) x.changes) rest))
    (cases_lt t x.tid)

-- a packed list names no greater object
pub greatest_packed : (t : ℕ) (keep : FinSet nat_cmp) (list : List Transaction) → greatest_oid (packed_by t keep list) ≤ greatest_oid list
greatest_packed t keep list = left_greatest t keep list list
