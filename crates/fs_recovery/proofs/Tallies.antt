-- The numbers of a list, and what they say of it.
use Rattle.std.proofs.Common.{◌≡◌, ℕ, zero, suc, ◌+◌, ◌-◌, ◌<◌, ◌≤◌, Bool, true, false, cond, leb, max, List, [], ◌∷◌, ◌++◌, length, get_or, map, filter, take, Option, Some, None, refl, sym, ap, ◌∙◌, arith}
use Rattle.std.specs.Prelude.{slice_get, option_map}
use Rattle.std.specs.List.{last_or, flat_map}
use Rattle.std.specs.List.Sorted.{IsPartitionPoint}
use Rattle.std.specs.Option.{option_map_or}
use Rattle.std.proofs.lemmas.Grind.{common_steps}
use Rattle.std.proofs.lemmas.List.{get_or-map, length-map, map-append}
use Rattle.std.proofs.lemmas.List.Elements.{filter-append}
use Rattle.std.proofs.lemmas.List.Sums.{sum_by-cons}
use Rattle.std.proofs.lemmas.Option.{slice_get-map}
use Rattle.zb_model.specs.declared.data.Transaction.{Transaction}
use Rattle.zb_model.specs.Packs.{change_count}
use Rattle.zb_model.specs.Queries as queries
use Rattle.zb_model.specs.Queries.{greatest_of, greatest_oid, oids_of, pack_point, is_packed}
use Rattle.zb_model.specs.QueryLaws.{greatest-append}
use Rattle.fs_index.specs.declared.place.Place.{Place}
use Rattle.fs_recovery.specs.declared.tally.Tally.{Tally}
use Rattle.fs_recovery.specs.Numbers.{tallies_from, tally_of, total_of, NumbersKept, AreNumbersOf}
use Rattle.zb_base.specs.Lists.{filter_take, last_or_get}

-- ---- what numbers keep

-- the tally of a place is kept by the number there
pub there_is : (ks : List ℕ) (i k : ℕ) → slice_get ks i ≡ Some k → Some (tally_of k) ≡ slice_get (map tally_of ks) i
there_is ks i k e = sym (slice_get-map tally_of ks i ∙ ap (option_map tally_of) e)

pub none_is : (ks : List ℕ) (i : ℕ) → slice_get ks i ≡ None → None ≡ slice_get (map tally_of ks) i
none_is ks i e = sym (slice_get-map tally_of ks i ∙ ap (option_map tally_of) e)

abbrev changes_of : Option Tally → ℕ
changes_of o = option_map_or (λ (x : Tally). x.changes) o 0

last_kept : (ks : List ℕ) (o : Option ℕ) → slice_get ks (length ks - 1) ≡ o → option_map tally_of o ≡ last_or None (map tally_of ks)
last_kept ks o e =
    let long : length (map tally_of ks) ≡ length ks = length-map ks tally_of in
    sym (last_or_get (map tally_of ks) ∙ ap (λ (n : ℕ). slice_get (map tally_of ks) (n - 1)) long ∙ slice_get-map tally_of ks (length ks - 1) ∙ ap (option_map tally_of) e)

-- the last one is kept by the last number
pub last_is : (ks : List ℕ) (k : ℕ) → slice_get ks (length ks - 1) ≡ Some k → (tally_of k).changes ≡ total_of (map tally_of ks)
last_is ks k e = ap changes_of (last_kept ks (Some k) e)

pub no_last : (ks : List ℕ) → slice_get ks (length ks - 1) ≡ None → 0 ≡ total_of (map tally_of ks)
no_last ks e = ap changes_of (last_kept ks None e)

-- ---- the first transactions

abbrev Parts : ℕ → List Place → ℕ → Type 0
Parts tid ps n = IsPartitionPoint (λ p. leb p.serial tid ≡ true) (λ p. leb p.serial tid ≡ false) ps n

-- those up to a tid are the first ones of a list whose transactions have these places
pub first_ones : (tid : ℕ) (ps : List Place) (n : ℕ) (list : List Transaction) → n ≤ length ps → Parts tid ps n → map (λ p. p.serial) ps ≡ map (λ t. t.tid) list → filter (queries.is_up_to tid) list ≡ take n list
first_ones tid ps n list h parts same =
    filter_take (queries.is_up_to tid) list n
    (λ k d l. ap (λ (s : ℕ). leb s tid) (tid_there k d (omega (arith, l, h, long))) ∙ parts.0 k no_place (omega (arith, l)) (omega (arith, l, h)))
    (λ k d m l. ap (λ (s : ℕ). leb s tid) (tid_there k d l) ∙ parts.1 k no_place m (omega (arith, l, long)))
    (omega (arith, h, long))
  where
    no_place : Place
    no_place = record { serial = 0; at = 0 }

    long : length ps ≡ length list
    long = sym (length-map ps (λ (p : Place). p.serial)) ∙ ap (λ (ns : List ℕ). length ns) same ∙ length-map list (λ (t : Transaction). t.tid)

    tid_there : (k : ℕ) (d : Transaction) → k < length list → (get_or list k d).tid ≡ (get_or ps k no_place).serial
    tid_there k d l = sym (get_or-map (λ (t : Transaction). t.tid) list k d 0 l) ∙ ap (λ (ns : List ℕ). get_or ns k 0) (sym same) ∙ get_or-map (λ (p : Place). p.serial) ps k no_place 0 (omega (arith, l, long))

one_more : (t : Transaction) (ts : List Transaction) → change_count (t ∷ ts) ≡ length t.changes + change_count ts
one_more t ts = sum_by-cons (λ (x : Transaction). length x.changes) t ts

sums : (n a b : ℕ) → (n + a) + b ≡ n + (a + b)
sums n a b = omega arith

-- the tally of one of them says how many changes those up to it have
at_place : (n k : ℕ) (ts : List Transaction) → k < length ts → changes_of (slice_get (tallies_from n ts) k) ≡ n + change_count (take (suc k) ts)
at_place n k [] h = absurd (omega (arith, h))
at_place n zero (t ∷ ts) h = omega (arith, one_more t [])
at_place n (suc k) (t ∷ ts) h = at_place (n + length t.changes) k ts (omega (arith, h)) ∙ sums n (length t.changes) (change_count (take (suc k) ts)) ∙ ap (λ (m : ℕ). n + m) (sym (one_more t (take (suc k) ts)))

pub first_counted : (list : List Transaction) (numbers : NumbersKept) (count : ℕ) (o : Option Tally) → 0 < count → count ≤ length list → AreNumbersOf list numbers → o ≡ slice_get numbers.tallies (count - 1) → changes_of o ≡ change_count (take count list)
first_counted list numbers count o some within are is =
    let n_is : suc (count - 1) ≡ count = omega arith in
    ap changes_of (is ∙ ap (λ (xs : List Tally). slice_get xs (count - 1)) are.tallies)
    ∙ at_place 0 (count - 1) list (omega (arith, some, within)) ∙ omega arith
    ∙ ap (λ (n : ℕ). change_count (take n list)) n_is

-- and the last says it of all
all_from : (n : ℕ) (p : Bool) (ts : List Transaction) → changes_of (last_or (Some (record { changes = n; packed = p })) (tallies_from n ts)) ≡ n + change_count ts
all_from n p [] = omega arith
all_from n p (t ∷ ts) = all_from (n + length t.changes) t.packed ts ∙ sums n (length t.changes) (change_count ts) ∙ ap (λ (m : ℕ). n + m) (sym (one_more t ts))

from_none : (xs : List Tally) → changes_of (last_or None xs) ≡ changes_of (last_or (Some (record { changes = 0; packed = false })) xs)
from_none [] = refl
from_none (x ∷ xs) = refl

pub all_counted : (list : List Transaction) (numbers : NumbersKept) → AreNumbersOf list numbers → total_of numbers.tallies ≡ change_count list
all_counted list numbers are = ap total_of are.tallies ∙ from_none (tallies_from 0 list) ∙ all_from 0 false list ∙ omega arith

-- ---- one transaction more

tallies-push : (n : ℕ) (ts : List Transaction) (t : Transaction) → tallies_from n (ts ++ t ∷ []) ≡ tallies_from n ts ++ record { changes = changes_of (last_or (Some (record { changes = n; packed = false })) (tallies_from n ts)) + length t.changes; packed = t.packed } ∷ []
tallies-push n [] t = refl
tallies-push n (u ∷ us) t = ap (λ (xs : List Tally). record { changes = n + length u.changes; packed = u.packed } ∷ xs) (tallies-push (n + length u.changes) us t ∙ same (tallies_from (n + length u.changes) us))
  where
    same : (xs : List Tally) → xs ++ record { changes = changes_of (last_or (Some (record { changes = n + length u.changes; packed = false })) xs) + length t.changes; packed = t.packed } ∷ []
        ≡ xs ++ record { changes = changes_of (last_or (Some (record { changes = n + length u.changes; packed = u.packed })) xs) + length t.changes; packed = t.packed } ∷ []
    same [] = refl
    same (x ∷ xs) = refl

flat-push : (list : List Transaction) (t : Transaction) → greatest_oid (list ++ t ∷ []) ≡ max (greatest_oid list) (greatest_of (map (λ c. c.oid) t.changes))
flat-push [] t = rw (greatest-append (oids_of t) []) (omega arith)
flat-push (u ∷ us) t = greatest-append (oids_of u) (flat_map oids_of (us ++ t ∷ [])) ∙ rw (flat-push us t) (omega (arith, greatest-append (oids_of u) (flat_map oids_of us)))

point-push : (list : List Transaction) (t : Transaction) → pack_point (list ++ t ∷ []) ≡ (cond t.packed (max (pack_point list) t.tid) (pack_point list))
point-push list t =
    ap (λ (ts : List Transaction). greatest_of (map (λ (u : Transaction). u.tid) ts)) (filter-append is_packed list (t ∷ []))
    ∙ ap greatest_of (map-append (λ (u : Transaction). u.tid) (filter is_packed list) (filter is_packed (t ∷ [])))
    ∙ greatest-append (map (λ (u : Transaction). u.tid) (filter is_packed list)) (map (λ (u : Transaction). u.tid) (filter is_packed (t ∷ [])))
    ∙ by_cases t.packed
  where
    by_cases : (b : Bool) → max (pack_point list) (greatest_of (map (λ (u : Transaction). u.tid) (cond b (t ∷ []) []))) ≡ cond b (max (pack_point list) t.tid) (pack_point list)
    by_cases true = omega arith
    by_cases false = omega arith

-- the numbers with one transaction more, which has so many changes and this greatest object
pub numbers-push : (list : List Transaction) (t : Transaction) (old new : NumbersKept) (m g : ℕ) → AreNumbersOf list old → length t.changes ≡ m → greatest_of (oids_of t) ≡ g
    → new.tallies ≡ old.tallies ++ record { changes = total_of old.tallies + m; packed = t.packed } ∷ []
    → new.greatest ≡ max old.greatest g → new.pack_point ≡ cond t.packed (max old.pack_point t.tid) old.pack_point
    → AreNumbersOf (list ++ t ∷ []) new
numbers-push list t old new m g numbers count most tallies greatest point =
    let total : total_of old.tallies ≡ changes_of (last_or (Some (record { changes = 0; packed = false })) (tallies_from 0 list)) = ap total_of numbers.tallies ∙ from_none (tallies_from 0 list) in
    record {
      tallies = tallies ∙ rw (total, numbers.tallies, sym count) (sym (tallies-push 0 list t));
      greatest = greatest ∙ rw (numbers.greatest, sym most) (sym (flat-push list t));
      pack_point = point ∙ rw (numbers.pack_point) (sym (point-push list t));
    }

-- as many changes as objects, and the greatest of these
pub counted_objects : (t : Transaction) (oids : List ℕ) → oids_of t ≡ oids → (length t.changes ≡ length oids) × (greatest_of (oids_of t) ≡ greatest_of oids)
counted_objects t oids are = (grind (arith, common_steps, ap length are), ap greatest_of are)
