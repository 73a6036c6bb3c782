-- How many changes stand in a part of a list.
use Rattle.std.proofs.Common.{◌≡◌, ℕ, ◌+◌, ◌<◌, ◌≤◌, ◌^◌, Bool, true, false, if◌then◌else◌, List, [], ◌∷◌, length, get_or, drop, drop-cons, ap, arith}
use Rattle.std.proofs.lemmas.Grind.{common_steps}
use Rattle.std.specs.Prelude.{filter, nat_le}
use Rattle.std.specs.List.{sum_by}
use Rattle.std.proofs.lemmas.List.Sums.{sum_by-cons}
use Rattle.zb_model.specs.declared.data.Transaction.{Transaction}
use Rattle.zb_model.specs.Queries.{changes_up_to, is_up_to}
use Rattle.zb_model.specs.Packs.{change_count}

-- how many changes a transaction has
abbrev pub count_in : Transaction → ℕ
count_in t = length t.changes

with_first : (b : Bool) (t : Transaction) (list : List Transaction) → sum_by count_in (if b then t ∷ list else list) ≡ (if b then count_in t else 0) + sum_by count_in list
with_first true t list = sum_by-cons count_in t list
with_first false t list = omega arith

-- the first transaction's changes, where it counts, and those of the rest
pub changes_first : (tid : ℕ) (t : Transaction) (list : List Transaction) → changes_up_to tid (t ∷ list) ≡ (if nat_le t.tid tid then count_in t else 0) + changes_up_to tid list
changes_first tid t list = with_first (nat_le t.tid tid) t (filter (is_up_to tid) list)

no_more : (b : Bool) (n : ℕ) → (if b then n else 0) ≤ n
no_more true n = omega arith
no_more false n = omega arith

-- no more than all
pub changes_within : (tid : ℕ) (list : List Transaction) → changes_up_to tid list ≤ sum_by count_in list
changes_within tid [] = omega arith
changes_within tid (t ∷ list) = omega (arith, changes_first tid t list, sum_by-cons count_in t list, no_more (nat_le t.tid tid) (count_in t), changes_within tid list)

-- what was counted of the front, and the next transaction's changes, are no more than all
pub counted_within : (tid n i : ℕ) (list : List Transaction) (t : Transaction) → i < length list → t ≡ get_or list i t → t.tid ≤ tid → n + changes_up_to tid (drop i list) ≡ changes_up_to tid list → n + count_in t ≤ sum_by count_in list
counted_within tid n i list t within at up_to so_far =
    let e : drop i list ≡ t ∷ drop (i + 1) list = grind (arith, common_steps, drop-cons list i t within) in
    let first : changes_up_to tid (drop i list) ≡ (if nat_le t.tid tid then count_in t else 0) + changes_up_to tid (drop (i + 1) list) = rw e (changes_first tid t (drop (i + 1) list)) in
    let whole : (if nat_le t.tid tid then count_in t else 0) ≡ count_in t = grind (arith, common_steps) in
    omega (arith, first, whole, so_far, changes_within tid list)

-- the first transaction's changes and those of the rest
pub count_first : (t : Transaction) (list : List Transaction) → sum_by count_in (t ∷ list) ≡ count_in t + sum_by count_in list
count_first t list = sum_by-cons count_in t list

-- no more changes than in a list that is counted
pub still_counted : (view packed items list : List Transaction) (n : ℕ) → view ≡ packed → items ≡ list → change_count packed ≤ change_count items → sum_by count_in list ≡ n → n < 2 ^ 64 → change_count view < 2 ^ 64
still_counted view packed items list n seen is fewer counted bound = rw seen (omega (arith, ap change_count is, fewer, counted, bound))
