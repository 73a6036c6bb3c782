-- A transaction of Main is copied to Side.
use Rattle.std.proofs.Common.{◌≡◌, ℕ, zero, suc, ◌+◌, ◌-◌, ◌^◌, ◌<◌, ◌≤◌, ◌⊎◌, All, inl, inr, Bool, true, false, List, [], ◌∷◌, ◌++◌, length, get_or, map, take, drop, Option, Some, None, Result, Ok, Err, OnOk, refl, sym, ap, subst, ◌∙◌, arith}
use Rattle.std.specs.Prelude.{slice_get}
use Rattle.std.specs.List.{cons_option, filter_map, last_or}
use Rattle.std.specs.Option.{option_map_or}
use Rattle.std.proofs.lemmas.List.{drop_all, length-drop, length-map, get_or-drop, get_or_default, take_all}
use Rattle.std.proofs.lemmas.List.Sums.{sum_by-append}
use Rattle.std.proofs.lemmas.Option.{slice_get_read}
use Rattle.std.specs.Ordering.{nat_cmp}
use Rattle.std.specs.FinSet.{FinSet}
use Rattle.zb_model.specs.declared.data.Transaction.{Transaction}
use Rattle.zb_model.specs.Database.{IsDatabase, newest_tid}
use Rattle.zb_model.specs.Packing.{packed_by, packed_one}
use Rattle.fs_index.specs.declared.place.Place.{Place}
use Rattle.fs_records.specs.Blocks.{Begins, Reached}
use Rattle.fs_records.specs.Databases.{reading_of}
use Rattle.fs_records.specs.Listed.{listed, reached_in}
use Rattle.fs_index.specs.Places.{Kept, IsRising}
use Rattle.fs_reading.specs.Main.{IsStart, IsStartOf}
use Rattle.fs_recovery.specs.Opens.{newest_kept}
use Rattle.zb_model.specs.Packs.{IsAllCopied, IsCopyTurn, IsPrefixOf, change_count, changes_a_turn, turn_from}
use Rattle.pack_copy.specs.CopiedLaws.{copied_list}
use Rattle.pack_copy.specs.Copying.{CopyKept, IsCopied, IsSource, copied_in}
use Rattle.pack_copy.specs.Filtering.{left_by}
use Rattle.pack_copy.specs.UpTo.{AreShort, Ends, IsAllOrMore, IsBelowNext, IsCopiedUpTo, IsCountUpTo, IsNext, IsSomeLeft}
use Rattle.pack_copy.proofs.Fronts.{database_rises, front_is, gone_over, later, left_more, left_next, left_parts, newest_same, some_left, tid_kept}
use Rattle.pack_copy.proofs.Lefts.{left_is, source_begins, source_list}
use Rattle.pack_copy.proofs.Short.{short_behind, turn_copies}

-- ---- answers

pub both_ok : {T E : Type 0} (r : Result T E) (P Q R : Type 0) → OnOk r P → OnOk r Q → (P → Q → R) → OnOk r R
both_ok (Ok x) P Q R p q so = so p q
both_ok (Err e) P Q R p q so = tt

-- ---- the transaction at a place

tid_at : (ps : List Place) (ts : List Transaction) (n : ℕ) (p : Place) (t : Transaction) → map (λ (p : Place). p.serial) ps ≡ map (λ (t : Transaction). t.tid) ts → slice_get ps n ≡ Some p → slice_get ts n ≡ Some t → p.serial ≡ t.tid
tid_at [] ts n p t same at is = absurd cc
tid_at (q ∷ ps) [] n p t same at is = absurd cc
tid_at (q ∷ ps) (u ∷ ts) zero p t same at is =
    let one : q ≡ p = cc in
    let other : u ≡ t = cc in
    let first : q.serial ≡ u.tid = cc in
    ap (λ (x : Place). x.serial) (sym one) ∙ first ∙ ap (λ (x : Transaction). x.tid) other
tid_at (q ∷ ps) (u ∷ ts) (suc n) p t same at is = let rest : map (λ (p : Place). p.serial) ps ≡ map (λ (t : Transaction). t.tid) ts = cc in tid_at ps ts n p t rest at is

-- has the number that its place has
pub with_its_tid : (bytes : List ℕ) (s : Reached) (n : ℕ) (start : Place) (t x : Transaction) → Begins bytes s → IsStartOf s n start → slice_get s.list n ≡ Some t → x ≡ record t { tid = start.serial } → slice_get s.list n ≡ Some x
with_its_tid bytes s n start t x begins at is with =
    let same : start.serial ≡ t.tid = tid_at s.starts s.list n start t (reading_of bytes s begins).starts at is in
    is ∙ ap (λ (k : ℕ). Some (record t { tid = k })) (sym same) ∙ ap (λ (u : Transaction). Some u) (sym with)

pub is_start : (main : List ℕ) (from : Kept) (n : ℕ) (start : Place) → IsSource main from → IsStartOf (reached_in main) n start → IsStart main start
is_start main from n start source is = record { reached = reached_in main; number = n; begins = source_begins main from source; is = is; short = omega (arith, source.short) }

-- ---- what is left of it

pub source_database : (main : List ℕ) (from : Kept) → IsSource main from → IsDatabase (listed main)
source_database main from source = subst (λ (l : List Transaction). IsDatabase l) (sym (source_list main from source)) (reading_of main (reached_in main) (source_begins main from source)).is

module _ (main side : List ℕ) (from : Kept) (c : CopyKept) (keep : FinSet nat_cmp) (n t : ℕ) (x : Transaction) (source : IsSource main from) (get : slice_get (reached_in main).list n ≡ Some x) (tid : t ≡ c.tid) (upto : IsCopiedUpTo (listed main) side c keep n) where
  listed_get : slice_get (listed main) n ≡ Some x
  listed_get = ap (λ (l : List Transaction). slice_get l n) (source_list main from source) ∙ get

  left_packed : left_by t keep from.entries x ≡ packed_one c.tid keep (listed main) x
  left_packed = ap (λ (k : ℕ). left_by k keep from.entries x) tid ∙ left_is main from c.tid keep x source

  -- it is later than all on Side
  pub later_left : (y : Transaction) → left_by t keep from.entries x ≡ Some y → newest_tid (listed side) < y.tid
  later_left y is =
      subst (λ (l : List Transaction). newest_tid l < y.tid) (sym upto.left)
      (later (packed_one c.tid keep (listed main)) (tid_kept c.tid keep (listed main)) (listed main) n x y (database_rises (listed main) (source_database main from source)) listed_get (sym left_packed ∙ is))

  -- it stands there
  pub one_more : (y : Transaction) (now : List ℕ) (d : CopyKept) → left_by t keep from.entries x ≡ Some y → IsCopied now d → d.tid ≡ c.tid → listed now ≡ listed side ++ y ∷ [] → IsCopiedUpTo (listed main) now d keep (n + 1)
  one_more y now d is copied same list = record {
    copied = copied;
    left = list
        ∙ ap (λ (l : List Transaction). l ++ y ∷ []) upto.left
        ∙ ap (λ (o : Option Transaction). filter_map (packed_one c.tid keep (listed main)) (take n (listed main)) ++ cons_option o []) (sym (sym left_packed ∙ is))
        ∙ sym (left_next (packed_one c.tid keep (listed main)) (listed main) n x listed_get)
        ∙ ap (λ (k : ℕ). filter_map (packed_one k keep (listed main)) (take (n + 1) (listed main))) (sym same);
  }

  -- something of it is left
  pub more_left : (y : Transaction) → left_by t keep from.entries x ≡ Some y → IsSomeLeft c.tid keep (listed main) n
  more_left y is = some_left (packed_one c.tid keep (listed main)) (listed main) n x y listed_get (sym left_packed ∙ is)

  -- nothing of it is left
  pub none_left : left_by t keep from.entries x ≡ None → IsCopiedUpTo (listed main) side c keep (n + 1)
  none_left is = gone_over (listed main) side c keep n x listed_get (sym left_packed ∙ is) upto

-- ---- a turn

-- what is behind the first ones
abbrev pub rest_of : ℕ → List Place → List Place
rest_of first xs = take (length xs - first) (drop first xs)

rest_is : (first : ℕ) (xs : List Place) → rest_of first xs ≡ drop first xs
rest_is first xs = take_all (length xs - first) (drop first xs) (omega (arith, length-drop first xs))

place_in : (xs : List Place) (first i : ℕ) (p : Place) → p ≡ get_or (rest_of first xs) i p → p ≡ get_or xs (first + i) p
place_in xs first i p is = is ∙ ap (λ (ps : List Place). get_or ps i p) (rest_is first xs) ∙ get_or-drop first xs i p

-- the place with a number among them
pub start_is : (xs all : List Place) (first i : ℕ) (p : Place) → xs ≡ all → i < length (rest_of first xs) → p ≡ get_or (rest_of first xs) i p → slice_get all (first + i) ≡ Some p
start_is xs all first i p same within is =
    let long = length-drop first xs in
    let rest = ap length (rest_is first xs) in
    ap (λ (ps : List Place). slice_get ps (first + i)) (sym same) ∙ slice_get_read xs (length xs) (first + i) p refl (omega arith) (place_in xs first i p is)

-- the next one isn't earlier
pub next_above : (xs all : List Place) (first i newest : ℕ) (p : Place) → xs ≡ all → IsRising xs → i < length (rest_of first xs) → p ≡ get_or (rest_of first xs) i p → newest ≤ p.serial → IsBelowNext all newest (first + (i + 1))
next_above xs all first i newest p same rising within is le =
    subst (λ (ps : List Place). IsBelowNext ps newest (first + (i + 1))) same (λ d w.
    let at : p ≡ get_or xs (first + i) p = place_in xs first i p is in
    let there : get_or xs (first + i) p ≡ get_or xs (first + i) d = get_or_default xs (first + i) p d (omega arith) in
    let up = rising.serials (first + i) (first + (i + 1)) d (omega arith) w in
    omega (arith, le, up, ap (λ (x : Place). x.serial) (at ∙ there)))

-- the first place behind those up to the last tid on Side
pub next_of : (from : Kept) (kept : ℕ) (starts : List Place) (newest n : ℕ) → starts ≡ from.transactions → newest ≡ kept → IsCountUpTo starts newest n → All (λ p. p.serial < 2 ^ 64 - 1) from.transactions → IsNext from kept n
next_of from kept starts newest n same is count bound = record {
  within = omega (arith, count.within, ap length same);
  above = subst (λ (ps : List Place). IsBelowNext ps kept n) same (λ d w. omega (arith, is, count.above n d (omega arith) w));
  bound = bound;
}

-- all were gone over
pub all_gone : (xs all : List Place) (first i : ℕ) → xs ≡ all → first ≤ length all → length (rest_of first xs) ≤ i → i ≤ length (rest_of first xs) → first + i ≡ length all
all_gone xs all first i same within done upto = omega (arith, length-drop first xs, ap length (rest_is first xs), ap length same)

-- the last tid on Side
pub copied_newest : (side : List ℕ) (c : CopyKept) → IsCopied side c → newest_kept c.index ≡ newest_tid (listed side)
copied_newest side c copied =
    let s = copied.whole.reached in
    let same = reading_of side s copied.whole.stands.begins in
    ap (λ (ps : List Place). option_map_or (λ (p : Place). p.serial) (last_or None ps) 0) copied.whole.index.transactions
    ∙ newest_same s.starts s.list same.starts ∙ ap newest_tid (sym (copied_list side c copied))

starts_same : (main : List ℕ) (from : Kept) → IsSource main from → map (λ p. p.serial) from.transactions ≡ map (λ t. t.tid) (listed main)
starts_same main from source =
    ap (λ (ps : List Place). map (λ (p : Place). p.serial) ps) source.index.transactions
    ∙ (reading_of main (reached_in main) (source_begins main from source)).starts
    ∙ ap (λ (l : List Transaction). map (λ (t : Transaction). t.tid) l) (sym (source_list main from source))

-- so many transactions has Main
all_long : (main : List ℕ) (from : Kept) → IsSource main from → length (listed main) ≤ length from.transactions
all_long main from source = omega (arith, ap length (starts_same main from source), length-map from.transactions (λ (p : Place). p.serial), length-map (listed main) (λ (t : Transaction). t.tid))

-- a turn goes on behind what was copied
pub goes_on : (main side : List ℕ) (from : Kept) (c : CopyKept) (keep : FinSet nat_cmp) (starts : List Place) (newest n : ℕ) → IsSource main from → (copied : IsCopied side c) → IsPrefixOf (packed_by c.tid keep (listed main)) (listed side)
    → starts ≡ from.transactions → newest ≡ newest_kept c.index → IsCountUpTo starts newest n → IsCopiedUpTo (listed main) side c keep n
goes_on main side from c keep starts newest n source copied front same newest_is count = record {
  copied = copied;
  left = front_is (packed_one c.tid keep (listed main)) (tid_kept c.tid keep (listed main)) (listed main) (listed side) front.0 starts n (database_rises (listed main) (source_database main from source))
      (ap (λ (ps : List Place). map (λ (p : Place). p.serial) ps) same ∙ starts_same main from source)
      (subst (λ (m : ℕ). IsCountUpTo starts m n) (newest_is ∙ copied_newest side c copied) count) front.1;
}

-- and where all was gone over the packed list stands there
pub all_copied : (main side : List ℕ) (from : Kept) (c : CopyKept) (keep : FinSet nat_cmp) (t : ℕ) → IsSource main from → c.tid ≡ t → IsCopiedUpTo (listed main) side c keep (length from.transactions) → listed side ≡ packed_by t keep (listed main)
all_copied main side from c keep t source tid upto =
    upto.left ∙ ap (filter_map (packed_one c.tid keep (listed main))) (take_all (length from.transactions) (listed main) (all_long main from source)) ∙ ap (λ (k : ℕ). packed_by k keep (listed main)) tid

-- a copy that went to the end
pub to_the_end : (list : List Transaction) (side : List ℕ) (c : CopyKept) (keep : FinSet nat_cmp) (first total : ℕ) (whole : Bool) → whole ≡ true → Ends list side c keep first total whole → IsCopiedUpTo list side c keep total
to_the_end list side c keep first total true is ends = subst (λ (n : ℕ). IsCopiedUpTo list side c keep n) ends.end ends.up_to
to_the_end list side c keep first total false is ends = absurd cc

-- ---- what a turn copied

module _ (main was now : List ℕ) (from : Kept) (old new : CopyKept) (keep : FinSet nat_cmp) (first : ℕ) (source : IsSource main from) (tid : new.tid ≡ old.tid)
    (before : IsCopiedUpTo (listed main) was old keep first) (count : ℕ) (count_is : count ≡ change_count (listed now)) where
  abbrev F : Transaction → Option Transaction
  F = packed_one old.tid keep (listed main)

  abbrev behind : ℕ → List Transaction
  behind more = filter_map F (take more (drop first (listed main)))

  now_is : (more : ℕ) → IsCopiedUpTo (listed main) now new keep (first + more) → listed now ≡ filter_map F (take (first + more) (listed main))
  now_is more upto = upto.left ∙ ap (λ (k : ℕ). filter_map (packed_one k keep (listed main)) (take (first + more) (listed main))) tid

  grown : (more : ℕ) → IsCopiedUpTo (listed main) now new keep (first + more) → listed now ≡ listed was ++ behind more
  grown more upto = now_is more upto ∙ left_more F first more (listed main) ∙ ap (λ (l : List Transaction). l ++ behind more) (sym before.left)

  as_much : (more : ℕ) → IsCopiedUpTo (listed main) now new keep (first + more) → change_count (listed was) + changes_a_turn ≤ change_count (listed now) → changes_a_turn ≤ 0 + change_count (behind more)
  as_much more upto enough =
      let parts : change_count (listed now) ≡ change_count (listed was) + change_count (behind more) = ap change_count (grown more upto) ∙ sum_by-append (λ (x : Transaction). length x.changes) (listed was) (behind more) in
      omega (arith, enough, parts)

  -- what is left behind what was copied
  abbrev left_behind : ℕ → List Transaction
  left_behind more = filter_map F (drop more (drop first (listed main)))

  parts : (more : ℕ) → filter_map F (drop first (listed main)) ≡ behind more ++ left_behind more
  parts more = left_parts F more (drop first (listed main))

  all_so : (whole : Bool) (more : ℕ) → IsCopiedUpTo (listed main) now new keep (first + more) → IsAllOrMore new.tid keep (listed main) (length from.transactions) (first + more) whole → IsAllCopied (packed_by old.tid keep (listed main)) (listed now) whole
  all_so true more upto all = now_is more upto ∙ ap (filter_map F) (take_all (first + more) (listed main) (omega (arith, all, all_long main from source)))
  all_so false more upto some =
      λ all. some (ap (λ (k : ℕ). filter_map (packed_one k keep (listed main)) (take (first + more) (listed main))) tid ∙ sym (now_is more upto) ∙ all ∙ ap (λ (k : ℕ). packed_by k keep (listed main)) (sym tid))

  ends_so : (whole : Bool) (more : ℕ) → IsCopiedUpTo (listed main) now new keep (first + more) → IsAllOrMore new.tid keep (listed main) (length from.transactions) (first + more) whole
      → (whole ≡ false → change_count (listed was) + changes_a_turn ≤ change_count (listed now)) → (left_behind more ≡ []) ⊎ (changes_a_turn ≤ 0 + change_count (behind more))
  ends_so true more upto all enough = inl (ap (filter_map F) (drop_all more (drop first (listed main)) (omega (arith, all, all_long main from source, length-drop first (listed main)))))
  ends_so false more upto some enough = inr (as_much more upto (enough refl))

  pub turn_is : (whole : Bool) → Ends (listed main) now new keep first (length from.transactions) whole → (whole ≡ false → change_count (listed was) + changes_a_turn ≤ change_count (listed now)) → AreShort (change_count (listed was)) (listed was) (listed now)
      → IsCopyTurn (packed_by old.tid keep (listed main)) (copied_in old.tid was) (copied_in new.tid now) (record { count = count; whole = whole })
  turn_is whole ends enough short = record {
    rest = filter_map F (drop first (listed main));
    left = left_parts F first (listed main) ∙ ap (λ (l : List Transaction). l ++ filter_map F (drop first (listed main))) (sym before.left);
    tid = tid;
    grown = grown ends.more ends.up_to ∙ ap (λ (l : List Transaction). listed was ++ l)
        (sym (ap (turn_from 0) (parts ends.more) ∙ turn_copies 0 (behind ends.more) (left_behind ends.more)
        (short_behind (listed was) (behind ends.more) (subst (AreShort (change_count (listed was)) (listed was)) (grown ends.more ends.up_to) short))
        (ends_so whole ends.more ends.up_to ends.end enough)));
    count = count_is;
    whole = all_so whole ends.more ends.up_to ends.end;
  }
