-- The entries of what Main has up to an end are in order, so that their index file may be believed. For the proofs of those who keep one.
use Rattle.std.proofs.Common.{◌≡◌, ℕ, ◌+◌, ◌-◌, ◌^◌, ◌<◌, ◌≤◌, inl, inr, suc, Bool, true, false, cond, List, [], ◌∷◌, ◌++◌, length, map, filter, refl, sym, ap, subst, ◌∙◌, arith}
use Rattle.std.specs.Prelude.{◌*◌, ◌==◌, ◌&&◌, ◌||◌, nat_lt, nat_le, None, Option, Some, option_map}
use Rattle.std.specs.List.{AllByRecursion, flat_map, last_or}
use Rattle.std.specs.List.Sorted.{IsNonDecreasingBy}
use Rattle.std.specs.Option.{option_map_or}
use Rattle.std.proofs.lemmas.Bool.{cases_lt, eq-eqb, le-leb, lt-ltb}
use Rattle.std.proofs.lemmas.List.{length-append, map-append}
use Rattle.std.proofs.lemmas.List.Elements.{filter-append}
use Rattle.fs_index.specs.declared.place.Place.{Place}
use Rattle.fs_index.specs.declared.place.Placed.{Placed}
use Rattle.fs_index.specs.Places.{is_placed, placed_of}
use Rattle.fs_records.specs.Blocks.{AreBlocks, Begins, Block, IsBlock, Known, Reached, Written, after_block, after_blocks, file_start, known_at, length_of, record_text, records_from, records_text, with_record, with_records}
use Rattle.fs_records.specs.Indexed.{is_of, place_of, places_of}
use Rattle.fs_records.specs.RecordLaws.{length-record_text}
use Rattle.fs_records.specs.Numbers.{number}
use Rattle.fs_records.specs.NumberLaws.{length-number}
use Rattle.fs_recovery.specs.declared.opening.Opened.{Opened}
use Rattle.fs_recovery.specs.declared.tally.Tally.{Tally}
use Rattle.fs_recovery.specs.Opens.{IsUpTo}
use Rattle.fs_index_file.specs.declared.entries.Start.{Start}
use Rattle.fs_index_file.specs.declared.entries.Head.{Head}
use Rattle.fs_index_file.specs.Hints as hints
use Rattle.fs_index_file.specs.Hints.{Entries, after, are_entries, are_records, are_starts, behind, entries_in, first_record, first_start, head_of, hint_text, is_hint, is_next, is_record, is_start, is_status, newest_in, rest_text, size_by, start_text}
use Rattle.fs_index_file.specs.Honest.{AreEntriesOf, IsHintOf, starts_for, status_of}
use Rattle.fs_index_file.specs.HonestLaws.{places_for}
use Rattle.fs_index_file.specs.ReadBack.{entries_again, head_again}
use Rattle.fs_index_file.specs.Scans.{newest_of, places_of_starts}

-- ---- what was read is in order

-- of no later transaction, and before this place
abbrev Before : ℕ → ℕ → Place → Type 0
Before tid at p = (p.serial ≤ tid) × (p.at < at)

-- of no earlier transaction, and behind this place
abbrev Behind : Place → Place → Type 0
Behind p q = (p.serial ≤ q.serial) × (p.at < q.at)

abbrev pub AreRising : List Place → Type 0
AreRising [] = Unit {0}
AreRising (p ∷ ps) = AllByRecursion (Behind p) ps × AreRising ps

-- transactions behind one
abbrev pub InOrder : Place → List Place → Type 0
InOrder p [] = Unit {0}
InOrder p (q ∷ qs) = (p.serial < q.serial) × (q.serial < 2 ^ 64 - 1) × (p.at ≤ q.at) × InOrder (behind q) qs

all_weaker : (P Q : Place → Type 0) → ((p : Place) → P p → Q p) → (ps : List Place) → AllByRecursion P ps → AllByRecursion Q ps
all_weaker P Q more [] all = tt
all_weaker P Q more (p ∷ ps) all = (more p all.0, all_weaker P Q more ps all.1)

all_push : (P : Place → Type 0) → (ps : List Place) (q : Place) → AllByRecursion P ps → P q → AllByRecursion P (ps ++ q ∷ [])
all_push P [] q all is = (is, tt)
all_push P (p ∷ ps) q all is = (all.0, all_push P ps q all.1 is)

rising_push : (ps : List Place) (q : Place) → AreRising ps → AllByRecursion (λ p. Behind p q) ps → AreRising (ps ++ q ∷ [])
rising_push [] q rising all = (tt, tt)
rising_push (p ∷ ps) q rising all = (all_push (Behind p) ps q rising.0 all.0, rising_push ps q rising.1 all.1)

order_push : (p : Place) (ps : List Place) (q : Place) → InOrder p ps → AllByRecursion (λ x. (x.serial < q.serial) × (x.at < q.at)) ps → p.serial < q.serial → p.at ≤ q.at → q.serial < 2 ^ 64 - 1 → InOrder p (ps ++ q ∷ [])
order_push p [] q order all above further below = (above, below, further, tt)
order_push p (x ∷ ps) q order all above further below = (order.0, order.1, order.2, order_push (behind x) ps q order.3 all.1 all.0.0 (omega (arith, all.0.1)) below)

-- ---- data records

places_more : (oid : ℕ) (known : List Known) (k : Known) → places_of oid (known ++ k ∷ []) ≡ places_of oid known ++ cond (is_of oid k) (place_of k ∷ []) []
places_more oid known k =
    ap (map place_of) (filter-append (is_of oid) known (k ∷ [])) ∙ map-append place_of (filter (is_of oid) known) (filter (is_of oid) (k ∷ []))
    ∙ ap (λ (ps : List Place). places_of oid known ++ ps) (by_cases (is_of oid k))
  where
    by_cases : (b : Bool) → map place_of (cond b (k ∷ []) []) ≡ cond b (place_of k ∷ []) []
    by_cases true = refl
    by_cases false = refl

append_none : (ps : List Place) → ps ++ [] ≡ ps
append_none [] = refl
append_none (p ∷ ps) = ap (λ (qs : List Place). p ∷ qs) (append_none ps)

record AreOrdered (known : List Known) (tid at : ℕ) : Type 0 where
  rising : (oid : ℕ) → AreRising (places_of oid known)
  before : (oid : ℕ) → AllByRecursion (Before tid at) (places_of oid known)

one_ordered : (known : List Known) (tid at next : ℕ) (k : Known) → AreOrdered known tid at → k.tid ≡ tid → k.place ≡ at → at < next → AreOrdered (known ++ k ∷ []) tid next
one_ordered known tid at next k so_far tid_is at_is less = record {
  rising = λ oid. subst (λ (ps : List Place). AreRising ps) (sym (places_more oid known k)) (rising oid (is_of oid k));
  before = λ oid. subst (λ (ps : List Place). AllByRecursion (Before tid next) ps) (sym (places_more oid known k)) (before oid (is_of oid k));
}
  where
    rising : (oid : ℕ) (b : Bool) → AreRising (places_of oid known ++ cond b (place_of k ∷ []) [])
    rising oid true = rising_push (places_of oid known) (place_of k) (so_far.rising oid) (all_weaker (Before tid at) (λ p. Behind p (place_of k)) (λ p is. (omega (arith, is.0, tid_is), omega (arith, is.1, at_is))) (places_of oid known) (so_far.before oid))
    rising oid false = subst (λ (ps : List Place). AreRising ps) (sym (append_none (places_of oid known))) (so_far.rising oid)

    before : (oid : ℕ) (b : Bool) → AllByRecursion (Before tid next) (places_of oid known ++ cond b (place_of k ∷ []) [])
    before oid true = all_push (Before tid next) (places_of oid known) (place_of k) (all_weaker (Before tid at) (Before tid next) (λ p is. (is.0, omega (arith, is.1, less))) (places_of oid known) (so_far.before oid)) (omega (arith, tid_is), omega (arith, at_is, less))
    before oid false = subst (λ (ps : List Place). AllByRecursion (Before tid next) ps) (sym (append_none (places_of oid known))) (all_weaker (Before tid at) (Before tid next) (λ p is. (is.0, omega (arith, is.1, less))) (places_of oid known) (so_far.before oid))

more_ordered : (known : List Known) (place tid q : ℕ) (rs : List Written) → AreOrdered known tid q → AreOrdered (with_records known place tid q rs) tid (q + length (records_text place tid rs))
more_ordered known place tid q [] so_far = let same : q ≡ q + 0 = omega arith in subst (λ (n : ℕ). AreOrdered known tid n) same so_far
more_ordered known place tid q (r ∷ rs) so_far =
    let next : ℕ = q + length (record_text place tid r) in
    let some = length-record_text place tid r in
    let one = one_ordered known tid q next (known_at known tid q r) so_far refl refl (omega (arith, some)) in
    let to_is : next + length (records_text place tid rs) ≡ q + length (records_text place tid (r ∷ rs)) = omega (arith, length-append (record_text place tid r) (records_text place tid rs)) in
    subst (λ (n : ℕ). AreOrdered (with_records known place tid q (r ∷ rs)) tid n) to_is (more_ordered (with_record known tid q r) place tid next rs one)

-- ---- all that was read

record IsOrdered (s : Reached) : Type 0 where
  first : 4 ≤ s.end
  bounded : s.newest < 2 ^ 64 - 1
  records : AreOrdered s.known s.newest s.end
  starts : InOrder first_start s.starts
  starts_before : AllByRecursion (Before s.newest s.end) s.starts

nothing_ordered : IsOrdered file_start
nothing_ordered = record { first = omega arith; bounded = omega arith; records = record { rising = λ oid. tt; before = λ oid. tt }; starts = tt; starts_before = tt }

block_ordered : (s : Reached) (b : Block) → IsOrdered s → IsBlock s b → IsOrdered (after_block s b)
unfolding after_block
block_ordered s b so_far block =
    let from : ℕ = records_from s.end b in
    let to : ℕ = from + length (records_text s.end b.tid b.records) in
    let end : ℕ = s.end + (length_of s.end b + 8) in
    let known = with_records s.known s.end b.tid from b.records in
    let above : s.newest < b.tid = block.above in
    let here : AreOrdered s.known b.tid from = record { rising = so_far.records.rising; before = λ oid. all_weaker (Before s.newest s.end) (Before b.tid from) (λ p is. (omega (arith, is.0, above), omega (arith, is.1))) (places_of oid s.known) (so_far.records.before oid) } in
    let there = more_ordered s.known s.end b.tid from b.records here in
    record {
      first = omega (arith, so_far.first);
      bounded = block.below;
      records = record { rising = there.rising; before = λ oid. all_weaker (Before b.tid to) (Before b.tid end) (λ p is. (is.0, omega (arith, is.1))) (places_of oid known) (there.before oid) };
      starts = order_push first_start s.starts (record { serial = b.tid; at = s.end }) so_far.starts (all_weaker (Before s.newest s.end) (λ x. (x.serial < b.tid) × (x.at < s.end)) (λ p is. (omega (arith, is.0, above), is.1)) s.starts so_far.starts_before) (omega (arith, above)) so_far.first block.below;
      starts_before = all_push (Before b.tid end) s.starts (record { serial = b.tid; at = s.end }) (all_weaker (Before s.newest s.end) (Before b.tid end) (λ p is. (omega (arith, is.0, above), omega (arith, is.1))) s.starts so_far.starts_before) (omega arith, omega arith);
    }

blocks_ordered : (s : Reached) (bs : List Block) → IsOrdered s → AreBlocks s bs → IsOrdered (after_blocks s bs)
blocks_ordered s [] so_far are = so_far
blocks_ordered s (b ∷ bs) so_far are = blocks_ordered (after_block s b) bs (block_ordered s b so_far are.0) are.1

ordered : (bytes : List ℕ) (s : Reached) → Begins bytes s → IsOrdered s
ordered bytes s begins = subst (λ (r : Reached). IsOrdered r) (sym begins.is) (blocks_ordered file_start begins.blocks nothing_ordered begins.are)

-- ---- the tests pass

both_are : (a b : Bool) → a ≡ true → b ≡ true → (a && b) ≡ true
both_are true true x y = refl
both_are true false x y = y
both_are false b x y = x

starts_pass : (newest end : ℕ) (p : Place) (ss : List Start) → InOrder p (map (λ s. s.place) ss) → AllByRecursion (Before newest end) (map (λ s. s.place) ss) → AllByRecursion (λ (s : Start). is_status s.status ≡ true) ss → are_starts end p ss ≡ true
starts_pass newest end p [] order before statuses = refl
starts_pass newest end p (s ∷ ss) order before statuses =
    both_are (is_start end p s) (are_starts end (behind s.place) ss)
    (both_are (nat_lt p.serial s.place.serial) _ (lt-ltb _ _ order.0)
    (both_are (nat_lt s.place.serial (2 ^ 64 - 1)) _ (lt-ltb _ _ order.1)
    (both_are (nat_le p.at s.place.at) _ (le-leb _ _ order.2)
    (both_are (nat_lt s.place.at end) (is_status s.status) (lt-ltb _ _ before.0.1) statuses.0))))
    (starts_pass newest end (behind s.place) ss order.3 before.1 statuses.1)

-- data records, each object's in order, and the objects too
record InOrderBy (newest end : ℕ) (rs : List Placed) : Type 0 where
  rising : (oid : ℕ) → AreRising (placed_of oid rs)
  before : (oid : ℕ) → AllByRecursion (Before newest end) (placed_of oid rs)
  oids : IsNonDecreasingBy (λ (r : Placed). r.oid) rs

placed_head : (r : Placed) (rs : List Placed) → placed_of r.oid (r ∷ rs) ≡ r.place ∷ placed_of r.oid rs
placed_head r rs = ap (λ (b : Bool). map (λ (p : Placed). p.place) (cond b (r ∷ filter (is_placed r.oid) rs) (filter (is_placed r.oid) rs))) (eq-eqb r.oid r.oid refl)

tail_of : (P : List Place → Type 0) → ((p : Place) (ps : List Place) → P (p ∷ ps) → P ps) → (oid : ℕ) (r : Placed) (rs : List Placed) → P (placed_of oid (r ∷ rs)) → P (placed_of oid rs)
tail_of P less oid r rs is = by_cases (is_placed oid r) is
  where
    by_cases : (b : Bool) → P (map (λ (p : Placed). p.place) (cond b (r ∷ filter (is_placed oid) rs) (filter (is_placed oid) rs))) → P (placed_of oid rs)
    by_cases true all = less r.place (placed_of oid rs) all
    by_cases false all = all

next_of : (r s : Placed) (rs : List Placed) → r.oid ≤ s.oid → AreRising (placed_of r.oid (r ∷ s ∷ rs)) → is_next (after r) s ≡ true
next_of r s rs le rising = elim (cases_lt r.oid s.oid) [
  | inl less ↦ ap (λ (b : Bool). b || (r.oid == s.oid && (nat_le r.place.serial s.place.serial && nat_le (r.place.at + 1) s.place.at))) (lt-ltb _ _ less)
  | inr more ↦ same (let e : r.oid ≡ s.oid = omega (arith, le, more) in e)
]
  where
    or_right : (a b : Bool) → b ≡ true → (a || b) ≡ true
    or_right true b is = refl
    or_right false b is = is

    same : r.oid ≡ s.oid → is_next (after r) s ≡ true
    same e =
        let there = subst (λ (ps : List Place). AreRising ps) (placed_head r (s ∷ rs)) rising in
        let head : AllByRecursion (Behind r.place) (placed_of r.oid (s ∷ rs)) = there.0 in
        let here = subst (λ (ps : List Place). AllByRecursion (Behind r.place) ps) (ap (λ (o : ℕ). placed_of o (s ∷ rs)) e ∙ placed_head s rs) head in
        or_right (nat_lt r.oid s.oid) _ (both_are (r.oid == s.oid) _ (eq-eqb _ _ e) (both_are (nat_le r.place.serial s.place.serial) _ (le-leb _ _ here.0.0) (le-leb _ _ (omega (arith, here.0.1)))))

-- the first of them may stand there
abbrev Links : Placed → List Placed → Type 0
Links last [] = Unit {0}
Links last (r ∷ rs) = is_next last r ≡ true

records_pass : (newest end : ℕ) (last : Placed) (rs : List Placed) → Links last rs → InOrderBy newest end rs → are_records newest end last rs ≡ true
records_pass newest end last [] links order = refl
records_pass newest end last (r ∷ rs) links order =
    let here = subst (λ (ps : List Place). AllByRecursion (Before newest end) ps) (placed_head r rs) (order.before r.oid) in
    both_are (is_record newest end last r) (are_records newest end (after r) rs)
    (both_are (is_next last r) _ links (both_are (nat_le r.place.serial newest) (nat_lt r.place.at end) (le-leb _ _ here.0.0) (lt-ltb _ _ here.0.1)))
    (records_pass newest end (after r) rs (links_next rs order) (record {
      rising = λ oid. tail_of (λ ps. AreRising ps) (λ p ps all. all.1) oid r rs (order.rising oid);
      before = λ oid. tail_of (λ ps. AllByRecursion (Before newest end) ps) (λ p ps all. all.1) oid r rs (order.before oid);
      oids = λ i j d le within. order.oids (suc i) (suc j) d (omega (arith, le)) (omega (arith, within));
    }))
  where
    links_next : (xs : List Placed) → InOrderBy newest end (r ∷ xs) → Links (after r) xs
    links_next [] o = tt
    links_next (s ∷ xs) o = next_of r s xs (o.oids 0 1 r (omega arith) (omega arith)) (o.rising r.oid)

first_next : (r : Placed) → is_next first_record r ≡ true
first_next r = elim (cases_lt 0 r.oid) [
  | inl less ↦ ap (λ (b : Bool). b || (0 == r.oid && (nat_le 0 r.place.serial && nat_le 0 r.place.at))) (lt-ltb _ _ less)
  | inr none ↦ or_right (nat_lt 0 r.oid) _ (both_are (0 == r.oid) _ (eq-eqb 0 r.oid (omega (arith, none))) (both_are (nat_le 0 r.place.serial) _ (le-leb _ _ (omega arith)) (le-leb _ _ (omega arith))))
]
  where
    or_right : (a b : Bool) → b ≡ true → (a || b) ≡ true
    or_right true b is = refl
    or_right false b is = is

first_links : (rs : List Placed) → Links first_record rs
first_links [] = tt
first_links (r ∷ rs) = first_next r

-- ---- the whole index file

statuses_pass : (ps : List Place) (tallies : List Tally) → AllByRecursion (λ (s : Start). is_status s.status ≡ true) (starts_for ps tallies)
statuses_pass [] tallies = tt
statuses_pass (p ∷ ps) [] = (refl, statuses_pass ps [])
statuses_pass (p ∷ ps) (t ∷ ts) = (by_cases t.packed, statuses_pass ps ts)
  where
    by_cases : (b : Bool) → is_status (status_of b) ≡ true
    by_cases true = refl
    by_cases false = refl

last_place : (o : Option Start) (ss : List Start) → last_or (option_map (λ s. s.place) o) (places_of_starts ss) ≡ option_map (λ s. s.place) (last_or o ss)
last_place o [] = refl
last_place o (s ∷ ss) = last_place (Some s) ss

of_last : (o : Option Start) → option_map_or (λ (p : Place). p.serial) (option_map (λ (s : Start). s.place) o) 0 ≡ option_map_or (λ (s : Start). s.place.serial) o 0
of_last None = refl
of_last (Some s) = refl

pub newest_same : (ss : List Start) → newest_of (places_of_starts ss) ≡ newest_in ss
newest_same ss = ap (λ (o : Option Place). option_map_or (λ (p : Place). p.serial) o 0) (last_place None ss) ∙ of_last (last_or None ss)

entries_pass : (main : List ℕ) (o : Opened) (e : Entries) → IsUpTo main o → AreEntriesOf o.index o.numbers.tallies o.end e → are_entries e ≡ true
entries_pass main o e known are =
    let i = known.indexed in
    let s = i.reached in
    let q = ordered main s i.begins in
    let end_is : s.end ≡ e.end = i.end_is ∙ sym are.end_is in
    let kept : places_of_starts e.starts ≡ o.index.transactions = ap places_of_starts are.starts_are ∙ places_for o.index.transactions o.numbers.tallies in
    let places : places_of_starts e.starts ≡ s.starts = kept ∙ i.index.transactions in
    let newest : newest_in e.starts ≡ s.newest = sym (newest_same e.starts) ∙ ap newest_of kept ∙ sym i.newest_is in
    let records : (oid : ℕ) → placed_of oid e.records ≡ places_of oid s.known = λ oid. are.records_are.each oid ∙ i.index.records oid in
    let statuses = subst (λ (ss : List Start). AllByRecursion (λ (x : Start). is_status x.status ≡ true) ss) (sym are.starts_are) (statuses_pass o.index.transactions o.numbers.tallies) in
    let first : nat_le 4 e.end ≡ true = le-leb _ _ (omega (arith, q.first, end_is)) in
    let starts = starts_pass s.newest e.end first_start e.starts (subst (λ (ps : List Place). InOrder first_start ps) (sym places) q.starts)
    (subst (λ (ps : List Place). AllByRecursion (Before s.newest e.end) ps) (sym places) (subst (λ (n : ℕ). AllByRecursion (Before s.newest n) s.starts) end_is q.starts_before)) statuses in
    let order : InOrderBy s.newest e.end e.records = record {
      rising = λ oid. subst (λ (ps : List Place). AreRising ps) (sym (records oid)) (q.records.rising oid);
      before = λ oid. subst (λ (ps : List Place). AllByRecursion (Before s.newest e.end) ps) (sym (records oid)) (subst (λ (n : ℕ). AllByRecursion (Before s.newest n) (places_of oid s.known)) end_is (q.records.before oid));
      oids = are.records_are.order;
    } in
    both_are (nat_le 4 e.end) _ first (both_are (are_starts e.end first_start e.starts) _ starts
    (ap (λ (n : ℕ). are_records n e.end first_record e.records) newest ∙ records_pass s.newest e.end first_record e.records (first_links e.records) order))

length-start_text : (s : Start) → length (start_text s) ≡ 17
unfolding start_text
length-start_text s = omega (arith, length-append (number 8 s.place.serial) (number 8 s.place.at ++ s.status ∷ []), length-append (number 8 s.place.at) (s.status ∷ []), length-number 8 s.place.serial, length-number 8 s.place.at)

length-record_text_here : (r : Placed) → length (hints.record_text r) ≡ 24
unfolding hints.record_text
length-record_text_here r = omega (arith, length-append (number 8 r.oid) (number 8 r.place.serial ++ number 8 r.place.at), length-append (number 8 r.place.serial) (number 8 r.place.at), length-number 8 r.oid, length-number 8 r.place.serial, length-number 8 r.place.at)

length-starts : (ss : List Start) → length (flat_map start_text ss) ≡ 17 * length ss
length-starts [] = refl
length-starts (s ∷ ss) = omega (arith, length-append (start_text s) (flat_map start_text ss), length-start_text s, length-starts ss)

length-records : (rs : List Placed) → length (flat_map hints.record_text rs) ≡ 24 * length rs
length-records [] = refl
length-records (r ∷ rs) = omega (arith, length-append (hints.record_text r) (flat_map hints.record_text rs), length-record_text_here r, length-records rs)

length-hint_text : (e : Entries) → length (hint_text e) ≡ 25 + 17 * length e.starts + 24 * length e.records
unfolding rest_text
length-hint_text e =
    let rs = flat_map hints.record_text e.records in
    let ss = flat_map start_text e.starts in
    let n = number 8 (length e.starts) in
    let m = number 8 (length e.records) in
    omega (arith, length-append (number 8 e.end) (n ++ (m ++ (ss ++ rs))), length-append n (m ++ (ss ++ rs)), length-append m (ss ++ rs), length-append ss rs, length-number 8 e.end, length-number 8 (length e.starts), length-number 8 (length e.records), length-starts e.starts, length-records e.records)

-- the index file of what Main has up to an end is one, with that end
pub written_is_hint : (main : List ℕ) (o : Opened) (bytes : List ℕ) → IsUpTo main o → IsHintOf o.index o.numbers.tallies o.end bytes → (is_hint bytes ≡ true) × ((entries_in bytes).end ≡ o.end)
written_is_hint main o bytes known written =
    let e = written.0 in
    let all = hint_text e in
    let head = head_again e written.2 in
    let again = entries_again e written.2 in
    let gate : ((head_of all).gate == 1) ≡ true = ap (λ (h : Head). h.gate == 1) head in
    let size : (length all == size_by (head_of all)) ≡ true = eq-eqb _ _ (length-hint_text e ∙ sym (ap size_by head)) in
    let order : are_entries (entries_in all) ≡ true = ap are_entries again ∙ entries_pass main o e known written.1 in
    let here : is_hint all ≡ true = both_are ((head_of all).gate == 1) _ gate (both_are (length all == size_by (head_of all)) _ size order) in
    (ap is_hint written.3 ∙ here, ap (λ (b : List ℕ). (entries_in b).end) written.3 ∙ ap (λ (x : Entries). x.end) again ∙ written.1.end_is)
