-- The index file of what Main has says so, for the proofs of those who keep one.
use Rattle.std.proofs.Common.{◌≡◌, ℕ, ◌+◌, Bool, true, false, List, [], ◌∷◌, length, get_or, map, refl, sym, ap, subst, ◌∙◌, arith}
use Rattle.std.specs.Prelude.{◌&&◌, ◌==◌, None, Option, Some}
use Rattle.std.specs.List.{last_or}
use Rattle.std.specs.Option.{option_map_or}
use Rattle.std.proofs.lemmas.Bool.{ne_eqb}
use Rattle.std.proofs.lemmas.List.{length-append}
use Rattle.zb_model.specs.declared.data.Transaction.{Transaction}
use Rattle.fs_index.specs.declared.place.Place.{Place}
use Rattle.fs_records.specs.Blocks.{Begins, Block, Reached, after_block, after_blocks, file_start}
use Rattle.fs_records.specs.Databases.{reading_of}
use Rattle.fs_recovery.specs.declared.opening.Opened.{Opened}
use Rattle.fs_recovery.specs.declared.tally.Tally.{Tally}
use Rattle.fs_recovery.specs.Numbers.{tallies_from}
use Rattle.fs_recovery.specs.Opens.{IsUpTo}
use Rattle.fs_index_file.specs.declared.entries.Start.{Start}
use Rattle.fs_index_file.specs.Hints.{Entries, are_entries, entries_in, head_of, hint_text, is_hint, size_by}
use Rattle.fs_index_file.specs.Honest.{AreEntriesOf, AreUpTo, IsHintOf, IsHonest, is_packed, starts_for, status_of}
use Rattle.fs_index_file.specs.ReadBack.{entries_again}
use Rattle.fs_index_file.specs.Writes.{IsClosed}

-- ---- as many transactions stand as there are

one_more : (s : Reached) (b : Block) → length s.starts ≡ length s.list → length (after_block s b).starts ≡ length (after_block s b).list
unfolding after_block
one_more s b same = length-append s.starts _ ∙ ap (λ (n : ℕ). n + 1) same ∙ sym (length-append s.list _)

as_many : (s : Reached) (bs : List Block) → length s.starts ≡ length s.list → length (after_blocks s bs).starts ≡ length (after_blocks s bs).list
as_many s [] same = same
as_many s (b ∷ bs) same = as_many (after_block s b) bs (one_more s b same)

-- ---- places and statuses

pub places_for : (ps : List Place) (tallies : List Tally) → map (λ s. s.place) (starts_for ps tallies) ≡ ps
places_for [] tallies = refl
places_for (p ∷ ps) [] = ap (λ (qs : List Place). p ∷ qs) (places_for ps [])
places_for (p ∷ ps) (t ∷ ts) = ap (λ (qs : List Place). p ∷ qs) (places_for ps ts)

status_says : (b : Bool) → (status_of b == 112) ≡ b
status_says true = refl
status_says false = refl

statuses_for : (ps : List Place) (n : ℕ) (list : List Transaction) → length ps ≡ length list → map is_packed (starts_for ps (tallies_from n list)) ≡ map (λ t. t.packed) list
statuses_for [] n [] same = refl
statuses_for [] n (t ∷ ts) same = absurd (omega (arith, same))
statuses_for (p ∷ ps) n [] same = absurd (omega (arith, same))
statuses_for (p ∷ ps) n (t ∷ ts) same =
    ap (λ (b : Bool). b ∷ map is_packed (starts_for ps (tallies_from (n + length t.changes) ts))) (status_says t.packed)
    ∙ ap (λ (bs : List Bool). t.packed ∷ bs) (statuses_for ps (n + length t.changes) ts (omega (arith, same)))

up_to : (main : List ℕ) (o : Opened) (e : Entries) → IsUpTo main o → AreEntriesOf o.index o.numbers.tallies o.end e → AreUpTo main e
up_to main o e known are =
    let i = known.indexed in
    let s = i.reached in
    let same : length s.starts ≡ length s.list = subst (λ (r : Reached). length r.starts ≡ length r.list) (sym i.begins.is) (as_many file_start i.begins.blocks refl) in
    let starts : e.starts ≡ starts_for s.starts (tallies_from 0 s.list) = are.starts_are ∙ ap (λ (ps : List Place). starts_for ps o.numbers.tallies) i.index.transactions ∙ ap (λ (ts : List Tally). starts_for s.starts ts) known.counted.tallies in
    record {
      reached = s;
      begins = i.begins;
      end_is = i.end_is ∙ sym are.end_is;
      places = ap (λ (ss : List Start). map (λ x. x.place) ss) starts ∙ places_for s.starts (tallies_from 0 s.list);
      statuses = ap (λ (ss : List Start). map is_packed ss) starts ∙ statuses_for s.starts 0 s.list same;
      records = λ oid. are.records_are.each oid ∙ i.index.records oid;
    }

pub kept_honest : (main : List ℕ) (o : Opened) (bytes : List ℕ) → IsUpTo main o → IsHintOf o.index o.numbers.tallies o.end bytes → IsHonest main bytes
kept_honest main o bytes known written =
    let e = written.0 in
    let honest : IsHonest main (hint_text e) = λ is. subst (λ (x : Entries). AreUpTo main x) (sym (entries_again e written.2)) (up_to main o e known written.1) in
    subst (λ (b : List ℕ). IsHonest main b) (sym written.3) honest

-- ---- the last transaction

-- the last number of a list
abbrev last_number : ℕ → List ℕ → ℕ
last_number n [] = n
last_number n (x ∷ xs) = last_number x xs

of_places : (o : Option Place) (ps : List Place) → option_map_or (λ (p : Place). p.serial) (last_or o ps) 0 ≡ last_number (option_map_or (λ (p : Place). p.serial) o 0) (map (λ p. p.serial) ps)
of_places o [] = refl
of_places o (p ∷ ps) = of_places (Some p) ps

of_list : (o : Option Transaction) (ts : List Transaction) → option_map_or (λ (t : Transaction). t.tid) (last_or o ts) 0 ≡ last_number (option_map_or (λ (t : Transaction). t.tid) o 0) (map (λ t. t.tid) ts)
of_list o [] = refl
of_list o (t ∷ ts) = of_list (Some t) ts

-- its number is that of the last place
pub newest_by_starts : (bytes : List ℕ) (s : Reached) → Begins bytes s → s.newest ≡ option_map_or (λ (p : Place). p.serial) (last_or None s.starts) 0
newest_by_starts bytes s begins =
    let reading = reading_of bytes s begins in
    sym reading.newest ∙ of_list None s.list ∙ ap (last_number 0) (sym reading.starts) ∙ sym (of_places None s.starts)

-- ---- a closed file

gate_is : (bytes : List ℕ) → (head_of bytes).gate ≡ get_or bytes 0 0
unfolding head_of
gate_is bytes = refl

pub closed_is_none : (bytes : List ℕ) → IsClosed bytes → is_hint bytes ≡ true → ⊥
closed_is_none bytes shut is = by_cases ((head_of bytes).gate == 1) (ne_eqb (head_of bytes).gate 1 (λ e. shut (sym (gate_is bytes) ∙ e))) is
  where
    by_cases : (b : Bool) → b ≡ false → (b && ((length bytes == size_by (head_of bytes)) && are_entries (entries_in bytes))) ≡ true → ⊥
    by_cases true shut_is is = absurd cc
    by_cases false shut_is is = absurd cc

pub closed_honest : (main bytes : List ℕ) → IsClosed bytes → IsHonest main bytes
closed_honest main bytes shut is = absurd (closed_is_none bytes shut is)
