-- What a vote, a finish and an abort make of what is kept.
use Rattle.std.proofs.Common.{◌≡◌, ℕ, zero, suc, ◌+◌, ◌^◌, ◌<◌, ◌≤◌, false, List, [], ◌∷◌, ◌++◌, length, get_or, map, take, Option, Some, None, refl, sym, ap, subst, ◌∙◌, arith}
use Rattle.std.proofs.Math.ListN.{set, length-set}
use Rattle.std.specs.Prelude.{unwrap_or, option_map}
use Rattle.std.specs.List.{last_or}
use Rattle.std.proofs.lemmas.List.{length-append, length-take, take_all, set-append_right, get_or-append-add}
use Rattle.zb_model.specs.declared.data.Transaction.{Transaction}
use Rattle.zb_model.specs.declared.new_transaction.NewTransaction.{NewTransaction}
use Rattle.zb_model.specs.Voting.{IsVotable, voted_of}
use Rattle.zb_model.specs.VotingLaws.{oids_kept}
use Rattle.fs_records.specs.Placing.{placed_from}
use Rattle.fs_records.specs.PlacingLaws.{oids_from, places_read, text_long}
use Rattle.fs_index.specs.declared.place.Place.{Place}
use Rattle.zb_base.specs.Lists.{last_or_push}
use Rattle.zb_base.specs.Bytes.{AreBytes, AreBytes-take}
use Rattle.fs_records.specs.Blocks.{Known, Reached, Block, block_text, records_from, length_of, with_records, after_block, transaction_of, Begins}
use Rattle.fs_records.specs.File.{IsReadAs}
use Rattle.fs_records.specs.Listed.{listed, reached_in, reading_in, reading_is, reached_is}
use Rattle.fs_records.specs.Indexed.{IsIndexOf, places_of}
use Rattle.fs_index.specs.Places.{places_in, placed_of, oids_placed}
use Rattle.fs_records.specs.StatusLaws.{block_status, status_set}
use Rattle.fs_records.specs.WriteLaws.{block_stands, vote_stands, without_tail_stands, length-block_text}
use Rattle.fs_records.specs.Writing.{IsNext, block_of}
use Rattle.pack_copy.specs.CopiedLaws.{append_bytes}
use Rattle.file_store.specs.declared.staged.Staged.{Staged}
use Rattle.file_store.specs.Kept.{IsKept, IsVotedIn, done, voted_in, nothing, cut_of, length_by}
use Rattle.file_store.specs.KeptLaws.{kept_stands, list_read}
use Rattle.fs_recovery.specs.Numbers.{NumbersKept, AreNumbersOf}
use Rattle.file_store.specs.Preparing.{IsPrepared, begin_of}
use Rattle.file_store.specs.Staging.{StagedKept, IsWith}

-- ---- bytes

set_bytes : (xs : List ℕ) (i v : ℕ) → v < 256 → AreBytes xs → AreBytes (set xs i v)
set_bytes [] i v small h k = h k
set_bytes (x ∷ xs) zero v small h zero = small
set_bytes (x ∷ xs) zero v small h (suc k) = h (suc k)
set_bytes (x ∷ xs) (suc i) v small h zero = h 0
set_bytes (x ∷ xs) (suc i) v small h (suc k) = set_bytes xs i v small (λ j. h (suc j)) k

-- ---- a vote

-- what was read of bytes that stand for it
read_as : (bytes : List ℕ) (s : Reached) (cut : Option ℕ) → AreBytes bytes → length bytes < 2 ^ 63 → IsReadAs bytes s cut → reading_in bytes ≡ Some (reached_in bytes, cut)
read_as bytes s cut fits short stands =
    let r : reading_in bytes ≡ Some (s, cut) = reading_is bytes s cut fits (omega arith) stands in
    r ∙ ap (λ (x : Reached). Some (x, cut)) (sym (reached_is bytes s cut fits (omega arith) stands))

-- what was reached with one transaction more
record Parts (s : Reached) (b : Block) : Type 0 where
  end_is : (after_block s b).end ≡ s.end + (length_of s.end b + 8)
  newest_is : (after_block s b).newest ≡ b.tid
  known_is : (after_block s b).known ≡ with_records s.known s.end b.tid (records_from s.end b) b.records
  list_is : (after_block s b).list ≡ s.list ++ transaction_of s b ∷ []
  starts_are : (after_block s b).starts ≡ s.starts ++ record { serial = b.tid; at = s.end } ∷ []

parts : (s : Reached) (b : Block) → Parts s b
unfolding after_block
parts s b = record { end_is = refl; newest_is = refl; known_is = refl; list_is = refl; starts_are = refl }

-- what a vote leaves: the same list, and what is voted behind it
pub record Voted (main now_main : List ℕ) (now : StagedKept) (are : NumbersKept) (s : Staged) (new : NewTransaction) : Type 0 where
  pub kept : IsKept now_main now are
  pub voted : IsVotedIn now_main s now
  pub is : voted_in s.tid now.end now_main ≡ voted_of (listed main) new
  pub list : listed now_main ≡ listed main

abbrev pub staged_for : StagedKept → NewTransaction → List ℕ → Staged
staged_for old new text = record { tid = new.tid; end = old.end + length text; records = placed_from new.tid (begin_of old new) new.changes }

-- the numbers of the same list
numbers_same : (list : List Transaction) (was are : NumbersKept) → AreNumbersOf list was → are.tallies ≡ was.tallies → are.greatest ≡ was.greatest → are.pack_point ≡ was.pack_point → AreNumbersOf list are
numbers_same list was are n t g p = record { tallies = t ∙ n.tallies; greatest = g ∙ n.greatest; pack_point = p ∙ n.pack_point }

module _ (main text : List ℕ) (old now : StagedKept) (was are : NumbersKept) (new : NewTransaction) (kept : IsKept main old was) (free : old.staged ≡ None) (p : IsPrepared old now are new text)
    (next : (bytes : List ℕ) (s : Reached) → Begins bytes s → IsIndexOf s old.kept → s.end ≡ old.end → IsVotable s.list new → IsNext s (block_of 32 old.kept.entries new) (voted_of s.list new))
    (votable : IsVotable (listed main) new) (fits : AreBytes text) (end_same : now.end ≡ old.end) (newest_same : now.newest ≡ old.newest)
    (places_same : (oid : ℕ) → places_in now.kept.entries oid ≡ places_in old.kept.entries oid) (starts_same : now.kept.transactions ≡ old.kept.transactions)
    (tallies_same : are.tallies ≡ was.tallies) (greatest_same : are.greatest ≡ was.greatest) (point_same : are.pack_point ≡ was.pack_point) where
  whole : length main ≡ old.end
  whole = kept.whole ∙ ap (λ (o : Option Staged). length_by o old.end) free

  stands : IsReadAs main (reached_in main) None
  stands = subst (λ (o : Option Staged). IsReadAs main (reached_in main) (option_map (λ (x : Staged). old.end) o)) free (kept_stands main old was kept)

  list_is : listed main ≡ (reached_in main).list
  list_is = list_read main (reached_in main) (cut_of old) kept.reading

  index : IsIndexOf (reached_in main) old.kept
  index = record { records = kept.records; transactions = kept.starts }

  next_is : IsNext (reached_in main) (block_of 32 old.kept.entries new) (voted_of (reached_in main).list new)
  next_is = next main (reached_in main) stands.begins index kept.end_is (subst (λ (l : List Transaction). IsVotable l new) list_is votable)

  long : 31 ≤ length text
  long = omega (arith, ap length p.text_is, text_long 99 old.kept.entries old.end new)

  status : get_or text 16 0 ≡ 99
  status = ap (λ (x : List ℕ). get_or x 16 0) p.text_is ∙ block_status old.end (block_of 99 old.kept.entries new)

  all_of : take (reached_in main).end main ≡ main
  all_of = take_all (reached_in main).end main (omega (arith, whole, kept.end_is))

  grown : List ℕ
  grown = main ++ text

  grown_short : length (main ++ text) < 2 ^ 63
  grown_short = omega (arith, length-append main text, whole, p.limit)

  grown_fits : AreBytes (main ++ text)
  grown_fits = append_bytes main text kept.fits fits

  grown_stands : IsReadAs (main ++ text) (reached_in main) (Some old.end)
  grown_stands = subst (λ (n : ℕ). IsReadAs (main ++ text) (reached_in main) (Some n)) kept.end_is
      (subst (λ (x : List ℕ). IsReadAs (x ++ text) (reached_in main) (Some (reached_in main).end)) all_of (vote_stands main (reached_in main) text stands.begins (omega (arith, long)) status))

  same_reached : reached_in (main ++ text) ≡ reached_in main
  same_reached = reached_is (main ++ text) (reached_in main) (Some old.end) grown_fits (omega (arith, grown_short)) grown_stands

  -- once it is finished
  finished_is : done now.end (main ++ text) ≡ main ++ block_text old.end (block_of 32 old.kept.entries new)
  finished_is =
      set-append_right main text old.end (now.end + 16) 32 whole (omega (arith, end_same))
      ∙ ap (λ (n : ℕ). main ++ set text n 32) (omega (arith, end_same))
      ∙ ap (λ (x : List ℕ). main ++ set x 16 32) p.text_is
      ∙ ap (λ (x : List ℕ). main ++ x) (status_set old.end (block_of 99 old.kept.entries new) 32)

  finished_stands : IsReadAs (done now.end (main ++ text)) (after_block (reached_in main) (block_of 32 old.kept.entries new)) None
  finished_stands = subst (λ (x : List ℕ). IsReadAs x (after_block (reached_in main) (block_of 32 old.kept.entries new)) None) (sym finished_is)
      (subst (λ (n : ℕ). IsReadAs (main ++ block_text n (block_of 32 old.kept.entries new)) (after_block (reached_in main) (block_of 32 old.kept.entries new)) None) kept.end_is
      (subst (λ (x : List ℕ). IsReadAs (x ++ block_text (reached_in main).end (block_of 32 old.kept.entries new)) (after_block (reached_in main) (block_of 32 old.kept.entries new)) None) all_of
      (block_stands main (reached_in main) (block_of 32 old.kept.entries new) stands.begins next_is.block)))

  finished_fits : AreBytes (done now.end (main ++ text))
  finished_fits = set_bytes (main ++ text) (now.end + 16) 32 (omega arith) grown_fits

  finished_short : length (done now.end (main ++ text)) < 2 ^ 63
  finished_short = omega (arith, length-set (main ++ text) (now.end + 16) 32, grown_short)

  finished_reached : reached_in (done now.end (main ++ text)) ≡ after_block (reached_in main) (block_of 32 old.kept.entries new)
  finished_reached = reached_is (done now.end (main ++ text)) _ None finished_fits (omega (arith, finished_short)) finished_stands

  finished_list : listed (done now.end (main ++ text)) ≡ listed main ++ voted_of (listed main) new ∷ []
  finished_list =
      list_read (done now.end (main ++ text)) _ None (reading_is (done now.end (main ++ text)) _ None finished_fits (omega (arith, finished_short)) finished_stands)
      ∙ (parts (reached_in main) (block_of 32 old.kept.entries new)).list_is
      ∙ ap (λ (t : Transaction). (reached_in main).list ++ t ∷ []) next_is.is
      ∙ ap (λ (l : List Transaction). l ++ voted_of l new ∷ []) (sym list_is)

  grown_list : listed (main ++ text) ≡ listed main
  grown_list = list_read (main ++ text) (reached_in main) (Some old.end) (reading_is (main ++ text) (reached_in main) (Some old.end) grown_fits (omega (arith, grown_short)) grown_stands) ∙ sym list_is

  voted_is : voted_in new.tid now.end (main ++ text) ≡ voted_of (listed main) new
  voted_is = ap (λ (l : List Transaction). record (unwrap_or (last_or None l) nothing) { tid = new.tid }) finished_list ∙ ap (λ (o : Option Transaction). record (unwrap_or o nothing) { tid = new.tid }) (last_or_push None (listed main) (voted_of (listed main) new))

  staged_end : (after_block (reached_in main) (block_of 32 old.kept.entries new)).end ≡ old.end + length text
  staged_end =
      let b = block_of 32 old.kept.entries new in
      omega (arith, (parts (reached_in main) b).end_is, ap (λ (n : ℕ). length_of n b) kept.end_is, kept.end_is, ap length p.text_is, length-block_text old.end (block_of 99 old.kept.entries new))

  finished_places : (oid : ℕ) → places_in old.kept.entries oid ++ placed_of oid (placed_from new.tid (begin_of old new) new.changes) ≡ places_of oid (reached_in (done now.end (main ++ text))).known
  finished_places oid =
      let b = block_of 32 old.kept.entries new in
      ap (λ (ps : List Place). ps ++ placed_of oid (placed_from new.tid (begin_of old new) new.changes)) (kept.records oid)
      ∙ ap (λ (n : ℕ). places_of oid (reached_in main).known ++ placed_of oid (placed_from new.tid (records_from n b) new.changes)) (sym kept.end_is)
      ∙ sym (places_read old.kept.entries oid (reached_in main).end new.tid (records_from (reached_in main).end b) (reached_in main).known new.changes)
      ∙ ap (λ (ks : List Known). places_of oid ks) (sym (parts (reached_in main) b).known_is)
      ∙ ap (λ (r : Reached). places_of oid r.known) (sym finished_reached)

  pub voted_kept : Voted main (main ++ text) now are (staged_for old new text) new
  voted_kept = record {
    kept = record {
      fits = grown_fits;
      short = grown_short;
      whole = omega (arith, length-append main text, whole, ap (λ (o : Option Staged). length_by o now.end) p.staged_is);
      reading = read_as (main ++ text) (reached_in main) (Some old.end) grown_fits grown_short grown_stands
          ∙ ap (λ (n : ℕ). Some (reached_in (main ++ text), Some n)) (sym end_same)
          ∙ ap (λ (o : Option Staged). Some (reached_in (main ++ text), option_map (λ (x : Staged). now.end) o)) (sym p.staged_is);
      end_is = ap (λ (r : Reached). r.end) same_reached ∙ kept.end_is ∙ sym end_same;
      newest_is = ap (λ (r : Reached). r.newest) same_reached ∙ kept.newest_is ∙ sym newest_same;
      records = λ oid. places_same oid ∙ kept.records oid ∙ ap (λ (r : Reached). places_of oid r.known) (sym same_reached);
      starts = starts_same ∙ kept.starts ∙ ap (λ (r : Reached). r.starts) (sym same_reached);
      counted = subst (λ (l : List Transaction). AreNumbersOf l are) (sym grown_list) (numbers_same (listed main) was are kept.counted tallies_same greatest_same point_same);
    };
    voted = record {
      long = omega (arith, length-append main text, whole, end_same, long);
      status = ap (λ (n : ℕ). get_or (main ++ text) (n + 16) 0) (end_same ∙ sym whole) ∙ get_or-append-add main text 16 0 ∙ status;
      reading = read_as (done now.end (main ++ text)) _ None finished_fits finished_short finished_stands;
      end_is = ap (λ (r : Reached). r.end) finished_reached ∙ staged_end;
      newest_is = ap (λ (r : Reached). r.newest) finished_reached ∙ (parts (reached_in main) (block_of 32 old.kept.entries new)).newest_is;
      records = λ oid. ap (λ (ps : List Place). ps ++ placed_of oid (placed_from new.tid (begin_of old new) new.changes)) (places_same oid) ∙ finished_places oid;
      starts = ap (λ (ps : List Place). ps ++ record { serial = new.tid; at = now.end } ∷ []) (starts_same ∙ kept.starts)
          ∙ ap (λ (n : ℕ). (reached_in main).starts ++ record { serial = new.tid; at = n } ∷ []) (end_same ∙ sym kept.end_is)
          ∙ sym (parts (reached_in main) (block_of 32 old.kept.entries new)).starts_are
          ∙ ap (λ (r : Reached). r.starts) (sym finished_reached);
      list = finished_list ∙ ap (λ (t : Transaction). listed main ++ t ∷ []) (sym voted_is) ∙ ap (λ (l : List Transaction). l ++ voted_in new.tid now.end (main ++ text) ∷ []) (sym grown_list);
      oids = ap (λ (t : Transaction). map (λ c. c.oid) t.changes) voted_is ∙ oids_kept (listed main) new.changes ∙ sym (oids_from new.tid (begin_of old new) new.changes);
      unpacked = ap (λ (t : Transaction). t.packed) voted_is;
    };
    is = voted_is;
    list = grown_list;
  }

-- ---- a finish

-- what a finish leaves: what was voted is the last of the list
pub finished_kept : (main : List ℕ) (old now : StagedKept) (was are : NumbersKept) (s : Staged) → IsKept main old was → IsVotedIn main s old → old.staged ≡ Some s
    → now.staged ≡ None → IsWith s old now
    → ((list : List Transaction) (t : Transaction) → t.tid ≡ s.tid → t.packed ≡ false → map (λ c. c.oid) t.changes ≡ oids_placed s.records → AreNumbersOf list was → AreNumbersOf (list ++ t ∷ []) are)
    → IsKept (done old.end main) now are
finished_kept main old now was are s kept voted some none is add =
    let t = voted_in s.tid old.end main in
    let bytes = done old.end main in
    let fits : AreBytes bytes = set_bytes main (old.end + 16) 32 (omega arith) kept.fits in
    let short : length bytes < 2 ^ 63 = omega (arith, length-set main (old.end + 16) 32, kept.short) in
    let whole : length bytes ≡ s.end = length-set main (old.end + 16) 32 ∙ kept.whole ∙ ap (λ (o : Option Staged). length_by o old.end) some in
    record {
      fits = fits;
      short = short;
      whole = whole ∙ sym is.end ∙ ap (λ (o : Option Staged). length_by o now.end) (sym none);
      reading = voted.reading ∙ ap (λ (o : Option Staged). Some (reached_in bytes, option_map (λ (x : Staged). now.end) o)) (sym none);
      end_is = voted.end_is ∙ sym is.end;
      newest_is = voted.newest_is ∙ sym is.newest;
      records = λ oid. is.records oid ∙ voted.records oid;
      starts = is.transactions ∙ voted.starts;
      counted = subst (λ (l : List Transaction). AreNumbersOf l are) (sym voted.list) (add (listed main) t refl voted.unpacked voted.oids kept.counted);
    }

-- ---- an abort

-- what an abort leaves: the list as it was
pub aborted_kept : (main : List ℕ) (old now : StagedKept) (numbers : NumbersKept) → IsKept main old numbers → old.end ≤ length main → now.staged ≡ None → now.end ≡ old.end → now.newest ≡ old.newest
    → ((oid : ℕ) → places_in now.kept.entries oid ≡ places_in old.kept.entries oid) → now.kept.transactions ≡ old.kept.transactions
    → IsKept (take old.end main) now numbers × (listed (take old.end main) ≡ listed main)
aborted_kept main old now numbers kept within none end_same newest_same places starts =
    let bytes = take old.end main in
    let fits : AreBytes bytes = AreBytes-take old.end main kept.fits in
    let long : length bytes ≡ old.end = omega (arith, length-take old.end main) in
    let short : length bytes < 2 ^ 63 = omega (arith, kept.short) in
    let stands : IsReadAs bytes (reached_in main) None = subst (λ (n : ℕ). IsReadAs (take n main) (reached_in main) None) kept.end_is (without_tail_stands main (reached_in main) (cut_of old) (kept_stands main old numbers kept)) in
    let same : reached_in bytes ≡ reached_in main = reached_is bytes (reached_in main) None fits (omega arith) stands in
    let list : listed bytes ≡ listed main = list_read bytes (reached_in main) None (reading_is bytes (reached_in main) None fits (omega arith) stands) ∙ sym (list_read main (reached_in main) (cut_of old) kept.reading) in (
      record {
        fits = fits;
        short = short;
        whole = long ∙ sym end_same ∙ ap (λ (o : Option Staged). length_by o now.end) (sym none);
        reading = read_as bytes (reached_in main) None fits short stands ∙ ap (λ (o : Option Staged). Some (reached_in bytes, option_map (λ (x : Staged). now.end) o)) (sym none);
        end_is = ap (λ (r : Reached). r.end) same ∙ kept.end_is ∙ sym end_same;
        newest_is = ap (λ (r : Reached). r.newest) same ∙ kept.newest_is ∙ sym newest_same;
        records = λ oid. places oid ∙ kept.records oid ∙ ap (λ (r : Reached). places_of oid r.known) (sym same);
        starts = starts ∙ kept.starts ∙ ap (λ (r : Reached). r.starts) (sym same);
        counted = subst (λ (l : List Transaction). AreNumbersOf l numbers) (sym list) kept.counted;
      },
      list,
    )
