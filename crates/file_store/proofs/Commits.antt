-- What a crash leaves while a transaction is voted, finished or aborted, and what is kept afterwards.
use Rattle.std.proofs.Common.{◌≡◌, ◌⊎◌, inl, inr, ⊎_elim, ℕ, zero, suc, ◌+◌, ◌<◌, false, List, [], ◌∷◌, ◌++◌, length, get_or, map, take, Option, Some, None, refl, sym, ap, subst, ◌∙◌, arith}
use Rattle.std.specs.Prelude.{option_map, All}
use Rattle.std.specs.Option.{ForSome, IsSome}
use Rattle.std.proofs.lemmas.List.Elements.{All-head, All-tail}
use Rattle.zb_volume.specs.declared.areas.Area.TheVariants.{Main}
use Rattle.zb_volume.specs.Calls.{Event}
use Rattle.zb_volume.specs.Disk.{seen, written, IsSettled}
use Rattle.zb_volume.specs.Moments.{LeavesOnly, here}
use Rattle.zb_volume.specs.Runs.{leaves_less}
use Rattle.zb_model.specs.declared.data.Transaction.{Transaction}
use Rattle.zb_model.specs.declared.new_transaction.NewTransaction.{NewTransaction}
use Rattle.zb_base.specs.Bytes.{AreBytes}
use Rattle.fs_records.specs.Blocks.{Reached, Begins, block_text}
use Rattle.fs_records.specs.Indexed.{IsIndexOf}
use Rattle.fs_index.specs.Places.{places_in, oids_placed}
use Rattle.zb_model.specs.Voting.{IsVotable, voted_of}
use Rattle.fs_records.specs.File.{IsReadAs, a_file}
use Rattle.fs_records.specs.Listed.{listed, reached_in, reading_stands}
use Rattle.fs_records.specs.StatusLaws.{block_status}
use Rattle.fs_records.specs.Writing.{IsNext, block_of}
use Rattle.fs_append.specs.Appending.{IsStillRead, IsVote, IsVoted}
use Rattle.file_store.specs.declared.staged.Staged.{Staged}
use Rattle.file_store.specs.Kept.{HasRoomForTally, IsKept, IsVotedIn, StandsForList, done, voted_in, cut_of, length_by}
use Rattle.file_store.specs.KeptLaws.{kept_stands, kept_for, kept_leaves, list_read}
use Rattle.fs_recovery.specs.Numbers.{NumbersKept, AreNumbersOf}
use Rattle.file_store.specs.Preparing.{IsPrepared, begin_of}
use Rattle.file_store.specs.Staging.{StagedKept, IsWith}
use Rattle.fs_records.specs.PlacingLaws.{length_placed}
use Rattle.zb_volume.specs.Lasting.{written_end}
use Rattle.file_store.proofs.Writes.{Voted, staged_for, voted_kept, finished_kept, aborted_kept}
use Rattle.file_store.specs.Written.{IsAbortWritten, IsFinishWritten, IsVoteWritten}

-- each byte of a slice is one
pub are_bytes : (xs : List ℕ) → All (λ byte. byte < 256) xs → AreBytes xs
are_bytes [] all k = omega arith
are_bytes (x ∷ xs) all zero = All-head (λ byte. byte < 256) x xs all
are_bytes (x ∷ xs) all (suc k) = are_bytes xs (All-tail (λ byte. byte < 256) x xs all) k

-- the one that stands there
pub some_mapped : (A B : Type 0) (o : Option A) (f : A → B) (b : B) → option_map f o ≡ Some b → (a : A) × (o ≡ Some a) × (f a ≡ b)
some_mapped A B None f b is = absurd cc
some_mapped A B (Some a) f b is = (a, refl, cc)

pub some_same : (A : Type 0) (o : Option A) (a b : A) → o ≡ Some a → o ≡ Some b → b ≡ a
some_same A o a b is other = cc

-- where something is voted, something is staged
pub staged_some : (o : Option Staged) (f : Staged → Transaction) → IsSome (option_map f o) → (s : Staged) × (o ≡ Some s)
staged_some None f is = absurd cc
staged_some (Some s) f is = (s, refl)

-- and where nothing is voted, nothing is staged
pub none_staged : (o : Option Staged) (f : Staged → Transaction) → option_map f o ≡ None → o ≡ None
none_staged None f is = refl
none_staged (Some s) f is = absurd cc

-- the room that was made is that for what was staged
pub room_for : (numbers : NumbersKept) (staged : Option Staged) (old : StagedKept) (new : NewTransaction) (text : List ℕ) → staged ≡ Some (staged_for old new text) → HasRoomForTally numbers (length new.changes) → ForSome staged (λ s. HasRoomForTally numbers (length s.records))
room_for numbers staged old new text is room s some =
    let same : s ≡ staged_for old new text = some_same Staged staged (staged_for old new text) s is some in
    subst (λ (x : Staged). HasRoomForTally numbers (length x.records)) (sym same) (subst (λ (n : ℕ). HasRoomForTally numbers n) (sym (length_placed new.tid (begin_of old new) new.changes)) room)

pub none_there : (A : Type 0) (P : A → Type 0) (o : Option A) → o ≡ None → ForSome o P
none_there A P o is a some = absurd cc

module _ (log : List Event) (index : StagedKept) (numbers : NumbersKept) (settled : IsSettled log Main) (kept : IsKept (seen log Main) index numbers) where
  -- where no call was made
  pub unmoved : LeavesOnly Main (λ bytes. StandsForList bytes (listed (seen log Main))) log log
  unmoved = here (kept_leaves log index numbers settled kept)

  -- what stands for what was read stands for the list
  pub moments : (new : List Event) → LeavesOnly Main (IsStillRead (reached_in (seen log Main))) log new → LeavesOnly Main (λ bytes. StandsForList bytes (listed (seen log Main))) log new
  moments new leaves = leaves_less Main (IsStillRead (reached_in (seen log Main))) (λ bytes. StandsForList bytes (listed (seen log Main))) log new
      (λ image stands. (stands.0, a_file (reached_in (seen log Main)) stands.1 (list_read (seen log Main) (reached_in (seen log Main)) (cut_of index) kept.reading))) leaves

  -- a prepared text may be voted there
  pub vote_is : (now : StagedKept) (are : NumbersKept) (new : NewTransaction) (end : ℕ) (text bytes : List ℕ) → index.staged ≡ None → IsPrepared index now are new text → end ≡ index.end → bytes ≡ text → IsVote log (reached_in (seen log Main)) end bytes
  vote_is now are new end text bytes free p end_is text_is = record {
    settled = settled;
    stands = subst (λ (o : Option Staged). IsReadAs (seen log Main) (reached_in (seen log Main)) (option_map (λ (x : Staged). index.end) o)) free (kept_stands (seen log Main) index numbers kept);
    end_is = kept.end_is ∙ sym end_is;
    whole = kept.whole ∙ ap (λ (o : Option Staged). length_by o index.end) free ∙ sym end_is;
    status = ap (λ (x : List ℕ). get_or x 16 0) (text_is ∙ p.text_is) ∙ block_status index.end (block_of 99 index.kept.entries new);
  }

  -- the place where it is written is the end of Main
  pub vote_within : (end : ℕ) → index.staged ≡ None → end ≡ index.end → length (seen log Main) ≡ end
  vote_within end free end_is = kept.whole ∙ ap (λ (o : Option Staged). length_by o index.end) free ∙ sym end_is

  -- what is voted there may be aborted
  pub voted_is : (s : Staged) (end : ℕ) → index.staged ≡ Some s → IsVotedIn (seen log Main) s index → end ≡ index.end → IsVoted log (reached_in (seen log Main)) end
  voted_is s end some voted end_is = record {
    settled = settled;
    stands = subst (λ (o : Option ℕ). IsReadAs (seen log Main) (reached_in (seen log Main)) o)
        (ap (λ (o : Option Staged). option_map (λ (x : Staged). index.end) o) some ∙ ap (λ (n : ℕ). Some n) (sym end_is)) (kept_stands (seen log Main) index numbers kept);
    end_is = kept.end_is ∙ sym end_is;
    status = ap (λ (n : ℕ). get_or (seen log Main) (n + 16) 0) end_is ∙ voted.status;
  }

  -- what a finish may leave
  pub finish_moments : (new : List Event) (s : Staged) (t : Transaction) (end : ℕ) → index.staged ≡ Some s → IsVotedIn (seen log Main) s index → end ≡ index.end → voted_in s.tid index.end (seen log Main) ≡ t
      → LeavesOnly Main (λ image. (image ≡ seen log Main) ⊎ (image ≡ done end (seen log Main))) log new
      → LeavesOnly Main (λ bytes. StandsForList bytes (listed (seen log Main)) ⊎ StandsForList bytes (listed (seen log Main) ++ t ∷ [])) log new
  finish_moments new s t end some voted end_is is leaves =
      let main = seen log Main in
      let finished = done index.end main in
      let old_stands : StandsForList main (listed main) = (cut_of index, kept_for main index numbers kept) in
      let new_list : listed main ++ t ∷ [] ≡ (reached_in finished).list =
      ap (λ (x : Transaction). listed main ++ x ∷ []) (sym is) ∙ sym voted.list ∙ list_read finished (reached_in finished) None voted.reading in
      let new_stands : StandsForList finished (listed main ++ t ∷ []) = (None, a_file (reached_in finished) (reading_stands finished (reached_in finished) None voted.reading) new_list) in
      leaves_less Main (λ image. (image ≡ main) ⊎ (image ≡ done end main)) (λ bytes. StandsForList bytes (listed main) ⊎ StandsForList bytes (listed main ++ t ∷ [])) log new
      (λ image. ⊎_elim
      (λ same. inl (subst (λ (b : List ℕ). StandsForList b (listed main)) (sym same) old_stands))
      (λ same. inr (subst (λ (b : List ℕ). StandsForList b (listed main ++ t ∷ [])) (sym (same ∙ ap (λ (n : ℕ). done n main) end_is)) new_stands)))
      leaves

  -- an abort leaves the list
  pub abort_moments : (new : List Event) (s : Staged) (end : ℕ) → index.staged ≡ Some s → IsVotedIn (seen log Main) s index → end ≡ index.end
      → ((r : Reached) → IsVoted log r end → LeavesOnly Main (IsStillRead r) log new) → LeavesOnly Main (λ bytes. StandsForList bytes (listed (seen log Main))) log new
  abort_moments new s end some voted end_is leaves = moments new (leaves (reached_in (seen log Main)) (voted_is s end some voted end_is))

  -- and what is read of it
  pub aborted : (new : List Event) (now : StagedKept) (s : Staged) (end : ℕ) → index.staged ≡ Some s → IsVotedIn (seen log Main) s index → end ≡ index.end → seen new Main ≡ take end (seen log Main)
      → now.staged ≡ None → now.end ≡ index.end → now.newest ≡ index.newest → ((oid : ℕ) → places_in now.kept.entries oid ≡ places_in index.kept.entries oid) → now.kept.transactions ≡ index.kept.transactions
      → IsKept (seen new Main) now numbers × (listed (seen new Main) ≡ listed (seen log Main))
  aborted new now s end some voted end_is content none end_same newest_same places starts =
      let a = aborted_kept (seen log Main) index now numbers kept (omega (arith, voted.long)) none end_same newest_same places starts in
      let is : take index.end (seen log Main) ≡ seen new Main = ap (λ (n : ℕ). take n (seen log Main)) (sym end_is) ∙ sym content in
      subst (λ (b : List ℕ). IsKept b now numbers × (listed b ≡ listed (seen log Main))) is a

  -- what is voted is what was prepared
  pub voted : (new_log : List Event) (now : StagedKept) (are : NumbersKept) (new : NewTransaction) (end : ℕ) (text bytes : List ℕ) → index.staged ≡ None → IsPrepared index now are new text → end ≡ now.end → bytes ≡ text → All (λ byte. byte < 256) text
      → ((b : List ℕ) (s : Reached) → Begins b s → IsIndexOf s index.kept → s.end ≡ index.end → IsVotable s.list new → IsNext s (block_of 32 index.kept.entries new) (voted_of s.list new))
      → IsVotable (listed (seen log Main)) new → now.end ≡ index.end → now.newest ≡ index.newest
      → ((oid : ℕ) → places_in now.kept.entries oid ≡ places_in index.kept.entries oid) → now.kept.transactions ≡ index.kept.transactions
      → are.tallies ≡ numbers.tallies → are.greatest ≡ numbers.greatest → are.pack_point ≡ numbers.pack_point
      → seen new_log Main ≡ written (seen log Main) end bytes → Voted (seen log Main) (seen new_log Main) now are (staged_for index new text) new
  voted new_log now are new end text bytes free p end_is text_is all next votable end_same newest_same places starts tallies greatest point content =
      let v = voted_kept (seen log Main) text index now numbers are new kept free p next votable (are_bytes text all) end_same newest_same places starts tallies greatest point in
      let grown : seen new_log Main ≡ seen log Main ++ text = content ∙ ap (λ (b : List ℕ). written (seen log Main) end b) text_is ∙ written_end (seen log Main) text end (vote_within end free (end_is ∙ end_same)) in
      subst (λ (b : List ℕ). Voted (seen log Main) b now are (staged_for index new text) new) (sym grown) v

  -- and its text is what stands behind Main
  pub vote_written : (new_log : List Event) (now : StagedKept) (are : NumbersKept) (new : NewTransaction) (end : ℕ) (text bytes : List ℕ) → index.staged ≡ None → IsPrepared index now are new text → end ≡ index.end → bytes ≡ text
      → seen new_log Main ≡ written (seen log Main) end bytes → IsVoteWritten log new_log new
  vote_written new_log now are new end text bytes free p end_is text_is content =
      let grown : seen new_log Main ≡ seen log Main ++ text = content ∙ ap (λ (b : List ℕ). written (seen log Main) end b) text_is ∙ written_end (seen log Main) text end (vote_within end free end_is) in
      record {
        index = index.kept;
        is = record { records = kept.records; transactions = kept.starts };
        text = grown ∙ ap (λ (b : List ℕ). seen log Main ++ b) (p.text_is ∙ ap (λ (n : ℕ). block_text n (block_of 99 index.kept.entries new)) (sym kept.end_is));
      }

  -- where a finish and an abort write is where the list ends
  pub end_of_list : (end : ℕ) → end ≡ index.end → end ≡ (reached_in (seen log Main)).end
  end_of_list end end_is = end_is ∙ sym kept.end_is

  pub finish_written : (new : List Event) (end : ℕ) → end ≡ index.end → seen new Main ≡ done end (seen log Main) → IsFinishWritten log new
  finish_written new end end_is content = content ∙ ap (λ (n : ℕ). done n (seen log Main)) (end_of_list end end_is)

  pub abort_written : (new : List Event) (end : ℕ) → end ≡ index.end → seen new Main ≡ take end (seen log Main) → IsAbortWritten log new
  abort_written new end end_is content = content ∙ ap (λ (n : ℕ). take n (seen log Main)) (end_of_list end end_is)

  -- a finish leaves the list with what was voted
  pub finished : (new : List Event) (now : StagedKept) (are : NumbersKept) (s : Staged) (end : ℕ) → index.staged ≡ Some s → IsVotedIn (seen log Main) s index → end ≡ index.end → seen new Main ≡ done end (seen log Main)
      → now.staged ≡ None → IsWith s index now
      → ((list : List Transaction) (t : Transaction) → t.tid ≡ s.tid → t.packed ≡ false → map (λ c. c.oid) t.changes ≡ oids_placed s.records → AreNumbersOf list numbers → AreNumbersOf (list ++ t ∷ []) are)
      → IsKept (seen new Main) now are
  finished new now are s end some voted end_is content none is add =
      let f = finished_kept (seen log Main) index now numbers are s kept voted some none is add in
      subst (λ (b : List ℕ). IsKept b now are) (ap (λ (n : ℕ). done n (seen log Main)) (sym end_is) ∙ sym content) f
