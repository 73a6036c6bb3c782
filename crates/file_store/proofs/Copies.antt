-- What is known of the file on Side, in the words of those who write it and of those who keep it.
use Rattle.std.proofs.Common.{◌≡◌, ℕ, ◌<◌, ◌^◌, List, length, Some, None, ap, sym, subst, ◌∙◌, arith}
use Rattle.zb_model.specs.declared.data.Transaction.{Transaction}
use Rattle.fs_records.specs.Blocks.{Reached, file_start}
use Rattle.fs_records.specs.Listed.{reached_in, reached_is, reading_is, reading_stands}
use Rattle.fs_records.specs.Indexed.{places_of}
use Rattle.fs_recovery.specs.Numbers.{AreNumbersOf}
use Rattle.zb_model.specs.Stores.{BegunPack}
use Rattle.pack_copy.specs.Copying.{CopyKept, IsCopied, copied_in}
use Rattle.pack_copy.specs.InFull.{after_full, full_file}
use Rattle.file_store.specs.Kept.{IsCopyKept}
use Rattle.file_store.specs.KeptLaws.{list_read}

pub copy_kept : (bytes : List ℕ) (c : CopyKept) → IsCopied bytes c → IsCopyKept bytes c
copy_kept bytes c is =
    let s = is.whole.reached in
    let short : length bytes < 2 ^ 64 = omega (arith, is.short) in
    let reading = reading_is bytes s None is.fits short is.whole.stands in
    let reached : reached_in bytes ≡ s = reached_is bytes s None is.fits short is.whole.stands in
    record {
      fits = is.fits;
      short = is.short;
      long = is.long;
      reading = reading ∙ ap (λ (x : Reached). Some (x, None)) (sym reached);
      end_is = ap (λ (x : Reached). x.end) reached ∙ is.whole.end_is;
      records = λ oid. is.whole.index.records oid ∙ ap (λ (x : Reached). places_of oid x.known) (sym reached);
      starts = is.whole.index.transactions ∙ ap (λ (x : Reached). x.starts) (sym reached);
      counted = subst (λ (l : List Transaction). AreNumbersOf l c.numbers) (sym (list_read bytes s None reading)) is.whole.counted;
      in_full = is.in_full ∙ ap full_file (sym (list_read bytes s None reading));
      reached_full = reached ∙ is.reached_is ∙ ap (after_full file_start) (sym (list_read bytes s None reading));
    }

pub copy_is : (bytes : List ℕ) (c : CopyKept) → IsCopyKept bytes c → IsCopied bytes c
copy_is bytes c k = record {
  fits = k.fits;
  short = k.short;
  long = k.long;
  whole = record {
    reached = reached_in bytes;
    stands = reading_stands bytes (reached_in bytes) None k.reading;
    end_is = k.end_is;
    index = record { records = k.records; transactions = k.starts };
    counted = subst (λ (l : List Transaction). AreNumbersOf l c.numbers) (list_read bytes (reached_in bytes) None k.reading) k.counted;
  };
  in_full = k.in_full ∙ ap full_file (list_read bytes (reached_in bytes) None k.reading);
  reached_is = k.reached_full ∙ ap (after_full file_start) (list_read bytes (reached_in bytes) None k.reading);
}

-- the one copy that there is
pub only_copy : (bytes : List ℕ) (c x : CopyKept) → Some c ≡ Some x → IsCopied bytes c → IsCopyKept bytes x
only_copy bytes c x is copied = let same : c ≡ x = cc in subst (λ (y : CopyKept). IsCopyKept bytes y) same (copy_kept bytes c copied)

-- what is seen of it stands in full
pub begun_in_full : (bytes : List ℕ) (c : CopyKept) (x : BegunPack) → Some (copied_in c.tid bytes) ≡ Some x → IsCopied bytes c → bytes ≡ full_file x.copied
begun_in_full bytes c x is copied = let same : copied_in c.tid bytes ≡ x = cc in subst (λ (p : BegunPack). bytes ≡ full_file p.copied) same (copy_kept bytes c copied).in_full
