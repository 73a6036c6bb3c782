-- How a file begins, and what is kept before anything is read.
use Rattle.std.proofs.Common.{◌≡◌, ◌≢◌, ℕ, ◌<◌, All, List, [], length, take, refl, sym, ap, subst, arith}
use Rattle.std.proofs.lemmas.List.{length-take}
use Rattle.fs_records.specs.Blocks.{magic, file_start}
use Rattle.fs_records.specs.BlockLaws.{begins_here}
use Rattle.fs_records.specs.File.{IsNoFile}
use Rattle.std.proofs.lemmas.List.Elements.{All-nil}
use Rattle.fs_index.specs.declared.place.Place.{Place}
use Rattle.fs_index.specs.Places.{PlacesKept, Kept, places_in, IsBefore, AreBefore}
use Rattle.fs_records.specs.OpenLaws.{none_before}
use Rattle.fs_recovery.specs.Numbers.{NumbersKept, AreNumbersOf}
use Rattle.fs_recovery.specs.Counting.{Numbered}
use Rattle.fs_recovery.specs.Opens.{KeptBefore, newest_kept}

-- fewer than four bytes
pub too_short : (bytes : List ℕ) → bytes ≢ [] → length bytes < 4 → IsNoFile bytes
too_short bytes some short = (some, λ e. absurd (omega (arith, short, ap length e, length-take 4 bytes)))

-- an index of nothing
pub empty_before : (kept : Kept) (at : ℕ) → kept.entries ≡ [] → kept.transactions ≡ [] → KeptBefore kept at
empty_before kept at entries transactions = record {
  records = subst (λ (es : List (ℕ × PlacesKept)). AreBefore es (newest_kept kept) at) (sym entries) (none_before (newest_kept kept) at);
  transactions = subst (λ (ps : List Place). All (IsBefore (newest_kept kept) at) ps) (sym transactions) (All-nil (IsBefore (newest_kept kept) at));
}

pub empty_newest : (kept : Kept) → kept.transactions ≡ [] → newest_kept kept ≡ 0
empty_newest kept is = rw is refl

pub nothing_read : (bytes : List ℕ) (kept : Kept) (numbers : NumbersKept) → take 4 bytes ≡ magic → kept.entries ≡ [] → kept.transactions ≡ [] → AreNumbersOf [] numbers → Numbered bytes 4 0 kept numbers
nothing_read bytes kept numbers begins entries transactions none = record {
  indexed = record {
    reached = file_start;
    begins = begins_here bytes begins;
    end_is = refl;
    newest_is = refl;
    index = record { records = λ oid. ap (λ (es : List (ℕ × PlacesKept)). places_in es oid) entries; transactions = transactions };
  };
  counted = none;
}
