-- Side where nothing was copied yet: a file of no transactions.
use Rattle.std.proofs.Common.{◌≡◌, ℕ, zero, suc, ◌+◌, All, List, [], ◌∷◌, ◌++◌, length, None, refl, sym, ap, subst, ◌∙◌, arith}
use Rattle.std.specs.List.{last_or}
use Rattle.std.specs.Option.{option_map_or}
use Rattle.std.proofs.lemmas.List.{drop_all, append-nil}
use Rattle.std.proofs.lemmas.List.Elements.{All-nil}
use Rattle.zb_volume.specs.declared.areas.Area.TheVariants.{Side}
use Rattle.zb_volume.specs.Calls.{Event, Wrote, Cut}
use Rattle.zb_volume.specs.Disk.{seen}
use Rattle.zb_base.specs.Bytes.{AreBytes}
use Rattle.fs_index.specs.declared.place.Place.{Place}
use Rattle.fs_records.specs.Blocks.{file_start, magic}
use Rattle.fs_records.specs.File.{IsReadAs}
use Rattle.fs_records.specs.Listed.{listed}
use Rattle.fs_records.specs.OpenLaws.{none_before}
use Rattle.fs_index.specs.Places.{Kept, PlacesKept, AreBefore, IsBefore, places_in}
use Rattle.fs_records.specs.WriteLaws.{none_ends}
use Rattle.fs_recovery.specs.Numbers.{NumbersKept, AreNumbersOf}
use Rattle.fs_recovery.specs.Opens.{IsBounded, newest_kept}
use Rattle.pack_copy.specs.CopiedLaws.{list_is}
use Rattle.pack_copy.specs.Copying.{CopyKept, IsCopied}

magic_fits : AreBytes magic
magic_fits zero = omega arith
magic_fits (suc zero) = omega arith
magic_fits (suc (suc zero)) = omega arith
magic_fits (suc (suc (suc zero))) = omega arith
magic_fits (suc (suc (suc (suc k)))) = omega arith

nothing_read : IsReadAs magic file_start None
nothing_read = record { begins = record { blocks = []; are = tt; parts = refl; is = refl }; ends = none_ends 0 [] refl }

-- what was put into Side
pub side_is : (log mid new : List Event) (bytes : List ℕ) → mid ≡ Cut Side 0 ∷ log → new ≡ Wrote Side 0 bytes ∷ mid → bytes ≡ magic → seen new Side ≡ magic
side_is log mid new bytes cut wrote is =
    ap (λ (l : List Event). seen l Side) (wrote ∙ ap (λ (l : List Event). Wrote Side 0 bytes ∷ l) cut)
    ∙ ap (λ (l : List ℕ). bytes ++ l) (drop_all (0 + length bytes) [] (omega arith))
    ∙ append-nil bytes ∙ is

pub nothing_copied : (bytes : List ℕ) (c : CopyKept) → bytes ≡ magic → c.index.entries ≡ [] → c.index.transactions ≡ [] → AreNumbersOf [] c.numbers → c.end ≡ 4 → IsCopied bytes c
nothing_copied bytes c is entries starts counted end =
    subst (λ (b : List ℕ). IsCopied b c) (sym is) (record {
      fits = magic_fits;
      short = omega arith;
      long = sym end;
      whole = record {
        reached = file_start;
        stands = nothing_read;
        end_is = sym end;
        index = record { records = λ oid. ap (λ (es : List (ℕ × PlacesKept)). places_in es oid) entries; transactions = starts };
        counted = counted;
      };
      in_full = refl;
      reached_is = refl;
    })

pub nothing_listed : (bytes : List ℕ) → bytes ≡ magic → listed bytes ≡ []
nothing_listed bytes is = ap listed is ∙ list_is magic file_start magic_fits (omega arith) nothing_read

pub nothing_bounded : (index : Kept) (numbers : NumbersKept) (end : ℕ) → index.entries ≡ [] → index.transactions ≡ [] → end ≡ 4 → IsBounded (record { index = index; numbers = numbers; end = end; cut = None })
nothing_bounded index numbers end entries starts end_is = record {
  first = omega arith;
  limit = omega arith;
  newest = omega (arith, newest);
  before = record {
    records = subst (λ (es : List (ℕ × PlacesKept)). AreBefore es (newest_kept index) end) (sym entries) (none_before (newest_kept index) end);
    transactions = subst (λ (ps : List Place). All (IsBefore (newest_kept index) end) ps) (sym starts) (All-nil (IsBefore (newest_kept index) end));
  };
}
  where
    newest : newest_kept index ≡ 0
    newest = ap (λ (ps : List Place). option_map_or (λ (p : Place). p.serial) (last_or None ps) 0) starts
