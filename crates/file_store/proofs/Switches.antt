-- The list that goes, and what a crash leaves while another one takes its place.
use Rattle.std.proofs.Common.{◌≡◌, ◌⊎◌, inl, inr, ⊎_elim, ℕ, ◌≤◌, List, [], ◌∷◌, length, Option, Some, None, refl, sym, subst, arith}
use Rattle.std.specs.Option.{option_map_or}
use Rattle.zb_volume.specs.declared.areas.Area.TheVariants.{Main, Side}
use Rattle.zb_volume.specs.Calls.{Event, Replaced, Synced}
use Rattle.zb_volume.specs.Disk.{seen, IsSettled}
use Rattle.zb_volume.specs.Durable.{OldOrSide}
use Rattle.zb_volume.specs.Lasting.{settled_leaves}
use Rattle.zb_volume.specs.Moments.{LeavesOnly}
use Rattle.zb_volume.specs.Runs.{leaves_less}
use Rattle.zb_model.specs.declared.data.Transaction.{Transaction}
use Rattle.zb_model.specs.Database.{IsDatabase}
use Rattle.fs_records.specs.Blocks.{Reached}
use Rattle.fs_records.specs.Databases.{database_of, reading_of}
use Rattle.fs_records.specs.File.{no_bytes}
use Rattle.fs_records.specs.Listed.{listed, reading_in, reading_stands}
use Rattle.fs_recovery.specs.declared.opening.Opened.{Opened}
use Rattle.pack_copy.specs.Copying.{CopyKept, IsCopied, opened_of}
use Rattle.file_store.specs.Packing.{IsPackedMain}
use Rattle.file_store.proofs.Copies.{copy_kept}

-- what bytes stand for is a database, or the empty list
pub listed_database : (bytes : List ℕ) → IsDatabase (listed bytes)
listed_database bytes = by_cases (reading_in bytes) refl
  where
    by_cases : (o : Option (Reached × Option ℕ)) → reading_in bytes ≡ o → IsDatabase (option_map_or (λ (r : Reached × Option ℕ). r.0.list) o [])
    by_cases None is = database_of [] [] None (no_bytes refl refl refl)
    by_cases (Some r) is = (reading_of bytes r.0 (reading_stands bytes r.0 r.1 is).begins).is

-- of a Main of which nothing is pending, a crash leaves the old bytes or those of Side
pub old_or_side : (old new : List Event) → IsSettled old Main → LeavesOnly Main (OldOrSide old) old new → LeavesOnly Main (λ image. (image ≡ seen old Main) ⊎ (image ≡ seen old Side)) old new
old_or_side old new settled leaves =
    leaves_less Main (OldOrSide old) (λ image. (image ≡ seen old Main) ⊎ (image ≡ seen old Side)) old new
    (λ c. ⊎_elim (λ left. inl (settled_leaves old Main (λ image. image ≡ seen old Main) settled refl c left)) (λ side. inr side)) leaves

no_longer : (m n : ℕ) → m ≡ n → m ≤ n
no_longer m n is = omega (arith, is)

-- what the sync of Side and the replace make of a copy
pub switched : (mid new : List Event) (copy : CopyKept) (o : Opened) (list : List Transaction) → new ≡ Replaced ∷ Synced Side ∷ mid → IsCopied (seen mid Side) copy → o ≡ opened_of copy → listed (seen mid Side) ≡ list → IsPackedMain new o list
switched mid new copy o list calls copied opened is =
    subst (λ (log : List Event). IsPackedMain log o list) (sym calls) (subst (λ (x : Opened). IsPackedMain (Replaced ∷ Synced Side ∷ mid) x list) (sym opened) (record {
      settled = refl;
      fits = copied.fits;
      whole = copied.whole;
      long = no_longer (length (seen mid Side)) copy.end copied.long;
      list_is = is;
      side = record { empty = refl; settled = refl };
      full = (copy_kept (seen mid Side) copy copied).in_full;
    }))
