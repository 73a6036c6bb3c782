-- What is read through what is kept is the list's.
use Rattle.std.proofs.Common.{◌≡◌, ℕ, ◌≤◌, List, length, Option, Some, None, refl, sym, ap, subst, ◌∙◌, arith}
use Rattle.std.specs.List.{last_or}
use Rattle.std.specs.Option.{ForSome, option_map_or}
use Rattle.zb_volume.specs.declared.areas.Area.TheVariants.{Main, Side}
use Rattle.zb_volume.specs.Calls.{Event}
use Rattle.zb_volume.specs.Disk.{seen, IsSettled}
use Rattle.zb_model.specs.declared.data.Transaction.{Transaction}
use Rattle.zb_model.specs.Database.{newest_tid, serial_of}
use Rattle.fs_index.specs.declared.place.Place.{Place}
use Rattle.fs_records.specs.Blocks.{Begins, Reached}
use Rattle.fs_records.specs.Databases.{reading_of}
use Rattle.fs_records.specs.Listed.{listed, reached_in}
use Rattle.fs_records.specs.Lookups.{serial_read}
use Rattle.fs_index.specs.Places.{places_in}
use Rattle.fs_records.specs.Indexed.{places_of}
use Rattle.fs_reading.specs.Main.{ArePlaces, AreStarts}
use Rattle.pack_copy.specs.Copying.{CopyKept}
use Rattle.file_store.specs.Kept.{IsCopyKept, IsKept, IsVotedIn, cut_of, length_by}
use Rattle.fs_reading.specs.declared.outline.Outline.{Outline}
use Rattle.file_store.specs.Outlined.{AreStartsOf, IsOutlinedIn}
use Rattle.file_store.specs.declared.staged.Staged.{Staged}
use Rattle.file_store.specs.KeptLaws.{kept_stands, list_read}
use Rattle.fs_recovery.specs.Numbers.{NumbersKept}
use Rattle.file_store.specs.Staging.{StagedKept}

-- ---- a call that only reads leaves what is kept

-- what a store keeps of a log, unless it is broken
pub record KeepsLog (T B : Type 0) (log : List Event) (index : StagedKept) (numbers : NumbersKept) (copy : Option CopyKept) (outline : Option Outline) : Type 0 where
  pub settled : T → B → IsSettled log Main
  pub kept : T → B → IsKept (seen log Main) index numbers
  pub voted : T → B → ForSome index.staged (λ s. IsVotedIn (seen log Main) s index)
  pub copied : T → B → ForSome copy (λ c. IsCopyKept (seen log Side) c)
  pub outlined : T → B → ForSome outline (λ o. IsOutlinedIn (seen log Main) o)

-- is kept of a log that is the same
pub still : (T B : Type 0) (old new : List Event) (index : StagedKept) (numbers : NumbersKept) (copy : Option CopyKept) (outline : Option Outline) → new ≡ old → KeepsLog T B old index numbers copy outline → KeepsLog T B new index numbers copy outline
still T B old new index numbers copy outline same k = subst (λ (log : List Event). KeepsLog T B log index numbers copy outline) (sym same) k

-- ---- what is read is the list's

module _ (main : List ℕ) (index : StagedKept) (numbers : NumbersKept) (kept : IsKept main index numbers) where
  pub begun : Begins main (reached_in main)
  begun = (kept_stands main index numbers kept).begins

  -- what is kept ends within the bytes
  pub end_within : (o : Option Staged) → index.staged ≡ o → ForSome o (λ s. IsVotedIn main s index) → index.end ≤ length main
  end_within None is voted = omega (arith, kept.whole, ap (λ (o : Option Staged). length_by o index.end) is)
  end_within (Some s) is voted = omega (arith, (voted s refl).long)

  pub list_is : listed main ≡ (reached_in main).list
  list_is = list_read main (reached_in main) (cut_of index) kept.reading

  pub newest_is : index.newest ≡ newest_tid (listed main)
  newest_is = sym kept.newest_is ∙ sym (reading_of main (reached_in main) begun).newest ∙ ap newest_tid (sym list_is)

  pub places_are : (oid : ℕ) (places : List Place) → places ≡ places_in index.kept.entries oid → ArePlaces main places
  places_are oid places is = record { reached = reached_in main; oid = oid; begins = begun; are = is ∙ kept.records oid; short = omega (arith, kept.short) }

  pub starts_are : (places : List Place) → places ≡ index.kept.transactions → AreStarts main places
  starts_are places is = record { reached = reached_in main; begins = begun; are = is ∙ kept.starts; short = omega (arith, kept.short) }

  pub starts_of : (places : List Place) → places ≡ index.kept.transactions → AreStartsOf main places
  starts_of places is = record { begins = begun; are = is ∙ kept.starts; list_is = list_is; short = omega (arith, kept.short) }

  -- what is read by the places of an object, for any answer that a list gives
  pub by_places : {A : Type 0} (answer : ℕ → List Transaction → A) (x : A) (oid : ℕ) (places : List Place) → places ≡ places_in index.kept.entries oid
      → ((reached : Reached) (o : ℕ) → Begins main reached → places ≡ places_of o reached.known → x ≡ answer o reached.list) → x ≡ answer oid (listed main)
  by_places answer x oid places is read = read (reached_in main) oid begun (is ∙ kept.records oid) ∙ ap (answer oid) (sym list_is)

  -- and by the places of the transactions
  pub by_starts : {A : Type 0} (answer : List Transaction → A) (x : A) (places : List Place) → places ≡ index.kept.transactions
      → ((reached : Reached) → Begins main reached → places ≡ reached.starts → x ≡ answer reached.list) → x ≡ answer (listed main)
  by_starts answer x places is read = read (reached_in main) begun (is ∙ kept.starts) ∙ ap answer (sym list_is)

  pub serial_is : (oid : ℕ) (places : List Place) (last : Option Place) → places ≡ places_in index.kept.entries oid → last ≡ last_or None places → option_map_or (λ p. p.serial) last 0 ≡ serial_of oid (listed main)
  serial_is oid places last is last_is =
      ap (λ (o : Option Place). option_map_or (λ p. p.serial) o 0) (last_is ∙ ap (λ (ps : List Place). last_or None ps) (is ∙ kept.records oid))
      ∙ serial_read main (reached_in main) oid begun
      ∙ ap (serial_of oid) (sym list_is)
