-- A run over the file in Main, and a file that isn't open.
use Rattle.std.proofs.Common.{◌≡◌, ◌≢◌, ℕ, List, [], ◌∷◌, Option, None, inl, inr, refl}
use Rattle.std.specs.Option.{option_map}
use Rattle.file_store.specs.Opening.{Harm, IsMade, SomeRose}
use Rattle.fs_records.specs.File.{StandsFor, no_bytes}
use Rattle.fs_records.specs.Lists.{not_damaged, not_no_file}
use Rattle.fs_recovery.specs.Opens.{IsNoList}
use Rattle.fs_recovery.specs.declared.errors.OpenError.{OpenError}
use Rattle.fs_recovery.specs.declared.errors.OpenError.TheVariants as error
use Rattle.zb_base.specs.Counts.{Rose}
use Rattle.zb_ids.specs.declared.stamp.Stamp.{Stamp}
use Rattle.zb_model.specs.declared.data.Transaction.{Transaction}
use Rattle.zb_outside.specs.Stamps.{stamps_after}
use Rattle.script_runs.specs.declared.status.Status.{Status}
use Rattle.script_runs.specs.declared.status.Status.TheVariants as status
use Rattle.zodb_top.specs.Damage.{NamesDamage, magic, rule}
use Rattle.zodb_top.specs.Opened.{IsLeft, IsRefused, OpensAs, made, there}
use Rattle.zodb_top.specs.Outside.{Outside, main_of}
use Rattle.script_runs.specs.Outcomes.{IsUnlessMemory}
use Rattle.zodb_top.specs.Unopened.{NamesError, SaysUnopened}
use Rattle.script_runs.specs.Written.{IsWritten}

-- ---- no list

pub never_no_list : (bytes : List ℕ) (list : List Transaction) (cut : Option ℕ) → StandsFor bytes list cut → IsNoList bytes → ⊥
never_no_list bytes list cut stands (inl none) = not_no_file bytes list cut stands none
never_no_list bytes list cut stands (inr (at, field, harm)) = not_damaged bytes list cut at field stands harm

pub no_list_some : (bytes : List ℕ) → IsNoList bytes → bytes ≢ []
no_list_some bytes none empty = never_no_list bytes [] None (no_bytes empty refl refl) none

-- where the file was opened, it was no damaged one
pub opened_none : (T P : Type 0) (bytes : List ℕ) (list : List Transaction) (cut : Option ℕ) → (T → bytes ≢ [] → StandsFor bytes list cut) → T → IsNoList bytes → P
opened_none T P bytes list cut opened told none = absurd (never_no_list bytes list cut (opened told (no_list_some bytes none)) none)

harm_none : (bytes : List ℕ) (e : OpenError) (text : List ℕ) → NamesError e text → Harm bytes e → IsNoList bytes
harm_none bytes error.NotFileStorage text names harm = inl harm
harm_none bytes (error.BadRecord at field) text names harm = inr (at, field, harm)
harm_none bytes error.StoreFault text names harm = absurd names
harm_none bytes error.Memory text names harm = absurd names

named : (told : Type 0) (bytes : List ℕ) (e : OpenError) (text : List ℕ) → NamesError e text → (told → Harm bytes e) → NamesDamage told bytes text
named told bytes error.NotFileStorage text names harm = magic harm names
named told bytes (error.BadRecord at field) text names harm = rule at field harm names
named told bytes error.StoreFault text names harm = absurd names
named told bytes error.Memory text names harm = absurd names

-- ---- a file that isn't open

pub refused : (e : OpenError) (told : Type 0) (before after : Outside) → (text : List ℕ) → NamesError e text → IsWritten before.taken after.taken before.sink_faults after.sink_faults text
    → (told → Harm (main_of before) e) → (told → IsNoList (main_of before) → after.log ≡ before.log) → IsLeft told before after → IsRefused told before after
refused e told before after text names wrote harm same left = record {
  text = text;
  names = named told (main_of before) e text names harm;
  written = wrote;
  stamps = λ here. left.kept here (no_list_some (main_of before) (harm_none (main_of before) e text names (harm here)));
  log = λ here. same here (harm_none (main_of before) e text names (harm here));
}

-- a file that stands for a list isn't refused
pub unopened_done : (s : Status) (e : OpenError) (bytes : List ℕ) (list : List Transaction) (cut : Option ℕ) (reads reads' writes writes' before now : ℕ) (old new : Option (List ℕ)) → SaysUnopened s e old new before now → Harm bytes e
    → (e ≡ error.StoreFault → SomeRose reads reads' writes writes') → ¬ Rose reads reads' → ¬ Rose writes writes' → StandsFor bytes list cut → IsUnlessMemory s status.Done
unopened_done status.StoreFault e bytes list cut reads reads' writes writes' before now old new said harm rose calm still stands = absurd (elim (rose said.0) [ inl r ↦ calm r | inr r ↦ still r ])
unopened_done status.Damaged e bytes list cut reads reads' writes writes' before now old new (text, names, wrote) harm rose calm still stands = absurd (never_no_list bytes list cut stands (harm_none bytes e text names harm))
unopened_done status.NoMemory e bytes list cut reads reads' writes writes' before now old new said harm rose calm still stands = inr refl
unopened_done _ e bytes list cut reads reads' writes writes' before now old new said harm rose calm still stands = absurd said

-- and one that isn't open where no call failed is damaged
pub unopened_damaged : (s : Status) (e : OpenError) (reads reads' writes writes' before now : ℕ) (old new : Option (List ℕ)) → SaysUnopened s e old new before now
    → (e ≡ error.StoreFault → SomeRose reads reads' writes writes') → ¬ Rose reads reads' → ¬ Rose writes writes' → IsUnlessMemory s status.Damaged
unopened_damaged status.StoreFault e reads reads' writes writes' before now old new said rose calm still = absurd (elim (rose said.0) [ inl r ↦ calm r | inr r ↦ still r ])
unopened_damaged status.Damaged e reads reads' writes writes' before now old new said rose calm still = inl refl
unopened_damaged status.NoMemory e reads reads' writes writes' before now old new said rose calm still = inr refl
unopened_damaged _ e reads reads' writes writes' before now old new said rose calm still = absurd said

-- ---- a file that is open

-- what Main stood for, whether it was empty or not
pub opens_as : (bytes : List ℕ) (told left : Option (List Stamp)) (list : List Transaction) (cut : Option ℕ) → (bytes ≢ [] → StandsFor bytes list cut) → (bytes ≡ [] → IsMade told list cut)
    → (bytes ≢ [] → left ≡ told) → (bytes ≡ [] → left ≡ option_map stamps_after told) → OpensAs bytes told left list cut
opens_as [] told left list cut opened new kept given = made refl (new refl) (given refl)
opens_as (b ∷ bytes) told left list cut opened new kept given =
    let some : b ∷ bytes ≢ [] = λ e. absurd cc in
    there some (opened some) (kept some)
