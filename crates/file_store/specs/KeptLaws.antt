-- What is kept is kept in one way, so that a type can keep the fact; and what follows of it.
use Rattle.std.proofs.Common.{◌≡◌, ℕ, List, [], Option, Some, ap}
use Rattle.std.specs.Option.{ForSome, option_map_or}
use Rattle.std.specs.Coded.{le_prop}
use Rattle.std.proofs.Props.{props}
use Rattle.zb_volume.specs.declared.areas.Area.TheVariants.{Main}
use Rattle.zb_volume.specs.Calls.{Event}
use Rattle.zb_volume.specs.Disk.{seen, IsSettled}
use Rattle.zb_volume.specs.Moments.{Leaves}
use Rattle.zb_volume.specs.Lasting.{settled_leaves}
use Rattle.zb_model.specs.Database.{IsDatabase}
use Rattle.fs_records.specs.Blocks.{Reached}
use Rattle.fs_records.specs.File.{IsReadAs, StandsFor, a_file}
use Rattle.fs_records.specs.Databases.{database_of}
use Rattle.fs_records.specs.Listed.{content_set, listed, reached_in, reading_in, reading_stands}
use Rattle.pack_copy.specs.Copying.{CopyKept}
use Rattle.file_store.specs.declared.staged.Staged.{Staged}
use Rattle.fs_recovery.specs.Numbers.{NumbersKept}
use Rattle.file_store.specs.Staging.{StagedKept}
use Rattle.file_store.specs.Kept.{IsCopyKept, IsKept, IsVotedIn, StandsForList, cut_of}

pub IsKept-prop : (bytes : List ℕ) (index : StagedKept) (numbers : NumbersKept) → IsProp (IsKept bytes index numbers)
IsKept-prop bytes index numbers = hlevel (content_set, le_prop, props)

pub IsVotedIn-prop : (bytes : List ℕ) (s : Staged) (index : StagedKept) → IsProp (IsVotedIn bytes s index)
IsVotedIn-prop bytes s index = hlevel (content_set, le_prop, props)

pub IsCopyKept-prop : (bytes : List ℕ) (c : CopyKept) → IsProp (IsCopyKept bytes c)
IsCopyKept-prop bytes c = hlevel (content_set, le_prop, props)

pub kept_once : (T B : Type 0) (bytes : List ℕ) (index : StagedKept) (numbers : NumbersKept) → IsProp (T → B → IsKept bytes index numbers)
kept_once T B bytes index numbers = hlevel IsKept-prop

pub voted_once : (T B : Type 0) (bytes : List ℕ) (index : StagedKept) → IsProp (T → B → ForSome index.staged (λ s. IsVotedIn bytes s index))
voted_once T B bytes index = hlevel IsVotedIn-prop

pub copied_once : (T B : Type 0) (bytes : List ℕ) (copy : Option CopyKept) → IsProp (T → B → ForSome copy (λ c. IsCopyKept bytes c))
copied_once T B bytes copy = hlevel IsCopyKept-prop

-- what is read of bytes is their list
pub list_read : (bytes : List ℕ) (s : Reached) (cut : Option ℕ) → reading_in bytes ≡ Some (s, cut) → listed bytes ≡ s.list
list_read bytes s cut is = ap (λ (o : Option (Reached × Option ℕ)). option_map_or (λ r. r.0.list) o []) is

-- the bytes stand for what is read of them
pub kept_stands : (bytes : List ℕ) (index : StagedKept) (numbers : NumbersKept) → IsKept bytes index numbers → IsReadAs bytes (reached_in bytes) (cut_of index)
kept_stands bytes index numbers k = reading_stands bytes (reached_in bytes) (cut_of index) k.reading

-- and for the list
pub kept_for : (bytes : List ℕ) (index : StagedKept) (numbers : NumbersKept) → IsKept bytes index numbers → StandsFor bytes (listed bytes) (cut_of index)
kept_for bytes index numbers k = a_file (reached_in bytes) (kept_stands bytes index numbers k) (list_read bytes (reached_in bytes) (cut_of index) k.reading)

pub kept_list : (bytes : List ℕ) (index : StagedKept) (numbers : NumbersKept) → IsKept bytes index numbers → StandsForList bytes (listed bytes)
kept_list bytes index numbers k = (cut_of index, kept_for bytes index numbers k)

-- which is a database
pub kept_database : (bytes : List ℕ) (index : StagedKept) (numbers : NumbersKept) → IsKept bytes index numbers → IsDatabase (listed bytes)
kept_database bytes index numbers k = database_of bytes (listed bytes) (cut_of index) (kept_for bytes index numbers k)

-- and every crash leaves what stands for it, where nothing is pending
pub kept_leaves : (log : List Event) (index : StagedKept) (numbers : NumbersKept) → IsSettled log Main → IsKept (seen log Main) index numbers → Leaves Main (λ bytes. StandsForList bytes (listed (seen log Main))) log
kept_leaves log index numbers settled k = settled_leaves log Main (λ bytes. StandsForList bytes (listed (seen log Main))) settled (kept_list (seen log Main) index numbers k)
