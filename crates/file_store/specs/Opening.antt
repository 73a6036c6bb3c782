-- What opening a store says of Main, and what a crash leaves of it. Source: own.
use Rattle.std.specs.Prelude.{◌≡◌, ◌≢◌, ◌⊎◌, ℕ, List, [], ◌∷◌, Option, Some, None, IfSome, option_map, slice_get, take}
use Rattle.zb_volume.specs.declared.areas.Area.TheVariants.{Main}
use Rattle.zb_volume.specs.Calls.{Event}
use Rattle.zb_volume.specs.Disk.{seen, IsSettled}
use Rattle.zb_base.specs.Counts.{Rose}
use Rattle.zb_volume.specs.Moments.{LeavesOnly}
use Rattle.zb_ids.specs.declared.stamp.Stamp.{Stamp}
use Rattle.zb_outside.specs.Stamps.{stamps_after}
use Rattle.zb_ids.specs.Tids.{stamp_number}
use Rattle.zb_model.specs.declared.data.Transaction.{Transaction}
use Rattle.zb_model.specs.Creation.{first_transaction}
use Rattle.fs_records.specs.File.{StandsFor, IsNoFile, IsDamaged}
use Rattle.fs_recovery.specs.declared.errors.OpenError.{OpenError}
use Rattle.fs_recovery.specs.declared.errors.OpenError.TheVariants.{StoreFault, BadRecord, NotFileStorage, Memory}
use Rattle.file_store.specs.First.{file_with}
use Rattle.file_store.specs.Kept.{StandsForList}

-- the list of a new database, by a clock's stamp
abbrev pub first_list : Stamp → List Transaction
first_list stamp = first_transaction (stamp_number stamp) ∷ []

-- what an error says of the bytes of Main; a failed call and want of memory say nothing
abbrev pub Harm : List ℕ → OpenError → Type 0
Harm bytes StoreFault = Unit {0}
Harm bytes (BadRecord at field) = IsDamaged bytes at field
Harm bytes NotFileStorage = IsNoFile bytes
Harm bytes Memory = Unit {0}

-- a call of the volume failed, and one of its two counts rose
abbrev pub SomeRose : ℕ → ℕ → ℕ → ℕ → Type 0
SomeRose reads reads_now writes writes_now = Rose reads reads_now ⊎ Rose writes writes_now

-- nothing was changed, unless a call failed that would change the volume
abbrev pub IsUnlessWritten : List Event → List Event → ℕ → ℕ → Type 0
IsUnlessWritten old new writes writes_now = (new ≡ old) ⊎ Rose writes writes_now

-- a stamp is the clock's first, where the clock tells
abbrev pub IsFirst : Option (List Stamp) → Stamp → Type 0
IsFirst stamps stamp = IfSome stamps (λ told. slice_get told 0 ≡ Some stamp)

-- a list is that of a new database, without a tail, by the clock's first stamp where the clock tells
pub record IsMade (stamps : Option (List Stamp)) (list : List Transaction) (cut : Option ℕ) : Type 0 where
  pub stamp : Stamp
  pub first : IsFirst stamps stamp
  pub list_is : list ≡ first_list stamp
  pub cut_is : cut ≡ None

-- bytes without the tail that was cut off at this place, where there was one
abbrev pub without_tail : List ℕ → Option ℕ → List ℕ
without_tail bytes None = bytes
without_tail bytes (Some at) = take at bytes

-- bytes are the file of a new database, by the clock's first stamp where the clock tells
pub record IsNewFile (stamps : Option (List Stamp)) (bytes : List ℕ) : Type 0 where
  pub stamp : Stamp
  pub first : IsFirst stamps stamp
  pub file : bytes ≡ file_with (first_transaction (stamp_number stamp))

-- the clock gave one stamp, or none
abbrev pub GaveAtMostOne : Option (List Stamp) → Option (List Stamp) → Type 0
GaveAtMostOne stamps stamps_now = (stamps_now ≡ stamps) ⊎ (stamps_now ≡ option_map stamps_after stamps)

-- bytes stand for the empty list, or for this one
abbrev pub IsNoneOr : List Transaction → List ℕ → Type 0
IsNoneOr list bytes = StandsForList bytes [] ⊎ StandsForList bytes list

-- or for that of a new database by this stamp
abbrev pub IsNewOr : Stamp → List ℕ → Type 0
IsNewOr stamp = IsNoneOr (first_list stamp)

-- where nothing of Main was pending, all that a crash at any moment leaves of it stands for the list that Main stood for
abbrev pub KeepsList : List Event → List Event → Type 0
KeepsList old new = (list : List Transaction) (cut : Option ℕ) → seen old Main ≢ [] → StandsFor (seen old Main) list cut → IsSettled old Main → LeavesOnly Main (λ bytes. StandsForList bytes list) old new

-- where Main was empty and nothing of it was pending, all that a crash at any moment leaves of it stands for the empty list or for the first transaction alone
abbrev pub MakesList : Stamp → List Event → List Event → Type 0
MakesList stamp old new = seen old Main ≡ [] → IsSettled old Main → LeavesOnly Main (IsNewOr stamp) old new

-- while a file was made nothing was done, or it was made by a stamp, the clock's first where the clock tells
abbrev pub MakesFile : Option (List Stamp) → List Event → List Event → Type 0
MakesFile stamps old new = (new ≡ old) ⊎ ((stamp : Stamp) × IsFirst stamps stamp × MakesList stamp old new)
