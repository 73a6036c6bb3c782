-- What a crash leaves of the index file in Hint, and what a store knows of it. Source: own.
use Rattle.std.specs.Prelude.{◌≡◌, ◌≤◌, ℕ, Bool, true, false, List, Some, None, length, map, take}
use Rattle.zb_volume.specs.declared.areas.Area.TheVariants.{Main, Hint}
use Rattle.zb_volume.specs.Calls.{Event}
use Rattle.zb_volume.specs.Disk.{seen, IsSettled}
use Rattle.zb_volume.specs.Images.{CrashLeaves}
use Rattle.zb_volume.specs.Moments.{Along}
use Rattle.zb_model.specs.Stores.{KeepsBegun, KeepsVoted, StoreState}
use Rattle.fs_index.specs.Places.{placed_of}
use Rattle.fs_records.specs.Indexed.{places_of}
use Rattle.fs_records.specs.Listed.{reached_in, reading_in}
use Rattle.fs_index_file.specs.Hints.{Entries, entries_in, is_believed, is_hint}
use Rattle.fs_index_file.specs.Honest.{IsHonest, is_packed}

-- ---- what callers see

-- the index file is honest, and nothing of it is pending
pub record HasHonestHint (log : List Event) : Type 0 where
  pub settled : IsSettled log Hint
  pub honest : IsHonest (seen log Main) (seen log Hint)

-- whatever a crash now leaves of the index file is honest of whatever it leaves of Main
abbrev pub LeavesHonest : List Event → Type 0
LeavesHonest log = (main hint : List ℕ) → CrashLeaves log Main main → CrashLeaves log Hint hint → IsHonest main hint

-- and so it is at every moment
abbrev pub StaysHonest : List Event → List Event → Type 0
StaysHonest old new = Along LeavesHonest old new

-- the index file may be believed, is honest, and goes up to this end, which is that of the file in Main
pub record IsHintedUpTo (log : List Event) (end : ℕ) : Type 0 where
  pub believed : is_believed (length (seen log Main)) (seen log Hint) ≡ true
  pub honest : IsHonest (seen log Main) (seen log Hint)
  pub goes_to : (entries_in (seen log Hint)).end ≡ end
  pub end_is : (reached_in (seen log Main)).end ≡ end

-- a call that writes the index file leaves all but whether the store is broken, the log and the counts
pub record KeepsStore (told : Type 0) (old new : StoreState) : Type 0 where
  pub keeps : new ≡ record old { list = new.list; voted = new.voted; begun = new.begun; broken = new.broken; log = new.log; faults = new.faults }
  pub list : told → new.list ≡ old.list
  pub voted : KeepsVoted told old new
  pub begun : KeepsBegun told old new

-- ---- what a store keeps

-- these entries are those of the file that these bytes are, which is the front of Main up to their end
pub record AreOfFront (front : List ℕ) (e : Entries) : Type 0 where
  pub reading : reading_in front ≡ Some (reached_in front, None)
  pub end_is : (reached_in front).end ≡ e.end
  pub places : map (λ s. s.place) e.starts ≡ (reached_in front).starts
  pub statuses : map is_packed e.starts ≡ map (λ t. t.packed) (reached_in front).list
  pub records : (oid : ℕ) → placed_of oid e.records ≡ places_of oid (reached_in front).known

-- bytes are no index file that may be believed, or they say what Main has, in a form that holds in one way
abbrev pub IsOfFront : List ℕ → List ℕ → Type 0
IsOfFront main hint = is_hint hint ≡ true → AreOfFront (take (entries_in hint).end main) (entries_in hint)

abbrev pub LeavesOfFront : List Event → Type 0
LeavesOfFront log = (main hint : List ℕ) → CrashLeaves log Main main → CrashLeaves log Hint hint → IsOfFront main hint

-- What a crash leaves of the index file says what Main has; and unless the store is broken, nothing of it is pending, and it goes up to this end at most.
pub record IsHinted (log : List Event) (broken : Bool) (end : ℕ) : Type 0 where
  pub honest : LeavesOfFront log
  pub settled : broken ≡ false → IsSettled log Hint
  pub within : broken ≡ false → is_hint (seen log Hint) ≡ true → (entries_in (seen log Hint)).end ≤ end
