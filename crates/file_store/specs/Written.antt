-- What the calls of a store leave of its file, byte by byte. Source: the FileStorage format notes; own for the order in which a pack writes.
use Rattle.std.specs.Prelude.{◌≡◌, List, ◌++◌, Result, OnErr, OnOk, take}
use Rattle.std.specs.Option.{ForSome}
use Rattle.std.specs.Ordering.{nat_cmp}
use Rattle.std.specs.FinSet.{FinSet}
use Rattle.zb_volume.specs.declared.areas.Area.{Area}
use Rattle.zb_volume.specs.declared.areas.Area.TheVariants.{Main, Side}
use Rattle.zb_volume.specs.Calls.{Event}
use Rattle.zb_volume.specs.Disk.{seen}
use Rattle.zb_volume.specs.Moments.{LeavesOnly, StaysAs}
use Rattle.zb_model.specs.Packing.{packed_by}
use Rattle.zb_model.specs.Packs.{StandsForOneOfTwo}
use Rattle.zb_model.specs.Stores.{SideIsEmpty, StoreState, UnlessFault}
use Rattle.zb_model.specs.declared.new_transaction.NewTransaction.{NewTransaction}
use Rattle.zb_model.specs.declared.store_error.StoreError.{StoreError}
use Rattle.fs_index.specs.Places.{Kept}
use Rattle.fs_records.specs.Blocks.{block_text}
use Rattle.fs_records.specs.Indexed.{IsIndexOf}
use Rattle.fs_records.specs.Listed.{listed, reached_in}
use Rattle.fs_records.specs.Writing.{block_of}
use Rattle.pack_copy.specs.InFull.{full_file}
use Rattle.file_store.specs.Hinting.{StaysHonest}
use Rattle.file_store.specs.Kept.{StandsForList, done}

-- behind Main stands the text of a new transaction with the status of a vote, by an index of what Main had
pub record IsVoteWritten (old new : List Event) (t : NewTransaction) : Type 0 where
  pub index : Kept
  pub is : IsIndexOf (reached_in (seen old Main)) index
  pub text : seen new Main ≡ seen old Main ++ block_text (reached_in (seen old Main)).end (block_of 99 index.entries t)

-- that status has become that of a committed transaction, and no other byte has changed
abbrev pub IsFinishWritten : List Event → List Event → Type 0
IsFinishWritten old new = seen new Main ≡ done (reached_in (seen old Main)).end (seen old Main)

-- what stood behind the list is cut off
abbrev pub IsAbortWritten : List Event → List Event → Type 0
IsAbortWritten old new = seen new Main ≡ take (reached_in (seen old Main)).end (seen old Main)

-- an area is the file of its list in which each content stands in full
abbrev pub IsInFull : List Event → Area → Type 0
IsInFull log area = seen log area ≡ full_file (listed (seen log area))

-- Side is the file of what the begun pack has copied, and of nothing else, in which each content stands in full
abbrev pub IsCopyInFull : StoreState → Type 0
IsCopyInFull s = ForSome s.begun (λ pack. seen s.log Side ≡ full_file pack.copied)

-- ---- what a call leaves of the areas, in one word

-- a vote leaves Side, and where it is answered the transaction's text behind Main; the index file stays honest
pub record VoteWrites {T : Type 0} (old new : List Event) (t : NewTransaction) (result : Result T StoreError) : Type 0 where
  pub side : StaysAs Side old new
  pub text : OnOk result (IsVoteWritten old new t)
  pub hint : StaysHonest old new

-- Where a switch is answered, Main is the file of its list in full, and Side is empty; where it is refused, Main is as it was, unless a call of the volume failed.
-- The index file stays honest.
pub record SwitchWrites {T : Type 0} (old new : List Event) (result : Result T StoreError) : Type 0 where
  pub main : OnErr result (UnlessFault result (StaysAs Main old new))
  pub side : OnOk result (SideIsEmpty new)
  pub text : OnOk result (IsInFull new Main)
  pub hint : StaysHonest old new

-- ---- the promises of every store, where the list lies in Main

-- at every moment a crash leaves of Main what stands for the list as it was
abbrev pub LeavesList : StoreState → StoreState → Type 0
LeavesList old new = LeavesOnly Main (λ bytes. StandsForList bytes old.list) old.log new.log

-- or for what the begun pack leaves of it
abbrev pub LeavesOneOfTwo : FinSet nat_cmp → StoreState → StoreState → Type 0
LeavesOneOfTwo keep old new = ForSome old.begun (λ pack. LeavesOnly Main (StandsForOneOfTwo StandsForList old.list (packed_by pack.tid keep old.list)) old.log new.log)

-- the list is what the begun pack leaves of it
abbrev pub IsListPacked : FinSet nat_cmp → StoreState → StoreState → Type 0
IsListPacked keep old new = ForSome old.begun (λ pack. new.list ≡ packed_by pack.tid keep old.list)
