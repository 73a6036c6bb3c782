-- What stands on Side of a list that is packed. Source: own.
use Rattle.std.specs.Prelude.{◌≡◌, ℕ, ◌<◌, ◌^◌, List, Option, Some, None, length}
use Rattle.zb_base.specs.Bytes.{AreBytes}
use Rattle.zb_model.specs.Stores.{BegunPack}
use Rattle.fs_records.specs.Blocks.{file_start}
use Rattle.fs_records.specs.Listed.{listed, reached_in, reading_in}
use Rattle.fs_index.specs.Places.{Kept}
use Rattle.fs_records.specs.Indexed.{IsIndexOf}
use Rattle.fs_recovery.specs.declared.opening.Opened.{Opened}
use Rattle.fs_recovery.specs.Numbers.{NumbersKept}
use Rattle.fs_recovery.specs.Opens.{IsWhole}
use Rattle.pack_copy.specs.InFull.{after_full, full_file}

-- what contracts see of a copy that was begun: up to which tid is packed, the index and the numbers of the file on Side, and where it ends
pub record CopyKept : Type 0 where
  pub tid : ℕ
  pub index : Kept
  pub numbers : NumbersKept
  pub end : ℕ

-- the file on Side, as it would be opened
abbrev pub opened_of : CopyKept → Opened
opened_of c = record { index = c.index; numbers = c.numbers; end = c.end; cut = None }

-- the bytes of Side are a file without a tail, with this index, these numbers and this end, in which each content stands in full
pub record IsCopied (bytes : List ℕ) (c : CopyKept) : Type 0 where
  pub fits : AreBytes bytes
  pub short : length bytes < 2 ^ 63
  pub long : length bytes ≡ c.end
  pub whole : IsWhole bytes (opened_of c)
  pub in_full : bytes ≡ full_file whole.reached.list
  pub reached_is : whole.reached ≡ after_full file_start whole.reached.list

-- the bytes of Main are read as a file, with a tail or without, and this is the index of its list
pub record IsSource (bytes : List ℕ) (from : Kept) : Type 0 where
  pub cut : Option ℕ
  pub reading : reading_in bytes ≡ Some (reached_in bytes, cut)
  pub index : IsIndexOf (reached_in bytes) from
  pub short : length bytes < 2 ^ 64

-- a begun pack, of which these bytes are what is copied
abbrev pub copied_in : ℕ → List ℕ → BegunPack
copied_in tid bytes = record { tid = tid; copied = listed bytes }
