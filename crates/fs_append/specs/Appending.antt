-- What of Main stands for what was read, before a transaction is finished and after it was aborted. Source: own.
use Rattle.std.specs.Prelude.{◌≡◌, ℕ, ◌+◌, List, length, take, slice_index, Option, Some, None}
use Rattle.zb_volume.specs.declared.areas.Area.TheVariants.{Main}
use Rattle.zb_volume.specs.Calls.{Event}
use Rattle.zb_volume.specs.Disk.{seen, IsSettled}
use Rattle.fs_records.specs.Blocks.{Reached}
use Rattle.fs_records.specs.File.{IsReadAs}

-- these bytes stand for what was read, with a tail or without
abbrev pub IsStillRead : Reached → List ℕ → Type 0
IsStillRead s image = (cut : Option ℕ) × IsReadAs image s cut

-- so many of the first bytes of an image are those of these bytes
abbrev pub HasFront : ℕ → List ℕ → List ℕ → Type 0
HasFront n bytes image = take n image ≡ take n bytes

-- A text may be voted at this end: nothing of Main is pending, its bytes stand for what was read, without a tail, and end there, and the text has the status of a vote.
pub record IsVote (log : List Event) (s : Reached) (end : ℕ) (text : List ℕ) : Type 0 where
  pub settled : IsSettled log Main
  pub stands : IsReadAs (seen log Main) s None
  pub end_is : s.end ≡ end
  pub whole : length (seen log Main) ≡ end
  pub status : slice_index text 16 ≡ 99

-- Behind what was read a tail stands at this end whose status is that of a vote, and nothing of Main is pending.
pub record IsVoted (log : List Event) (s : Reached) (end : ℕ) : Type 0 where
  pub settled : IsSettled log Main
  pub stands : IsReadAs (seen log Main) s (Some end)
  pub end_is : s.end ≡ end
  pub status : slice_index (seen log Main) (end + 16) ≡ 99
