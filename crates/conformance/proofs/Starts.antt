-- Volumes that a run may start with.
use Rattle.std.proofs.Common.{◌≡◌, List, [], subst, sym}
use Rattle.zb_volume.specs.declared.areas.Area.{Area}
use Rattle.zb_volume.specs.declared.areas.Area.TheVariants.{Main, Hint}
use Rattle.zb_volume.specs.Calls.{Event}
use Rattle.zb_volume.specs.Disk.{IsSettled, seen}
use Rattle.zb_volume.specs.Images.{CrashLeaves}
use Rattle.fs_index_file.specs.Honest.{IsHonest}
use Rattle.fs_index_file.specs.HonestLaws.{closed_honest}
use Rattle.file_store.specs.Hinting.{LeavesHonest}
use Rattle.conformance.specs.Starts.{MayStart}

-- one without an index file
pub starts_new : (log : List Event) → ((a : Area) → IsSettled log a) → seen log Hint ≡ [] → MayStart log
starts_new log settled none = record {
  main = settled Main;
  hint = record { settled = settled Hint; honest = subst (λ (h : List _). IsHonest (seen log Main) h) (sym none) (closed_honest (seen log Main) [] (λ is. cc)) };
}

-- what a stop leaves of an honest one
pub may_start : (log image : List Event) → LeavesHonest log → ((a : Area) → IsSettled image a) → ((a : Area) → CrashLeaves log a (seen image a)) → MayStart image
may_start log image honest settled left = record {
  main = settled Main;
  hint = record { settled = settled Hint; honest = honest (seen image Main) (seen image Hint) (left Main) (left Hint) };
}

-- calls that change nothing leave it so
pub starts_same : (old new : List Event) → new ≡ old → MayStart old → MayStart new
starts_same old new same is = subst (λ (l : List Event). MayStart l) (sym same) is

pub honest_same : (old new : List Event) → new ≡ old → LeavesHonest old → LeavesHonest new
honest_same old new same is = subst (λ (l : List Event). LeavesHonest l) (sym same) is
