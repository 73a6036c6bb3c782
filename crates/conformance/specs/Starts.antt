-- The volume that a run of the program starts with. Own.
use Rattle.std.specs.Prelude.{List}
use Rattle.zb_volume.specs.declared.areas.Area.TheVariants.{Main}
use Rattle.zb_volume.specs.Calls.{Event}
use Rattle.zb_volume.specs.Disk.{IsSettled}
use Rattle.file_store.specs.Hinting.{HasHonestHint}

-- nothing of Main is pending, and the index file is honest
pub record MayStart (log : List Event) : Type 0 where
  pub main : IsSettled log Main
  pub hint : HasHonestHint log
