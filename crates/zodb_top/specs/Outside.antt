-- What is seen of the outside. Own.
use Rattle.std.specs.Prelude.{ℕ, List, Option}
use Rattle.zb_ids.specs.declared.stamp.Stamp.{Stamp}
use Rattle.zb_volume.specs.declared.areas.Area.TheVariants.{Main}
use Rattle.zb_volume.specs.Calls.{Event}
use Rattle.zb_volume.specs.Disk.{seen}
use Rattle.zb_volume.specs.States.{VolumeState}

-- At a moment: what the sink has taken, and its count of faults; the stamps that the clock has still to give; the
-- calls that changed the volume, the newest first, and its counts of failed reads and of other failed calls.
pub record Outside : Type 0 where
  pub taken : Option (List ℕ)
  pub sink_faults : ℕ
  pub stamps : Option (List Stamp)
  pub log : List Event
  pub read_faults : ℕ
  pub write_faults : ℕ

-- the same, as a record of what is given in this order
abbrev pub outside : Option (List ℕ) → ℕ → Option (List Stamp) → VolumeState → Outside
outside taken sink_faults stamps volume =
    record { taken = taken; sink_faults = sink_faults; stamps = stamps; log = volume.log; read_faults = volume.read_faults; write_faults = volume.write_faults }

-- what Main reads as
abbrev pub main_of : Outside → List ℕ
main_of o = seen o.log Main
