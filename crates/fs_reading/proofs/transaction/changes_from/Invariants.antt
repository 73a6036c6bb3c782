use Rattle.std.proofs.Common.{◌≡◌, map, take}
use Rattle.zb_volume.specs.Disk.{main_bytes}
use Rattle.fs_reading.specs.Outlines.{outlined_change}
use Rattle.fs_reading.proofs.Forming.{ContentsSoFar}
use Rattle.fs_reading.proofs.transaction.changes_from.Given as goal

-- the first changes, with their contents
abbrev pub invariant-change : goal.invariant-change
invariant-change g l = record {
  same : (g.V.Volume.state l.volume).log ≡ (g.V.Volume.state l.fn.volume).log;
  reads : (g.V.Volume.state l.volume).read_faults ≡ (g.V.Volume.state l.fn.volume).read_faults;
  writes : (g.V.Volume.state l.volume).write_faults ≡ (g.V.Volume.state l.fn.volume).write_faults;
  value : g.V.Volume.told → l.changes ≡ map (outlined_change (main_bytes (g.V.Volume.state l.fn.volume).log)) (take l.change-index l.outlined);
  so_far : ContentsSoFar l.outlined l.change-index l.changes;
}
