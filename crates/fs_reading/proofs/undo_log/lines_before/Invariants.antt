use Rattle.std.proofs.Common.{◌≡◌, ◌≤◌, length, drop}
use Rattle.std.specs.Prelude.{reverse}
use Rattle.std.specs.List.{filter_map}
use Rattle.zb_volume.specs.Disk.{main_bytes}
use Rattle.fs_reading.specs.Showing.{Shows}
use Rattle.fs_reading.specs.Standing.{log_line_at}
use Rattle.fs_reading.proofs.undo_log.lines_before.Given as goal

abbrev pub invariant-loop-left : goal.invariant-loop-left
invariant-loop-left g l = record {
  within : l.left ≤ length l.places;
  same : (g.V.Volume.state l.volume).log ≡ (g.V.Volume.state l.fn.volume).log;
  reads : (g.V.Volume.state l.volume).read_faults ≡ (g.V.Volume.state l.fn.volume).read_faults;
  writes : (g.V.Volume.state l.volume).write_faults ≡ (g.V.Volume.state l.fn.volume).write_faults;
  few : length l.lines ≤ l.fn.count;
  lines : g.V.Volume.told → l.lines ≡ reverse (filter_map (log_line_at (main_bytes (g.V.Volume.state l.fn.volume).log)) (drop l.left l.places));
  shows : g.V.Volume.told → Shows l.piece (main_bytes (g.V.Volume.state l.fn.volume).log);
}

abbrev pub decreases-loop-left : goal.decreases-loop-left
decreases-loop-left g l = l.left
