use Rattle.std.proofs.Common.{◌≡◌, ◌≤◌, ◌<◌, ◌^◌, ◌-◌}
use Rattle.fs_recovery.specs.Counting.{Numbered}
use Rattle.fs_recovery.specs.Windows.{Shows}
use Rattle.fs_recovery.specs.Opens.{newest_kept, IsUpTo, KeptBefore}
use Rattle.fs_recovery.proofs.opening.read_blocks.Given as goal
use Rattle.zb_volume.specs.Disk.{main_bytes}

abbrev pub invariant-scan : goal.invariant-scan
invariant-scan g l = record {
  first : 4 ≤ l.p;
  within : l.p ≤ l.fn.window.length;
  newest : l.newest ≡ newest_kept l.index;
  below : l.newest < 2 ^ 64 - 1;
  before : KeptBefore l.index l.p;
  length : l.window.length ≡ l.fn.window.length;
  shows : g.V.Volume.told → Shows l.window (main_bytes (g.V.Volume.state l.fn.volume).log);
  same : (g.V.Volume.state l.volume).log ≡ (g.V.Volume.state l.fn.volume).log;
  counts : (g.V.Volume.state l.volume).read_faults ≡ (g.V.Volume.state l.fn.volume).read_faults;
  write_faults : (g.V.Volume.state l.volume).write_faults ≡ (g.V.Volume.state l.fn.volume).write_faults;
  so_far : g.V.Volume.told → IsUpTo (main_bytes (g.V.Volume.state l.fn.volume).log) l.fn.known → Numbered (main_bytes (g.V.Volume.state l.fn.volume).log) l.p l.newest l.index l.numbers;
}

abbrev pub decreases-scan : goal.decreases-scan
decreases-scan g l = l.fn.window.length - l.p
