use Rattle.std.proofs.Common.{◌≡◌, ◌≤◌, ◌-◌, List}
use Rattle.fs_records.specs.Blocks.{Known}
use Rattle.fs_index.specs.Places.{AreBefore}
use Rattle.fs_records.specs.Indexed.{ArePlacesOf}
use Rattle.fs_recovery.specs.Counting.{RecordsCounted}
use Rattle.fs_recovery.specs.Windows.{Shows}
use Rattle.fs_recovery.proofs.records.read_records.Given as goal
use Rattle.zb_volume.specs.Disk.{main_bytes}

abbrev pub invariant-loop-q : goal.invariant-loop-q
invariant-loop-q g l = record {
  order : l.q ≤ l.end;
  behind : l.from ≤ l.q;
  few : l.counted.changes ≤ l.q - l.from;
  before : AreBefore l.index.entries l.tid l.q;
  transactions : l.index.transactions ≡ l.fn.index.transactions;
  length : l.window.length ≡ l.fn.window.length;
  shows : g.V.Volume.told → Shows l.window (main_bytes (g.V.Volume.state l.fn.volume).log);
  same : (g.V.Volume.state l.volume).log ≡ (g.V.Volume.state l.fn.volume).log;
  counts : (g.V.Volume.state l.volume).read_faults ≡ (g.V.Volume.state l.fn.volume).read_faults;
  write_faults : (g.V.Volume.state l.volume).write_faults ≡ (g.V.Volume.state l.fn.volume).write_faults;
  read : g.V.Volume.told → (known : List Known) → ArePlacesOf known l.fn.index.entries → RecordsCounted (main_bytes (g.V.Volume.state l.fn.volume).log) known l.place l.tid l.from l.q l.index.entries l.counted;
}

abbrev pub decreases-loop-q : goal.decreases-loop-q
decreases-loop-q g l = l.end - l.q
