use Rattle.std.proofs.Common.{◌≡◌, ◌+◌, ◌-◌, ◌≤◌}
use Rattle.std.specs.Prelude.{◌*◌}
use Rattle.zb_volume.specs.declared.areas.Area.TheVariants.{Hint}
use Rattle.zb_volume.specs.Disk.{seen}
use Rattle.fs_recovery.specs.Reading.{Holds}
use Rattle.fs_index_file.specs.Scans.{StartsBefore, StartsSoFar}
use Rattle.fs_index_file.proofs.starts.read_starts.Given as goal

abbrev pub invariant-each : goal.invariant-each
invariant-each g l = record {
  order : l.k ≤ l.head.starts;
  place : l.q ≡ 25 + 17 * l.k;
  bounds : StartsBefore l.head.end l.last l.index.transactions;
  entries : l.index.entries ≡ l.fn.index.entries;
  length : l.piece.length ≡ l.fn.piece.length;
  shows : g.V.Volume.told → Holds l.piece.at l.piece.count l.piece.held (seen (g.V.Volume.state l.fn.volume).log Hint);
  same : (g.V.Volume.state l.volume).log ≡ (g.V.Volume.state l.fn.volume).log;
  counts : (g.V.Volume.state l.volume).read_faults ≡ (g.V.Volume.state l.fn.volume).read_faults;
  write_faults : (g.V.Volume.state l.volume).write_faults ≡ (g.V.Volume.state l.fn.volume).write_faults;
  so_far : g.V.Volume.told → StartsSoFar (seen (g.V.Volume.state l.fn.volume).log Hint) l.head l.k l.q l.last l.index.transactions l.packed.items;
}

abbrev pub decreases-each : goal.decreases-each
decreases-each g l = l.head.starts - l.k
