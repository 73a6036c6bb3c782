use Rattle.std.proofs.Common.{◌≡◌, ◌+◌, ◌-◌, ◌≤◌}
use Rattle.std.specs.Prelude.{◌*◌}
use Rattle.zb_volume.specs.declared.areas.Area.TheVariants.{Hint}
use Rattle.zb_volume.specs.Disk.{seen}
use Rattle.fs_recovery.specs.Reading.{Holds}
use Rattle.fs_index_file.specs.Counts.{CountsSoFar, RisesFrom}
use Rattle.fs_index_file.specs.Scans.{RecordsBefore, RecordsSoFar}
use Rattle.fs_index_file.proofs.records.read_records.Given as goal

abbrev pub invariant-each : goal.invariant-each
invariant-each g l = record {
  order : l.k ≤ l.head.records;
  place : l.q ≡ 25 + 17 * l.head.starts + 24 * l.k;
  bounds : RecordsBefore l.newest l.head.end l.last l.index.entries;
  transactions : l.index.transactions ≡ l.fn.index.transactions;
  counted : g.V.Volume.told → RisesFrom 0 l.fn.index.transactions → CountsSoFar (seen (g.V.Volume.state l.fn.volume).log Hint) l.head l.k l.q l.last l.fn.index.transactions l.counted;
  length : l.piece.length ≡ l.fn.piece.length;
  shows : g.V.Volume.told → Holds l.piece.at l.piece.count l.piece.held (seen (g.V.Volume.state l.fn.volume).log Hint);
  same : (g.V.Volume.state l.volume).log ≡ (g.V.Volume.state l.fn.volume).log;
  counts : (g.V.Volume.state l.volume).read_faults ≡ (g.V.Volume.state l.fn.volume).read_faults;
  write_faults : (g.V.Volume.state l.volume).write_faults ≡ (g.V.Volume.state l.fn.volume).write_faults;
  so_far : g.V.Volume.told → RecordsSoFar (seen (g.V.Volume.state l.fn.volume).log Hint) l.head l.newest l.k l.q l.last l.index.entries;
}

abbrev pub decreases-each : goal.decreases-each
decreases-each g l = l.head.records - l.k
