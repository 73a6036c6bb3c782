use Rattle.std.proofs.Common.{◌≡◌, ◌-◌, List}
use Rattle.fs_records.specs.Blocks.{Known}
use Rattle.zb_volume.specs.Disk.{main_bytes}
use Rattle.fs_reading.specs.ChangesStand.{RecordsBetween}
use Rattle.fs_reading.specs.Known.{AreSourcesOf}
use Rattle.fs_reading.specs.SourceEntries.{AreSources, EntriesWithin, entries_from}
use Rattle.fs_reading.proofs.Between.{StandsFrom}
use Rattle.fs_reading.proofs.outlining.sources_between.Given as goal

abbrev pub invariant-loop-place : goal.invariant-loop-place
invariant-loop-place g l = record {
  same : (g.V.Volume.state l.volume).log ≡ (g.V.Volume.state l.fn.volume).log;
  reads : (g.V.Volume.state l.volume).read_faults ≡ (g.V.Volume.state l.fn.volume).read_faults;
  writes : (g.V.Volume.state l.volume).write_faults ≡ (g.V.Volume.state l.fn.volume).write_faults;
  rest : g.V.Volume.told → (ks : List Known) → RecordsBetween (main_bytes (g.V.Volume.state l.fn.volume).log) l.fn.from l.fn.end ks
      → StandsFrom (main_bytes (g.V.Volume.state l.fn.volume).log) l.place l.fn.end (entries_from (main_bytes (g.V.Volume.state l.fn.volume).log) l.entries.entries) ks;
  within : g.V.Volume.told → EntriesWithin (main_bytes (g.V.Volume.state l.fn.volume).log) l.entries.entries;
  formed : AreSources l.entries.entries;
  known : g.V.Volume.told → AreSourcesOf (main_bytes (g.V.Volume.state l.fn.volume).log) l.known;
}

abbrev pub decreases-loop-place : goal.decreases-loop-place
decreases-loop-place g l = l.end - l.place
