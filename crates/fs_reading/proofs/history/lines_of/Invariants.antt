use Rattle.std.proofs.Common.{◌≡◌, ◌≤◌, List, length, map, drop}
use Rattle.std.specs.Prelude.{reverse}
use Rattle.std.specs.List.{AllByRecursion}
use Rattle.fs_records.specs.Blocks.{Known}
use Rattle.fs_records.specs.Indexed.{place_of}
use Rattle.zb_volume.specs.Disk.{main_bytes}
use Rattle.fs_reading.specs.Sizes.{noted_of}
use Rattle.fs_reading.specs.Standing.{RecordStands, lasts, revision_line_of}
use Rattle.fs_reading.proofs.history.lines_of.Given as goal

abbrev pub invariant-loop-left : goal.invariant-loop-left
invariant-loop-left g l = record {
  within : l.left ≤ length l.places;
  same : (g.V.Volume.state l.volume).log ≡ (g.V.Volume.state l.fn.volume).log;
  reads : (g.V.Volume.state l.volume).read_faults ≡ (g.V.Volume.state l.fn.volume).read_faults;
  writes : (g.V.Volume.state l.volume).write_faults ≡ (g.V.Volume.state l.fn.volume).write_faults;
  lines : g.V.Volume.told → (ks : List Known) → l.places ≡ map place_of ks → AllByRecursion (RecordStands (main_bytes (g.V.Volume.state l.fn.volume).log)) ks
      → l.noted ≡ map (noted_of (main_bytes (g.V.Volume.state l.fn.volume).log)) ks
      → l.lines ≡ reverse (map (revision_line_of (main_bytes (g.V.Volume.state l.fn.volume).log)) (lasts (drop l.left ks)));
}

abbrev pub decreases-loop-left : goal.decreases-loop-left
decreases-loop-left g l = l.left
