use Rattle.std.proofs.Common.{◌≡◌, List, map, take, vec_len}
use Rattle.std.specs.List.{AllByRecursion}
use Rattle.fs_records.specs.Blocks.{Known}
use Rattle.fs_records.specs.Indexed.{place_of}
use Rattle.zb_volume.specs.Disk.{main_bytes}
use Rattle.fs_reading.specs.Sizes.{noted_of}
use Rattle.fs_reading.specs.Standing.{RecordStands}
use Rattle.fs_reading.proofs.sizes.note_all.Given as goal

abbrev pub invariant-note : goal.invariant-note
invariant-note g l = record {
  same : (g.V.Volume.state l.volume).log ≡ (g.V.Volume.state l.fn.volume).log;
  reads : (g.V.Volume.state l.volume).read_faults ≡ (g.V.Volume.state l.fn.volume).read_faults;
  writes : (g.V.Volume.state l.volume).write_faults ≡ (g.V.Volume.state l.fn.volume).write_faults;
  long : vec_len l.noted ≡ l.count;
  noted : g.V.Volume.told → (ks : List Known) → l.places ≡ map place_of ks → AllByRecursion (RecordStands (main_bytes (g.V.Volume.state l.fn.volume).log)) ks
      → l.noted.items ≡ map (noted_of (main_bytes (g.V.Volume.state l.fn.volume).log)) (take l.count ks);
}
