use Rattle.std.proofs.Common.{◌≡◌}
use Rattle.zb_model.specs.declared.data.Content.{Content}
use Rattle.zb_volume.specs.Disk.{main_bytes}
use Rattle.fs_reading.specs.Standing.{data_head_at, IsContent}
use Rattle.fs_reading.proofs.contents.follow.Given as goal

abbrev pub invariant-loop-length : goal.invariant-loop-length
invariant-loop-length g l = record {
  same : (g.V.Volume.state l.volume).log ≡ (g.V.Volume.state l.fn.volume).log;
  reads : (g.V.Volume.state l.volume).read_faults ≡ (g.V.Volume.state l.fn.volume).read_faults;
  writes : (g.V.Volume.state l.volume).write_faults ≡ (g.V.Volume.state l.fn.volume).write_faults;
  length_is : g.V.Volume.told → l.length ≡ (data_head_at (main_bytes (g.V.Volume.state l.fn.volume).log) l.place).length;
  some : g.V.Volume.told → (content : Content) × IsContent (main_bytes (g.V.Volume.state l.fn.volume).log) content l.place;
  each : g.V.Volume.told → (content : Content) → IsContent (main_bytes (g.V.Volume.state l.fn.volume).log) content l.fn.at → IsContent (main_bytes (g.V.Volume.state l.fn.volume).log) content l.place;
}

abbrev pub decreases-loop-length : goal.decreases-loop-length
decreases-loop-length g l = l.place
