use Rattle.std.proofs.Common.{◌≡◌, ℕ, ◌+◌}
use Rattle.zb_volume.specs.declared.areas.Area.TheVariants.{Main, Side}
use Rattle.zb_volume.specs.Disk.{seen}
use Rattle.fs_records.specs.Listed.{listed}
use Rattle.fs_recovery.specs.Opens.{newest_kept}
use Rattle.zb_volume.specs.States.{FaultsStand, OthersStay}
use Rattle.pack_copy.specs.declared.extent.Extent.TheVariants.{Turn}
use Rattle.pack_copy.specs.Appending.{IsAtEnd, with_held}
use Rattle.pack_copy.specs.UpTo.{AreShort, IsBelowNext, IsCopiedUpTo}
use Rattle.pack_copy.proofs.turn.copy_each.Given as goal

-- the transactions up to the next one were gone over
abbrev pub invariant-copy : goal.invariant-copy
invariant-copy g l = record {
  others : g.V.Volume.told → OthersStay Side (g.V.Volume.state l.fn.volume).log (g.V.Volume.state l.volume).log;
  side : g.V.Volume.told → IsAtEnd (g.V.Volume.state l.volume).log l.buffer;
  up_to : g.V.Volume.told → IsCopiedUpTo (listed (seen (g.V.Volume.state l.fn.volume).log Main)) (with_held (g.V.Volume.state l.volume).log l.buffer) l.to l.fn.keep (l.fn.first + l.start-index);
  short : g.V.Volume.told → (before : ℕ) → l.fn.extent ≡ Turn before → AreShort before (listed (with_held (g.V.Volume.state l.fn.volume).log l.fn.buffer)) (listed (with_held (g.V.Volume.state l.volume).log l.buffer));
  above : IsBelowNext l.fn.from.transactions (newest_kept l.to.index) (l.fn.first + l.start-index);
  tid : l.to.tid ≡ l.fn.to.tid;
  counts : FaultsStand (g.V.Volume.state l.fn.volume) (g.V.Volume.state l.volume);
}
