use Rattle.std.proofs.Common.{◌-◌, ◌≤◌, take, drop}
use Rattle.zb_volume.specs.Disk.{main_bytes}
use Rattle.zb_volume.specs.declared.areas.Area.TheVariants.{Side}
use Rattle.pack_copy.specs.Appending.{IsAppended}
use Rattle.zb_volume.specs.States.{FaultsStand, OthersStay}
use Rattle.pack_copy.proofs.buffer.Buffer.put_main.Given as goal

-- the first bytes were put there
abbrev pub invariant-loop-done : goal.invariant-loop-done
invariant-loop-done g l = record {
  within : l.done ≤ l.count;
  appended : g.V.Volume.told → IsAppended (g.V.Volume.state l.fn.volume).log l.fn.self (g.V.Volume.state l.volume).log l.self (take l.done (drop l.at (main_bytes (g.V.Volume.state l.fn.volume).log)));
  others : g.V.Volume.told → OthersStay Side (g.V.Volume.state l.fn.volume).log (g.V.Volume.state l.volume).log;
  counts : FaultsStand (g.V.Volume.state l.fn.volume) (g.V.Volume.state l.volume);
}

abbrev pub decreases-loop-done : goal.decreases-loop-done
decreases-loop-done g l = l.count - l.done
