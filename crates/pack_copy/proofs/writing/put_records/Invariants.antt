use Rattle.std.proofs.Common.{map, take}
use Rattle.std.specs.List.{AllByRecursion}
use Rattle.zb_volume.specs.Disk.{main_bytes}
use Rattle.fs_records.specs.Blocks.{records_text}
use Rattle.fs_records.specs.Writing.{HasRoom}
use Rattle.zb_volume.specs.declared.areas.Area.TheVariants.{Side}
use Rattle.pack_copy.specs.Appending.{IsAppended}
use Rattle.zb_volume.specs.States.{FaultsStand, OthersStay}
use Rattle.pack_copy.specs.Outlined.{record_in}
use Rattle.pack_copy.proofs.writing.put_records.Given as goal

-- the data records of the first changes were put there
abbrev pub invariant-record : goal.invariant-record
invariant-record g l = record {
  appended : g.V.Volume.told → IsAppended (g.V.Volume.state l.fn.volume).log l.fn.buffer (g.V.Volume.state l.volume).log l.buffer
      (records_text l.at l.tid (map (record_in l.places.entries (main_bytes (g.V.Volume.state l.fn.volume).log)) (take l.change-index l.changes)));
  room : g.V.Volume.told → AllByRecursion HasRoom (map (record_in l.places.entries (main_bytes (g.V.Volume.state l.fn.volume).log)) (take l.change-index l.changes));
  others : g.V.Volume.told → OthersStay Side (g.V.Volume.state l.fn.volume).log (g.V.Volume.state l.volume).log;
  counts : FaultsStand (g.V.Volume.state l.fn.volume) (g.V.Volume.state l.volume);
}
