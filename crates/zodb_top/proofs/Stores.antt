-- What contracts see of a file store, by what it holds.
use Rattle.std.proofs.Common.{Bool, Option}
use Rattle.std.specs.Option.{option_map}
use Rattle.zb_model.specs.Stores.{StoreState}
use Rattle.zb_volume.specs.declared.areas.Area.TheVariants.{Main, Side}
use Rattle.zb_volume.specs.Disk.{seen}
use Rattle.zb_volume.specs.States.{VolumeState}
use Rattle.fs_records.specs.Listed.{listed}
use Rattle.pack_copy.specs.Copying.{CopyKept, copied_in}
use Rattle.file_store.specs.Kept.{voted_in}
use Rattle.file_store.specs.Staging.{StagedKept}

abbrev pub state_by : VolumeState → StagedKept → Option CopyKept → Bool → StoreState
state_by v index copy broken = record {
  list = listed (seen v.log Main);
  voted = option_map (λ s. voted_in s.tid index.end (seen v.log Main)) index.staged;
  begun = option_map (λ c. copied_in c.tid (seen v.log Side)) copy;
  newest = index.newest;
  broken = broken;
  log = v.log;
  faults = v.write_faults;
  read_faults = v.read_faults;
}
