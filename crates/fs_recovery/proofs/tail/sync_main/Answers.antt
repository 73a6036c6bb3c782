use Rattle.std.proofs.Common.{refl}
use Rattle.zb_volume.specs.declared.areas.Area.TheVariants.{Main}
use Rattle.zb_volume.specs.Calls.{SyncOf}
use Rattle.zb_volume.specs.Disk.{disk, main_bytes}
use Rattle.zb_volume.specs.Images.{CrashLeavesWith}
use Rattle.zb_volume.specs.Moments.{LeavesOnly, here}
use Rattle.zb_volume.specs.States.{OthersStay}
use Rattle.zb_volume.specs.Lasting.{more_left}
use Rattle.zb_volume.specs.Durable.{sync_leaves, one_stays}
use Rattle.fs_recovery.proofs.tail.sync_main.Goals as goal
use Rattle.fs_recovery.proofs.tail.sync_main.Goals.{After-sync}

-- after the sync, done or not
first : (g : _) (c : After-sync g) → g.V.Volume.told
    → LeavesOnly Main (CrashLeavesWith (g.V.Volume.state c.args.volume.now).log Main (main_bytes (g.V.Volume.state c.args.volume.now).log)) (g.V.Volume.state c.args.volume.now).log (g.V.Volume.state c.sync.new.self).log
first g c told =
    let log = (g.V.Volume.state c.args.volume.now).log in
    sync_leaves c.sync.result log log (g.V.Volume.state c.sync.new.self).log Main (main_bytes log) (g.met.V.Volume.seen_is_left c.args.volume.now Main told) refl
    (here (more_left (disk log Main).pending (main_bytes log))) (c.sync.ensures.done told) (c.sync.ensures.failed told)

first_others : (g : _) (c : After-sync g) → g.V.Volume.told → OthersStay Main (g.V.Volume.state c.args.volume.now).log (g.V.Volume.state c.sync.new.self).log
first_others g c told other not = one_stays c.sync.result (g.V.Volume.state c.args.volume.now).log (g.V.Volume.state c.sync.new.self).log (SyncOf Main) other not (c.sync.ensures.done told) (c.sync.ensures.failed told)

pub returns-in_err-sync-clause-any_moment : goal.returns-in_err-sync-clause-any_moment
returns-in_err-sync-clause-any_moment g c = first g (goal.at.returns-in_err-sync-clause-any_moment g c).After-sync

pub returns-in_err-sync-clause-others : goal.returns-in_err-sync-clause-others
returns-in_err-sync-clause-others g c = first_others g (goal.at.returns-in_err-sync-clause-others g c).After-sync

pub returns-clause-any_moment : goal.returns-clause-any_moment
returns-clause-any_moment g c = first g (goal.at.returns-clause-any_moment g c).After-sync

pub returns-clause-others : goal.returns-clause-others
returns-clause-others g c = first_others g (goal.at.returns-clause-others g c).After-sync
