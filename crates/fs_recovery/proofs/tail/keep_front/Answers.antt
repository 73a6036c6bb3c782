use Rattle.std.proofs.Common.{take, ◌∙◌, ap}
use Rattle.zb_volume.specs.declared.areas.Area.TheVariants.{Main}
use Rattle.zb_volume.specs.Calls.{CutTo, SyncOf}
use Rattle.zb_volume.specs.Images.{CrashLeavesWith}
use Rattle.zb_volume.specs.Moments.{LeavesOnly}
use Rattle.zb_volume.specs.States.{OthersStay}
use Rattle.zb_volume.specs.Lasting.{cut_leaves, seen-cut}
use Rattle.zb_volume.specs.Durable.{change_leaves, sync_leaves, one_stays, next_stays}
use Rattle.zb_volume.specs.Disk.{main_bytes}
use Rattle.fs_recovery.proofs.tail.keep_front.Goals as goal
use Rattle.fs_recovery.proofs.tail.keep_front.Goals.{After-sync}

pub returns-in_err-cut-clause-any_moment : goal.returns-in_err-cut-clause-any_moment
returns-in_err-cut-clause-any_moment g c told =
    let log = (g.V.Volume.state c.args.volume.now).log in
    change_leaves c.cut.result log (g.V.Volume.state c.cut.new.self).log Main _ (CutTo Main c.args.end) (cut_leaves log Main c.args.end) (c.cut.ensures.done told) (c.cut.ensures.failed told)

pub returns-in_err-cut-clause-others : goal.returns-in_err-cut-clause-others
returns-in_err-cut-clause-others g c told other not =
    one_stays c.cut.result (g.V.Volume.state c.args.volume.now).log (g.V.Volume.state c.cut.new.self).log (CutTo Main c.args.end) other not (c.cut.ensures.done told) (c.cut.ensures.failed told)

-- after the sync, done or not
second : (g : _) (c : After-sync g) → g.V.Volume.told
    → LeavesOnly Main (CrashLeavesWith (g.V.Volume.state c.args.volume.now).log Main (take c.args.end (main_bytes (g.V.Volume.state c.args.volume.now).log))) (g.V.Volume.state c.args.volume.now).log (g.V.Volume.state c.sync.new.self).log
second g c told =
    let log = (g.V.Volume.state c.args.volume.now).log in
    let changed = c.in_ok-cut.ensures.done told in
    sync_leaves c.sync.result log (g.V.Volume.state c.cut.new.self).log (g.V.Volume.state c.sync.new.self).log Main _ (g.met.V.Volume.seen_is_left c.args.volume.now Main told)
    (ap (λ l. main_bytes l) changed ∙ seen-cut log Main c.args.end)
    (change_leaves c.cut.result log (g.V.Volume.state c.cut.new.self).log Main _ (CutTo Main c.args.end) (cut_leaves log Main c.args.end) (c.cut.ensures.done told) (c.cut.ensures.failed told)) (c.sync.ensures.done told) (c.sync.ensures.failed told)

second_others : (g : _) (c : After-sync g) → g.V.Volume.told → OthersStay Main (g.V.Volume.state c.args.volume.now).log (g.V.Volume.state c.sync.new.self).log
second_others g c told other not =
    let log = (g.V.Volume.state c.args.volume.now).log in
    next_stays c.sync.result log (g.V.Volume.state c.cut.new.self).log (g.V.Volume.state c.sync.new.self).log (SyncOf Main) other not
    (one_stays c.cut.result log (g.V.Volume.state c.cut.new.self).log (CutTo Main c.args.end) other not (c.cut.ensures.done told) (c.cut.ensures.failed told)) (c.sync.ensures.done told) (c.sync.ensures.failed told)

pub returns-in_err-sync-clause-any_moment : goal.returns-in_err-sync-clause-any_moment
returns-in_err-sync-clause-any_moment g c = second g (goal.at.returns-in_err-sync-clause-any_moment g c).After-sync

pub returns-in_err-sync-clause-others : goal.returns-in_err-sync-clause-others
returns-in_err-sync-clause-others g c = second_others g (goal.at.returns-in_err-sync-clause-others g c).After-sync

pub returns-then-end-long-clause-any_moment : goal.returns-then-end-long-clause-any_moment
returns-then-end-long-clause-any_moment g c = second g (goal.at.returns-then-end-long-clause-any_moment g c).After-sync

pub returns-then-end-long-clause-others : goal.returns-then-end-long-clause-others
returns-then-end-long-clause-others g c = second_others g (goal.at.returns-then-end-long-clause-others g c).After-sync
