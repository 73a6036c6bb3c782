use Rattle.std.proofs.Common.{◌≡◌, false, take, ◌∙◌, ap}
use Rattle.zb_volume.specs.declared.areas.Area.{Area}
use Rattle.zb_volume.specs.Calls.{CutTo, SyncOf, same_area}
use Rattle.zb_volume.specs.Disk.{seen}
use Rattle.zb_volume.specs.Images.{CrashLeavesWith}
use Rattle.zb_volume.specs.Moments.{LeavesOnly, StaysAs}
use Rattle.zb_volume.specs.Lasting.{cut_leaves, seen-cut}
use Rattle.zb_volume.specs.Durable.{change_leaves, sync_leaves, one_stays, next_stays}
use Rattle.zb_volume.proofs.durable.cut_and_sync.Goals as goal
use Rattle.zb_volume.proofs.durable.cut_and_sync.Goals.{After-sync}

pub returns-in_err-cut-clause-any_moment : goal.returns-in_err-cut-clause-any_moment
returns-in_err-cut-clause-any_moment g c told = change_leaves c.cut.result (g.V.Volume.state c.args.volume.now).log (g.V.Volume.state c.cut.new.self).log c.args.area _ (CutTo c.args.area c.args.length) (cut_leaves (g.V.Volume.state c.args.volume.now).log c.args.area c.args.length) (c.cut.ensures.done told) (c.cut.ensures.failed told)

pub returns-in_err-cut-clause-elsewhere : goal.returns-in_err-cut-clause-elsewhere
returns-in_err-cut-clause-elsewhere g c told other not = one_stays c.cut.result (g.V.Volume.state c.args.volume.now).log (g.V.Volume.state c.cut.new.self).log (CutTo c.args.area c.args.length) other not (c.cut.ensures.done told) (c.cut.ensures.failed told)

-- after the sync, done or not
second : (g : _) (c : After-sync g) → g.V.Volume.told
    → LeavesOnly c.args.area (CrashLeavesWith (g.V.Volume.state c.args.volume.now).log c.args.area (take c.args.length (seen (g.V.Volume.state c.args.volume.now).log c.args.area))) (g.V.Volume.state c.args.volume.now).log (g.V.Volume.state c.sync.new.self).log
second g c told =
    let log = (g.V.Volume.state c.args.volume.now).log in
    let changed = c.in_ok-cut.ensures.done told in
    sync_leaves c.sync.result log (g.V.Volume.state c.cut.new.self).log (g.V.Volume.state c.sync.new.self).log c.args.area _ (g.met.V.Volume.seen_is_left c.args.volume.now c.args.area told)
    (ap (λ l. seen l c.args.area) changed ∙ seen-cut log c.args.area c.args.length)
    (change_leaves c.cut.result (g.V.Volume.state c.args.volume.now).log (g.V.Volume.state c.cut.new.self).log c.args.area _ (CutTo c.args.area c.args.length) (cut_leaves (g.V.Volume.state c.args.volume.now).log c.args.area c.args.length) (c.cut.ensures.done told) (c.cut.ensures.failed told)) (c.sync.ensures.done told) (c.sync.ensures.failed told)

second_elsewhere : (g : _) (c : After-sync g) → g.V.Volume.told → (other : Area) → same_area c.args.area other ≡ false → StaysAs other (g.V.Volume.state c.args.volume.now).log (g.V.Volume.state c.sync.new.self).log
second_elsewhere g c told other not = next_stays c.sync.result (g.V.Volume.state c.args.volume.now).log (g.V.Volume.state c.cut.new.self).log (g.V.Volume.state c.sync.new.self).log (SyncOf c.args.area) other not
    (one_stays c.cut.result (g.V.Volume.state c.args.volume.now).log (g.V.Volume.state c.cut.new.self).log (CutTo c.args.area c.args.length) other not (c.cut.ensures.done told) (c.cut.ensures.failed told)) (c.sync.ensures.done told) (c.sync.ensures.failed told)

pub returns-in_err-sync-clause-any_moment : goal.returns-in_err-sync-clause-any_moment
returns-in_err-sync-clause-any_moment g c = second g (goal.at.returns-in_err-sync-clause-any_moment g c).After-sync

pub returns-in_err-sync-clause-elsewhere : goal.returns-in_err-sync-clause-elsewhere
returns-in_err-sync-clause-elsewhere g c = second_elsewhere g (goal.at.returns-in_err-sync-clause-elsewhere g c).After-sync

pub returns-clause-any_moment : goal.returns-clause-any_moment
returns-clause-any_moment g c = second g (goal.at.returns-clause-any_moment g c).After-sync

pub returns-clause-elsewhere : goal.returns-clause-elsewhere
returns-clause-elsewhere g c = second_elsewhere g (goal.at.returns-clause-elsewhere g c).After-sync
