use Rattle.std.proofs.Common.{refl}
use Rattle.zb_volume.specs.declared.areas.Area.TheVariants.{Main, Side, Hint}
use Rattle.zb_volume.specs.Calls.{Replace, SyncOf}
use Rattle.zb_volume.specs.Durable.{OldOrSide, one_stays, next_stays, replace_leaves, sync_side_leaves}
use Rattle.zb_volume.specs.Moments.{LeavesOnly, StaysAs}
use Rattle.zb_volume.proofs.durable.sync_and_replace.Goals as goal
use Rattle.zb_volume.proofs.durable.sync_and_replace.Goals.{After-replace}

-- after both calls
second : (g : _) (c : After-replace g) → g.V.Volume.told → LeavesOnly Main (OldOrSide (g.V.Volume.state c.args.volume.now).log) (g.V.Volume.state c.args.volume.now).log (g.V.Volume.state c.replace.new.self).log
second g c told = replace_leaves c.replace.result _ _ _ (c.in_ok-sync.ensures.done told) (sync_side_leaves c.sync.result _ _ (c.sync.ensures.done told) (c.sync.ensures.failed told)) (c.replace.ensures.done told) (c.replace.ensures.failed told)

stays : (g : _) (c : After-replace g) → g.V.Volume.told → StaysAs Hint (g.V.Volume.state c.args.volume.now).log (g.V.Volume.state c.replace.new.self).log
stays g c told = next_stays c.replace.result _ _ _ Replace Hint refl (one_stays c.sync.result _ _ (SyncOf Side) Hint refl (c.sync.ensures.done told) (c.sync.ensures.failed told)) (c.replace.ensures.done told) (c.replace.ensures.failed told)

pub returns-in_err-sync-clause-any_moment : goal.returns-in_err-sync-clause-any_moment
returns-in_err-sync-clause-any_moment g c told = sync_side_leaves c.sync.result _ _ (c.sync.ensures.done told) (c.sync.ensures.failed told)

pub returns-in_err-replace-clause-any_moment : goal.returns-in_err-replace-clause-any_moment
returns-in_err-replace-clause-any_moment g c = second g (goal.at.returns-in_err-replace-clause-any_moment g c).After-replace

pub returns-clause-any_moment : goal.returns-clause-any_moment
returns-clause-any_moment g c = second g (goal.at.returns-clause-any_moment g c).After-replace

pub returns-in_err-sync-clause-hint : goal.returns-in_err-sync-clause-hint
returns-in_err-sync-clause-hint g c told = one_stays c.sync.result _ _ (SyncOf Side) Hint refl (c.sync.ensures.done told) (c.sync.ensures.failed told)

pub returns-in_err-replace-clause-hint : goal.returns-in_err-replace-clause-hint
returns-in_err-replace-clause-hint g c = stays g (goal.at.returns-in_err-replace-clause-hint g c).After-replace

pub returns-clause-hint : goal.returns-clause-hint
returns-clause-hint g c = stays g (goal.at.returns-clause-hint g c).After-replace
