use Rattle.std.proofs.Common.{refl}
use Rattle.zb_volume.specs.declared.areas.Area.TheVariants.{Main, Side, Hint}
use Rattle.zb_volume.specs.Calls.{CutTo, WriteAt}
use Rattle.zb_volume.specs.Durable.{next_stays, one_stays}
use Rattle.fs_append.proofs.Sides.{stays_joined}
use Rattle.zb_volume.specs.Moments.{StaysAs}
use Rattle.fs_append.proofs.Sides.{cut_stays, write_stays, still_leaves, replaced_leaves}
use Rattle.fs_append.proofs.creating.create.Goals as goal
use Rattle.fs_append.proofs.creating.create.Goals.{After-write_at}

pub returns-in_err-cut-clause-any_moment : goal.returns-in_err-cut-clause-any_moment
returns-in_err-cut-clause-any_moment g c told = still_leaves _ _ c.args.bytes.now (cut_stays c.cut.result _ _ (c.cut.ensures.done told) (c.cut.ensures.failed told))

-- after the write, done or not
stays : (g : _) (c : After-write_at g) → g.V.Volume.told → StaysAs Main (g.V.Volume.state c.args.volume.now).log (g.V.Volume.state c.write_at.new.self).log
stays g c told = write_stays c.write_at.result _ _ _ c.args.bytes.now (cut_stays c.cut.result _ _ (c.cut.ensures.done told) (c.cut.ensures.failed told)) (c.write_at.ensures.done told) (c.write_at.ensures.failed told)

pub returns-in_err-write_at-clause-any_moment : goal.returns-in_err-write_at-clause-any_moment
returns-in_err-write_at-clause-any_moment g c told = still_leaves _ _ c.args.bytes.now (stays g (goal.at.returns-in_err-write_at-clause-any_moment g c).After-write_at told)

pub returns-clause-any_moment : goal.returns-clause-any_moment
returns-clause-any_moment g c told = replaced_leaves _ _ _ _ c.args.bytes.now (c.in_ok-cut.ensures.done told) (c.in_ok-write_at.ensures.done told) (stays g (goal.at.returns-clause-any_moment g c).After-write_at told) (c.sync_and_replace.ensures.any_moment told)

-- Hint stays
hint_stays : (g : _) (c : After-write_at g) → g.V.Volume.told → StaysAs Hint (g.V.Volume.state c.args.volume.now).log (g.V.Volume.state c.write_at.new.self).log
hint_stays g c told = next_stays c.write_at.result _ _ _ (WriteAt Side 0 c.args.bytes.now) Hint refl (one_stays c.cut.result _ _ (CutTo Side 0) Hint refl (c.cut.ensures.done told) (c.cut.ensures.failed told)) (c.write_at.ensures.done told) (c.write_at.ensures.failed told)

pub returns-in_err-cut-clause-hint : goal.returns-in_err-cut-clause-hint
returns-in_err-cut-clause-hint g c told = one_stays c.cut.result _ _ (CutTo Side 0) Hint refl (c.cut.ensures.done told) (c.cut.ensures.failed told)

pub returns-in_err-write_at-clause-hint : goal.returns-in_err-write_at-clause-hint
returns-in_err-write_at-clause-hint g c = hint_stays g (goal.at.returns-in_err-write_at-clause-hint g c).After-write_at

pub returns-clause-hint : goal.returns-clause-hint
returns-clause-hint g c told = stays_joined Hint _ _ _ (hint_stays g (goal.at.returns-clause-hint g c).After-write_at told) (c.sync_and_replace.ensures.hint told)
