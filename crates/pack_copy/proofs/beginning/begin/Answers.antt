use Rattle.zb_volume.specs.declared.areas.Area.TheVariants.{Main, Side, Hint}
use Rattle.zb_volume.specs.Calls.{WriteAt, CutTo}
use Rattle.zb_volume.specs.Moments.{StaysAs}
use Rattle.zb_volume.specs.Durable.{one_stays, next_stays}
use Rattle.std.proofs.Common.{refl}
use Rattle.pack_copy.proofs.Begun.{side_is, nothing_copied, nothing_listed}
use Rattle.pack_copy.proofs.beginning.begin.Goals as goal
use Rattle.pack_copy.proofs.beginning.begin.Goals.{After-write_at}

pub returns-in_err-cut-clause-main : goal.returns-in_err-cut-clause-main
returns-in_err-cut-clause-main g c told = one_stays c.cut.result _ _ (CutTo Side 0) Main refl (c.cut.ensures.done told) (c.cut.ensures.failed told)

pub returns-in_err-cut-clause-hint : goal.returns-in_err-cut-clause-hint
returns-in_err-cut-clause-hint g c told = one_stays c.cut.result _ _ (CutTo Side 0) Hint refl (c.cut.ensures.done told) (c.cut.ensures.failed told)

-- after the write, done or not
stays : (g : _) (c : After-write_at g) → g.V.Volume.told → StaysAs Main (g.V.Volume.state c.args.volume.now).log (g.V.Volume.state c.write_at.new.self).log
stays g c told = next_stays c.write_at.result _ _ _ (WriteAt Side 0 _) Main refl (one_stays c.cut.result _ _ (CutTo Side 0) Main refl (c.cut.ensures.done told) (c.cut.ensures.failed told)) (c.write_at.ensures.done told) (c.write_at.ensures.failed told)

hint_stays : (g : _) (c : After-write_at g) → g.V.Volume.told → StaysAs Hint (g.V.Volume.state c.args.volume.now).log (g.V.Volume.state c.write_at.new.self).log
hint_stays g c told = next_stays c.write_at.result _ _ _ (WriteAt Side 0 _) Hint refl (one_stays c.cut.result _ _ (CutTo Side 0) Hint refl (c.cut.ensures.done told) (c.cut.ensures.failed told)) (c.write_at.ensures.done told) (c.write_at.ensures.failed told)

pub returns-in_err-write_at-clause-main : goal.returns-in_err-write_at-clause-main
returns-in_err-write_at-clause-main g c told = stays g (goal.at.returns-in_err-write_at-clause-main g c).After-write_at told

pub returns-in_err-write_at-clause-hint : goal.returns-in_err-write_at-clause-hint
returns-in_err-write_at-clause-hint g c told = hint_stays g (goal.at.returns-in_err-write_at-clause-hint g c).After-write_at told

pub returns-clause-main : goal.returns-clause-main
returns-clause-main g c told = stays g (goal.at.returns-clause-main g c).After-write_at told

pub returns-clause-hint : goal.returns-clause-hint
returns-clause-hint g c told = hint_stays g (goal.at.returns-clause-hint g c).After-write_at told

pub returns-clause-copied : goal.returns-clause-copied
returns-clause-copied g c told = nothing_copied _ _ (side_is _ _ _ _ (c.in_ok-cut.ensures.done told) (c.in_ok-write_at.ensures.done told) refl) c.new.ensures.objects c.new.ensures.transactions c.new-2.ensures refl

pub returns-clause-empty : goal.returns-clause-empty
returns-clause-empty g c told = nothing_listed _ (side_is _ _ _ _ (c.in_ok-cut.ensures.done told) (c.in_ok-write_at.ensures.done told) refl)
