use Rattle.std.proofs.Common.{ℕ, List, ap, subst, sym}
use Rattle.zb_volume.specs.declared.areas.Area.TheVariants.{Main}
use Rattle.zb_volume.specs.Disk.{seen}
use Rattle.fs_reading.specs.declared.outline.Outline.{Outline}
use Rattle.fs_reading.specs.Outlines.{AllStandWithin, outlined_transaction}
use Rattle.pack_copy.proofs.Turns.{with_its_tid}
use Rattle.pack_copy.proofs.turn.read_at.Goals as goal

pub returns-clause-transaction : goal.returns-clause-transaction
returns-clause-transaction g c = λ told reached number begins is.
    let main : List ℕ = seen (g.V.Volume.state c.args.volume.now).log Main in
    with_its_tid main reached number c.args.start (outlined_transaction main c.in_ok-outline.outline) (outlined_transaction main c.with_tid.result) begins is (c.in_ok-outline.ensures.transaction told reached number begins is) (ap (outlined_transaction main) c.with_tid.ensures)

pub returns-clause-within : goal.returns-clause-within
returns-clause-within g c = λ told.
    subst (λ (o : Outline). AllStandWithin (seen (g.V.Volume.state c.args.volume.now).log Main) o.changes) (sym c.with_tid.ensures) (c.in_ok-outline.ensures.within told)
