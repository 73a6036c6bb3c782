use Rattle.std.proofs.Common.{◌≡◌, ℕ, List, Some, ap, sym, ◌∙◌}
use Rattle.std.specs.Prelude.{slice_get}
use Rattle.zb_volume.specs.Disk.{main_bytes}
use Rattle.fs_reading.specs.declared.outline.Outline.{Outline}
use Rattle.fs_reading.specs.Histories.{stands}
use Rattle.fs_reading.specs.Outlines.{outlined_transaction}
use Rattle.fs_reading.proofs.Wholes.{numbered, if_ok}
use Rattle.fs_reading.proofs.outlining.read_outline_at.Goals as goal

pub outline_at-requires-clause-stands : goal.outline_at-requires-clause-stands
outline_at-requires-clause-stands g c = λ told.
    let bytes : List ℕ = main_bytes (g.V.Volume.state c.args.volume.now).log in
    let file = c.requires told in
    let there = stands bytes file.reached file.begins in
    let n = numbered bytes file.reached.starts file.reached.list file.number c.args.place there.transactions there.changes file.is in
    (n.transaction, n.stands, n.changes)

pub returns-clause-transaction : goal.returns-clause-transaction
returns-clause-transaction g c = λ told reached number begins is.
    let bytes : List ℕ = main_bytes (g.V.Volume.state c.args.volume.now).log in
    let there = stands bytes reached begins in
    let n = numbered bytes reached.starts reached.list number c.args.place there.transactions there.changes is in
    if_ok c.outline_at.result (λ (o : Outline). outlined_transaction bytes o ≡ n.transaction) (λ (o : Outline). slice_get reached.list number ≡ Some (outlined_transaction bytes o))
    (λ o e. n.is ∙ ap Some (sym e))
    (c.outline_at.ensures.value told n.transaction n.stands n.changes)
