use Rattle.std.proofs.Common.{◌≡◌, ℕ, List, Some, ap, sym, ◌∙◌}
use Rattle.std.specs.Prelude.{slice_get}
use Rattle.zb_model.specs.declared.data.Transaction.{Transaction}
use Rattle.zb_volume.specs.Disk.{main_bytes}
use Rattle.fs_reading.specs.Histories.{stands}
use Rattle.fs_reading.proofs.Wholes.{numbered, if_ok}
use Rattle.fs_reading.proofs.transaction.read_transaction_at.Goals as goal

pub transaction_at-requires-clause-stands : goal.transaction_at-requires-clause-stands
transaction_at-requires-clause-stands g c = λ told.
    let bytes : List ℕ = main_bytes (g.V.Volume.state c.args.volume.now).log in
    let file = c.requires.start told in
    let there = stands bytes file.reached file.begins in
    let n = numbered bytes file.reached.starts file.reached.list file.number c.args.place there.transactions there.changes file.is in
    (n.transaction, n.stands, n.changes)

pub returns-clause-transaction : goal.returns-clause-transaction
returns-clause-transaction g c = λ told reached number begins is.
    let bytes : List ℕ = main_bytes (g.V.Volume.state c.args.volume.now).log in
    let there = stands bytes reached begins in
    let n = numbered bytes reached.starts reached.list number c.args.place there.transactions there.changes is in
    if_ok c.transaction_at.result (λ (t : Transaction). t ≡ n.transaction) (λ (t : Transaction). slice_get reached.list number ≡ Some t)
    (λ t e. n.is ∙ ap Some (sym e))
    (c.transaction_at.ensures.value told n.transaction n.stands n.changes)
