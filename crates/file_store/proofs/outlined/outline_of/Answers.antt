use Rattle.std.proofs.Common.{ℕ, List, sym, subst, ◌≡◌, ◌∙◌, option_map}
use Rattle.std.specs.Prelude.{IfOk}
use Rattle.zb_volume.specs.declared.areas.Area.TheVariants.{Main}
use Rattle.zb_volume.specs.Disk.{seen}
use Rattle.zb_model.specs.declared.data.Transaction.{Transaction}
use Rattle.zb_model.specs.Queries.{transaction_at}
use Rattle.fs_records.specs.Listed.{reached_in}
use Rattle.fs_reading.specs.Outlines.{outlined_transaction}
use Rattle.file_store.proofs.Outlines.{outlined_if_ok}
use Rattle.file_store.proofs.outlined.outline_of.Goals as goal

pub returns-then-eq-clause-outlined : goal.returns-then-eq-clause-outlined
returns-then-eq-clause-outlined g c = λ told x some. c.requires.known told x (c.in-Some.is ∙ some)

pub returns-clause-outlined : goal.returns-clause-outlined
returns-clause-outlined g c = λ told.
    let bytes : List ℕ = seen (g.V.Volume.state c.args.volume.now).log Main in
    let file = c.requires.starts told in
    let found = c.read_outline_with.ensures.found told (reached_in bytes) file.begins file.are in
    outlined_if_ok bytes c.args.tid c.read_outline_with.result
    (subst (λ (list : List Transaction). IfOk c.read_outline_with.result (λ x. option_map (outlined_transaction bytes) x ≡ transaction_at c.args.tid list)) (sym file.list_is) found)
    (c.read_outline_with.ensures.within told)
