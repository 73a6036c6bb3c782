use Rattle.std.proofs.Common.{◌≡◌, ℕ, List, map, ap, ◌∙◌}
use Rattle.zb_model.specs.declared.data.Change.{Change}
use Rattle.zb_model.specs.declared.data.Transaction.{Transaction}
use Rattle.zb_volume.specs.Disk.{main_bytes}
use Rattle.fs_reading.specs.declared.outline.Outline.{Outline}
use Rattle.fs_reading.specs.declared.outline.OutlinedChange.{OutlinedChange}
use Rattle.fs_reading.specs.Outlines.{outlined_change}
use Rattle.fs_reading.proofs.transaction.transaction_at.Goals as goal

pub returns-clause-value : goal.returns-clause-value
returns-clause-value g c = λ told t stands changes.
    let bytes : List ℕ = main_bytes (g.V.Volume.state c.args.volume.now).log in
    let o : Outline = c.in_ok-tid.field-0 in
    let now : main_bytes (g.V.Volume.state c.outline_at.new.volume).log ≡ bytes = ap main_bytes c.outline_at.ensures.read.same in
    let made : List Change → Transaction = λ cs. record { tid = o.tid; packed = o.packed; user = o.user; description = o.description; extension = o.extension; changes = cs } in
    ap made (c.in_ok-changes.ensures.value told ∙ ap (λ (b : List ℕ). map (outlined_change b) c.as_slice.result.now) now ∙ ap (λ (cs : List OutlinedChange). map (outlined_change bytes) cs) c.as_slice.ensures)
    ∙ c.in_ok-tid.ensures.value told t stands changes
