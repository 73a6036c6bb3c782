use Rattle.std.proofs.Common.{◌≡◌, ℕ, List, ap, sym, ◌∙◌}
use Rattle.fs_records.specs.declared.header.DataHeader.{DataHeader}
use Rattle.zb_volume.specs.Disk.{main_bytes}
use Rattle.fs_reading.specs.Standing.{data_head_at}
use Rattle.fs_reading.proofs.Notes.{size_noted}
use Rattle.fs_reading.proofs.sizes.size_at.Goals as goal

pub returns-clause-value : goal.returns-clause-value
returns-clause-value g c = λ told content ks is places_are noted_are all.
    let bytes : List ℕ = main_bytes (g.V.Volume.state c.args.volume.now).log in
    let none : (data_head_at bytes c.args.at).length ≡ 0 = ap (λ (h : DataHeader). h.length) (sym (c.requires.header told)) ∙ c.if-header-ne0.false in
    size_noted bytes content c.args.at c.in_ok-back.back c.in-Some.earlier is none (c.in_ok-back.ensures.value told) c.if-back-eq0.false (c.in-Some.ensures bytes ks places_are noted_are all)
