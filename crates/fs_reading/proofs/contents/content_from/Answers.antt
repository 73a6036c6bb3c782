use Rattle.std.proofs.Common.{◌≡◌, ℕ, ◌+◌, List, length, take, drop, ap, sym, ◌∙◌, arith}
use Rattle.zb_model.specs.declared.data.Content.TheVariants.{Held}
use Rattle.zb_volume.specs.Disk.{main_bytes}
use Rattle.fs_reading.specs.Outlines.{outlined_content}
use Rattle.fs_reading.proofs.contents.content_from.Goals as goal

pub bytes_at-requires : goal.bytes_at-requires
bytes_at-requires g c = λ told.
    let here = rw c.in-Some.is at (c.requires.within told) in
    let short = c.requires.short told in
    omega (arith, here, short, c.saturating_add-from.ensures)

pub returns-clause-value : goal.returns-clause-value
returns-clause-value g c = λ told.
    let bytes : List ℕ = main_bytes (g.V.Volume.state c.args.volume.now).log in
    let here = rw c.in-Some.is at (c.requires.within told) in
    let short = c.requires.short told in
    let from : c.saturating_add-from.result ≡ c.in-Some.source.at + 42 = omega (arith, here, short, c.saturating_add-from.ensures) in
    ap (λ (x : List ℕ). Held x) (c.in_ok-bytes_at.ensures.value told ∙ ap (λ (n : ℕ). take c.in-Some.source.length (drop n bytes)) from)
    ∙ sym (ap (outlined_content bytes) c.in-Some.is)
