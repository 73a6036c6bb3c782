use Rattle.std.proofs.Common.{◌≡◌, ℕ, ◌+◌, List, take, drop, sym, ap, ◌∙◌, arith}
use Rattle.zb_volume.specs.Disk.{main_bytes}
use Rattle.fs_records.specs.Blocks.{payload_text}
use Rattle.fs_reading.specs.Outlines.{outlined_content}
use Rattle.pack_copy.specs.InFull.{full_payload}
use Rattle.pack_copy.proofs.Appendings.{appended_is, ok_then}
use Rattle.pack_copy.proofs.writing.put_payload.Goals as goal

pub put_main-requires-clause-within : goal.put_main-requires-clause-within
put_main-requires-clause-within g c = λ told.
    let here = rw c.in-Some.is at (c.requires.within told) in
    omega (arith, here, c.requires.short told, c.saturating_add-from.ensures)

pub returns-in-Some-clause-appended : goal.returns-in-Some-clause-appended
returns-in-Some-clause-appended g c = λ told.
    let main : List ℕ = main_bytes (g.V.Volume.state c.args.volume.now).log in
    let here = rw c.in-Some.is at (c.requires.within told) in
    let from : c.saturating_add-from.result ≡ c.in-Some.source.at + 42 = omega (arith, here, c.requires.short told, c.saturating_add-from.ensures) in
    let same : take c.in-Some.source.length (drop c.saturating_add-from.result main) ≡ payload_text (full_payload (outlined_content main c.args.source)) =
    ap (λ (n : ℕ). take c.in-Some.source.length (drop n main)) from ∙ sym (ap (λ o. payload_text (full_payload (outlined_content main o))) c.in-Some.is) in
    ok_then c.put_main.result _ _ (appended_is _ _ _ _ _ _ same) (c.put_main.ensures.appended told)
