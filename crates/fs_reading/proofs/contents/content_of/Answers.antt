use Rattle.std.proofs.Common.{◌≡◌, ℕ, List, ap, sym, subst, ◌∙◌}
use Rattle.zb_model.specs.declared.data.Content.{Content}
use Rattle.zb_volume.specs.Disk.{main_bytes}
use Rattle.fs_reading.specs.Outlines.{StandsWithin, outlined_content}
use Rattle.fs_reading.proofs.Forming.{source_content, source_within}
use Rattle.fs_reading.proofs.Wholes.{if_ok}
use Rattle.fs_reading.proofs.contents.content_of.Goals as goal

pub content_from-requires-clause-within : goal.content_from-requires-clause-within
content_from-requires-clause-within g c = λ told.
    let then = ap main_bytes c.source_of.ensures.read.same in
    let t = c.requires.some told in
    subst (λ (b : List ℕ). StandsWithin b c.in_ok-source.source) (sym then) (source_within _ t.0 c.in_ok-source.source (c.in_ok-source.ensures.value told t.0 t.1))

pub returns-clause-value : goal.returns-clause-value
returns-clause-value g c = λ told content is.
    let then = ap main_bytes c.source_of.ensures.read.same in
    if_ok c.content_from.result _ (λ (read : Content). read ≡ content)
    (λ read e. e ∙ ap (λ (b : List ℕ). outlined_content b c.in_ok-source.source) then ∙ source_content _ content c.in_ok-source.source (c.in_ok-source.ensures.value told content is)) (c.content_from.ensures.value told)
