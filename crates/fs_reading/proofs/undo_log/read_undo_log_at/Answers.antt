use Rattle.std.proofs.Common.{◌≡◌, ℕ, List, ap, sym, subst, ◌∙◌}
use Rattle.std.specs.Prelude.{reverse, IfOk}
use Rattle.std.specs.List.{AllByRecursion, filter_map}
use Rattle.zb_model.specs.declared.lists.LogLine.{LogLine}
use Rattle.fs_index.specs.declared.place.Place.{Place}
use Rattle.zb_volume.specs.Disk.{main_bytes}
use Rattle.fs_reading.specs.Standing.{HasTexts, log_line_at}
use Rattle.fs_reading.specs.TransactionsStand.{all_have_texts, undo_lines}
use Rattle.fs_reading.specs.Histories.{stands}
use Rattle.fs_reading.proofs.undo_log.read_undo_log_at.Goals as goal

pub lines_at-requires-clause-texts : goal.lines_at-requires-clause-texts
lines_at-requires-clause-texts g c = λ told.
    let bytes : List ℕ = main_bytes (g.V.Volume.state c.args.volume.now).log in
    let file = c.requires told in
    subst (λ (ps : List Place). AllByRecursion (λ p. HasTexts bytes p.at) ps) (sym file.are) (all_have_texts bytes file.reached.starts file.reached.list (stands bytes file.reached file.begins).transactions)

pub returns-clause-lines : goal.returns-clause-lines
returns-clause-lines g c = λ told reached begins are.
    let bytes : List ℕ = main_bytes (g.V.Volume.state c.args.volume.now).log in
    let said = ap (λ (ps : List Place). filter_map (log_line_at bytes) ps) are ∙ undo_lines bytes reached.starts reached.list (stands bytes reached begins).transactions in
    subst (λ (l : List LogLine). IfOk c.lines_at.result (λ lines. lines ≡ reverse l)) said (c.lines_at.ensures.lines told)
