use Rattle.std.proofs.Common.{◌≡◌, ℕ, List, filter, take, ap, sym, subst, ◌∙◌}
use Rattle.std.specs.Prelude.{reverse, IfOk}
use Rattle.std.specs.List.{AllByRecursion, filter_map}
use Rattle.zb_model.specs.declared.lists.LogLine.{LogLine}
use Rattle.zb_model.specs.Lists.{is_before}
use Rattle.fs_index.specs.declared.place.Place.{Place}
use Rattle.fs_index.specs.Places.{is_place_below}
use Rattle.zb_volume.specs.Disk.{main_bytes}
use Rattle.fs_reading.specs.Standing.{HasTexts, log_line_at}
use Rattle.fs_reading.specs.TransactionsStand.{all_have_texts, undo_lines}
use Rattle.fs_reading.specs.Histories.{stands}
use Rattle.fs_reading.proofs.Below.{below_stand}
use Rattle.fs_reading.proofs.undo_log.read_undo_log_before.Goals as goal

pub lines_before-requires-clause-texts : goal.lines_before-requires-clause-texts
lines_before-requires-clause-texts g c = λ told.
    let bytes : List ℕ = main_bytes (g.V.Volume.state c.args.volume.now).log in
    let file = c.requires.starts told in
    let before : List Place → List Place = λ ps. filter (is_place_below c.args.below) ps in
    let kept = below_stand c.args.below bytes file.reached.starts file.reached.list (stands bytes file.reached file.begins).transactions in
    subst (λ (ps : List Place). AllByRecursion (λ p. HasTexts bytes p.at) ps) (sym (c.split_at.ensures.front ∙ c.count_below.ensures.first ∙ ap before file.are))
    (all_have_texts bytes (before file.reached.starts) (filter (is_before c.args.below) file.reached.list) kept)

pub returns-clause-lines : goal.returns-clause-lines
returns-clause-lines g c = λ told reached begins are.
    let bytes : List ℕ = main_bytes (g.V.Volume.state c.args.volume.now).log in
    let before : List Place → List Place = λ ps. filter (is_place_below c.args.below) ps in
    let kept = below_stand c.args.below bytes reached.starts reached.list (stands bytes reached begins).transactions in
    let said = ap (λ (ps : List Place). filter_map (log_line_at bytes) ps) (c.split_at.ensures.front ∙ c.count_below.ensures.first ∙ ap before are) ∙ undo_lines bytes (before reached.starts) (filter (is_before c.args.below) reached.list) kept in
    subst (λ (l : List LogLine). IfOk c.lines_before.result (λ lines. lines ≡ take c.args.count (reverse l))) said (c.lines_before.ensures.lines told)
