use Rattle.std.proofs.Common.{sym, ◌∙◌, ap, List, ℕ}
use Rattle.std.proofs.lemmas.Result.{err_from_is_err_and}
use Rattle.literal_reading.specs.Reading.{characters_at}
use Rattle.literal_reading.proofs.Loops.{text_end, text_none, text_more, text_shorter, fails_on}
use Rattle.literal_reading.proofs.characters.characters_of.Goals as goal

pub returns-in-Some : goal.returns-in-Some
returns-in-Some c = sym c.pieces.invariant ∙ text_end c.pieces.text c.pieces.rest.now c.in-Some.end.now (sym c.in-Some.ensures)

pub returns-in_err-c : goal.returns-in_err-c
returns-in_err-c c =
    let p = err_from_is_err_and c.from_residual.result c.from_residual.ensures.1 in
    rw (p.1, p.2) (fails_on c.in_err-c.field-0.0 _ _ (λ none. sym c.pieces.invariant ∙ text_none c.pieces.text c.pieces.rest.now (sym c.in_default.ensures) none) c.in_err-c.ensures)

pub pieces-smaller : goal.pieces-smaller
pieces-smaller c = text_shorter c.pieces.rest.now c.in_ok-c.next.now c.in_ok-c.c c.in_ok-c.ensures

pub pieces-preserved : goal.pieces-preserved
pieces-preserved c =
    ap (λ (x : List ℕ). characters_at x c.in_ok-c.next.now) c.in_ok-text.ensures
    ∙ text_more c.pieces.text c.pieces.rest.now c.in_ok-c.next.now c.in_ok-c.c (sym c.in_default.ensures) c.in_ok-c.ensures ∙ c.pieces.invariant
