use Rattle.std.proofs.Common.{sym, ◌∙◌, ap, List, ℕ}
use Rattle.std.proofs.lemmas.Result.{err_from_is_err_and}
use Rattle.literal_reading.specs.Reading.{name_bytes_at}
use Rattle.literal_reading.proofs.Loops.{name_end, name_none, name_more, name_shorter, fails_on}
use Rattle.literal_reading.proofs.characters.name_of.Goals as goal

pub returns-in-Some : goal.returns-in-Some
returns-in-Some c = sym c.pieces.invariant ∙ name_end c.args.stop c.pieces.text c.pieces.rest.now c.in-Some.end.now (sym c.in-Some.ensures)

pub returns-in_err-byte : goal.returns-in_err-byte
returns-in_err-byte c =
    let p = err_from_is_err_and c.from_residual.result c.from_residual.ensures.1 in
    rw (p.1, p.2) (fails_on c.in_err-byte.field-0.0 _ _ (λ none. sym c.pieces.invariant ∙ name_none c.args.stop c.pieces.text c.pieces.rest.now (sym c.in_default.ensures) none) c.in_err-byte.ensures)

pub pieces-smaller : goal.pieces-smaller
pieces-smaller c = name_shorter c.pieces.rest.now c.in_ok-byte.next.now c.in_ok-byte.byte c.in_ok-byte.ensures

pub pieces-preserved : goal.pieces-preserved
pieces-preserved c =
    ap (λ (x : List ℕ). name_bytes_at c.args.stop x c.in_ok-byte.next.now) c.in_ok-push.ensures.ok
    ∙ name_more c.args.stop c.pieces.text c.pieces.rest.now c.in_ok-byte.next.now c.in_ok-byte.byte (sym c.in_default.ensures) c.in_ok-byte.ensures ∙ c.pieces.invariant
