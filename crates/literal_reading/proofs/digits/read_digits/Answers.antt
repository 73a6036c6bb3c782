use Rattle.std.proofs.Common.{◌≡◌, ◌%◌, ◌∙◌, arith, sym, ap, subst, take, drop, length, List, ℕ, Some}
use Rattle.zb_ids.specs.Hex.{bytes_at}
use Rattle.zb_ids.specs.HexLaws.{behind_prefix, odd_refused}
use Rattle.literal_reading.specs.Reading.{RefusesLiteral}
use Rattle.literal_reading.proofs.Pieces.{piece_read, piece_refused}
use Rattle.literal_reading.proofs.digits.read_digits.Goals as goal

pub returns-then-text-ne0 : goal.returns-then-text-ne0
returns-then-text-ne0 c = odd_refused c.args.text.now c.if-text-ne0.true

pub returns-in-Err : goal.returns-in-Err
returns-in-Err c =
    let front = c.split_at.ensures.front in
    let even : length (take 64 c.loop-rest.rest.now) % 2 ≡ 0 = rw (← front) (omega (arith, c.split_at.ensures.front_len)) in
    piece_refused c.in-Err.error c.loop-rest.rest.now c.loop-rest.bytes.items 64 _ even c.loop-rest.invariant.0
    (subst (λ (x : List ℕ). RefusesLiteral c.in-Err.error (behind_prefix c.loop-rest.bytes.items (bytes_at x))) front c.in-Err.ensures)

pub loop-rest-preserved : goal.loop-rest-preserved
loop-rest-preserved c =
    let front = c.split_at.ensures.front in
    let back = c.split_at.ensures.back in
    let even : length (take 64 c.loop-rest.rest.now) % 2 ≡ 0 = rw (← front) (omega (arith, c.split_at.ensures.front_len)) in (
      rw back (piece_read c.loop-rest.rest.now c.loop-rest.bytes.items c.push_piece.new.bytes.items 64 _ even c.loop-rest.invariant.0
          (subst (λ (x : List ℕ). behind_prefix c.loop-rest.bytes.items (bytes_at x) ≡ Some c.push_piece.new.bytes.items) front c.in-Ok.ensures)),
      omega (arith, c.split_at.ensures.back_len, c.loop-rest.invariant.1, c.loop-rest-test.true),
    )
