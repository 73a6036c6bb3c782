use Rattle.std.proofs.Common.{subst, sym}
use Rattle.std.specs.Prelude.{ℕ, ◌≡◌, List, None}
use Rattle.std.specs.Option.{option_and_then}
use Rattle.zb_ids.specs.Hex.{number_at}
use Rattle.program_words.specs.Words.{object_command}
use Rattle.program_words.proofs.Digits.{no_digits}
use Rattle.program_words.proofs.command.digits_command.Goals as goal

pub returns-in-Err : goal.returns-in-Err
returns-in-Err c =
    subst (λ (x : List ℕ). None ≡ option_and_then (object_command c.args.word.now) (number_at x)) c.as_bytes.ensures.value
    (sym (no_digits c.args.word.now c.as_bytes.result.now c.read_hex.result c.in-Err.field-0 c.in-Err.is c.read_hex.ensures.only))
