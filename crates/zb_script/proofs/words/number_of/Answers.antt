use Rattle.std.proofs.Common.{◌≡◌, ℕ, ◌^◌, ◌<◌, List, Option, Some, None, Ok, Err, refl, rules}
use Rattle.zb_ids.specs.Hex.{hex_number, number_at}
use Rattle.zb_ids.specs.HexLaws.{number_takes, number_again}
use Rattle.zb_script.proofs.words.number_of.Goals as goal

pub returns-in-Ok : goal.returns-in-Ok
returns-in-Ok c = rw c.in-Ok.ensures.found (number_again c.in-Ok.number (search rules))

none_spelled : {E : Type 0} (text : List ℕ) (e : E) → ((n : ℕ) → n < 2 ^ 64 → text ≡ hex_number n → Err e ≡ Ok n) → number_at text ≡ None
none_spelled {E} text e only = by_cases (number_at text) refl
  where
    by_cases : (read : Option ℕ) → number_at text ≡ read → read ≡ None
    by_cases None is = refl
    by_cases (Some n) is = let taken = number_takes text n is in let never = only n taken.0 taken.1 in absurd cc

pub returns-in-Err : goal.returns-in-Err
returns-in-Err c = none_spelled c.args.text.now c.in-Err.field-0 c.in-Err.ensures.only
