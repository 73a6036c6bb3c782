-- What is read of one line.
use Rattle.std.proofs.Common.{◌≡◌, List, ℕ, Option, Some, None, Result, Ok, Err, sym, ap, subst, ◌∙◌, inl, ◌⊎◌}
use Rattle.zb_script.specs.declared.errors.ReadError.{ReadError}
use Rattle.zb_script.specs.declared.errors.ReadError.TheVariants as errors
use Rattle.zb_script.specs.declared.errors.ScriptError.{ScriptError}
use Rattle.zb_script.specs.declared.errors.ScriptError.TheVariants as script_errors
use Rattle.zb_script.specs.declared.line.Line.{Line}
use Rattle.zb_script.specs.Reading.{RefusesToRead, line_at}
use Rattle.zb_script.specs.Spelling.{IsLine}
use Rattle.zb_script.proofs.FieldLaws.{Exact}
use Rattle.zb_script.proofs.LineLaws.{line_again, line_is, line_takes}
use Rattle.zb_script.proofs.script.read_line.Goals as goal

same_line : (a b : Line) → Some a ≡ Some b → a ≡ b
same_line a b e = cc

bad_none : (e : ReadError) (read : Option Line) → e ≡ errors.Bad → RefusesToRead e read → read ≡ None
bad_none errors.Bad read is failed = failed
bad_none errors.Memory read is failed = absurd cc

read_so : (x y : Line) (o : Option Line) → o ≡ Some x → o ≡ Some y → (let r : Result Line ScriptError = Ok x in r) ≡ Ok y
read_so x y o one two = ap (λ (l : Line). let r : Result Line ScriptError = Ok l in r) (same_line x y (sym one ∙ two))

never_read : (P : Type 0) (y : Line) (o : Option Line) → o ≡ None → o ≡ Some y → P
never_read P y o none some = absurd cc

pub returns-in-Ok-clause-found : goal.returns-in-Ok-clause-found
returns-in-Ok-clause-found c =
    line_takes (record { spelled = c.literals_are_exact.ensures.spelled; literal = c.literals_are_exact.ensures.literal }) c.args.text.now c.in-Ok.line c.in-Ok.ensures

pub returns-in-Ok-clause-only : goal.returns-in-Ok-clause-only
returns-in-Ok-clause-only c line h =
    inl (read_so c.in-Ok.line line (line_at c.args.text.now) c.in-Ok.ensures
    (line_again (record { spelled = c.literals_are_exact.ensures.spelled; literal = c.literals_are_exact.ensures.literal }) c.args.text.now line h))

pub returns-in-Ok-clause-fields : goal.returns-in-Ok-clause-fields
returns-in-Ok-clause-fields c =
    line_is c.in-Ok.line c.args.text.now
    (line_takes (record { spelled = c.literals_are_exact.ensures.spelled; literal = c.literals_are_exact.ensures.literal }) c.args.text.now c.in-Ok.line c.in-Ok.ensures)

pub returns-in-Err-Bad-clause-only : goal.returns-in-Err-Bad-clause-only
returns-in-Err-Bad-clause-only c line h =
    never_read _ line (line_at c.args.text.now) (bad_none c.in-Err-Bad.field-0 (line_at c.args.text.now) c.in-Err-Bad.field-0-is c.in-Err-Bad.ensures)
    (line_again (record { spelled = c.literals_are_exact.ensures.spelled; literal = c.literals_are_exact.ensures.literal }) c.args.text.now line h)
