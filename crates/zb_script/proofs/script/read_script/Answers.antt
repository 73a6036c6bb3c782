use Rattle.std.proofs.Common.{◌≡◌, ℕ, List, [], Result, Ok, Err, refl, subst, inl, inr}
use Rattle.std.specs.Prelude.{IfOk, IsOkUnless, ◌⊎◌}
use Rattle.std.specs.List.{AllByRecursion}
use Rattle.zb_script.specs.declared.errors.ScriptError.{ScriptError}
use Rattle.zb_script.specs.declared.errors.ScriptError.TheVariants as errors
use Rattle.zb_script.specs.declared.line.Turn.{Turn}
use Rattle.zb_script.specs.Lines.{pieces}
use Rattle.zb_script.specs.Reading.{turns_at}
use Rattle.zb_script.specs.Script.{IsScript}
use Rattle.zb_script.specs.Spelling.{IsTurn}
use Rattle.zb_script.specs.Turns.{GivesTurns}
use Rattle.zb_script.proofs.LineLaws.{turns_are}
use Rattle.zb_script.proofs.FieldLaws.{Exact}
use Rattle.zb_script.proofs.ScriptLaws.{script_found, script_read, bad_found, bad_read}
use Rattle.zb_script.proofs.script.read_script.Goals as goal

is_found : Exact → (bytes : List ℕ) (r : Result (List Turn) ScriptError) → GivesTurns r (turns_at [] (pieces bytes)) → IfOk r (λ turns. IsScript bytes turns)
is_found exact bytes (Ok turns) given = script_found exact bytes turns given
is_found exact bytes (Err e) given = tt

pub returns-in-None-clause-found : goal.returns-in-None-clause-found
returns-in-None-clause-found c =
    is_found (record { spelled = c.literals_are_exact.ensures.spelled; literal = c.literals_are_exact.ensures.literal }) c.args.bytes.now c.turns_of.result c.turns_of.ensures.given

is_only : (r : Result (List Turn) ScriptError) (turns : List Turn) → GivesTurns r (Ok turns) → IsOkUnless r errors.Memory
is_only (Ok read) turns given = tt
is_only (Err errors.Memory) turns given = refl
is_only (Err (errors.Limit l)) turns given = absurd given
is_only (Err (errors.BadLine n)) turns given = absurd cc

pub returns-in-None-clause-only : goal.returns-in-None-clause-only
returns-in-None-clause-only c turns h within =
    let exact : Exact = record { spelled = c.literals_are_exact.ensures.spelled; literal = c.literals_are_exact.ensures.literal } in
    is_only c.turns_of.result turns (subst (GivesTurns c.turns_of.result) (script_read exact c.args.bytes.now turns h) c.turns_of.ensures.given)

pub returns-in-None-clause-bad : goal.returns-in-None-clause-bad
returns-in-None-clause-bad c n e =
    let exact : Exact = record { spelled = c.literals_are_exact.ensures.spelled; literal = c.literals_are_exact.ensures.literal } in
    bad_found exact c.args.bytes.now n (subst (λ (r : Result (List Turn) ScriptError). GivesTurns r (turns_at [] (pieces c.args.bytes.now))) e c.turns_of.ensures.given)

is_bad : (r : Result (List Turn) ScriptError) (n : ℕ) → GivesTurns r (Err n) → (r ≡ Err (errors.BadLine n)) ⊎ (r ≡ Err errors.Memory)
is_bad (Ok turns) n given = absurd cc
is_bad (Err errors.Memory) n given = inr refl
is_bad (Err (errors.Limit l)) n given = absurd given
is_bad (Err (errors.BadLine m)) n given = inl cc

pub returns-in-None-clause-only_bad : goal.returns-in-None-clause-only_bad
returns-in-None-clause-only_bad c n h within =
    let exact : Exact = record { spelled = c.literals_are_exact.ensures.spelled; literal = c.literals_are_exact.ensures.literal } in
    is_bad c.turns_of.result n (subst (GivesTurns c.turns_of.result) (bad_read exact c.args.bytes.now n h) c.turns_of.ensures.given)

are_turns : Exact → (bytes : List ℕ) (r : Result (List Turn) ScriptError) → GivesTurns r (turns_at [] (pieces bytes)) → IfOk r (λ turns. AllByRecursion IsTurn turns)
are_turns exact bytes (Ok turns) given = let h = script_found exact bytes turns given in turns_are h.texts turns h.each
are_turns exact bytes (Err e) given = tt

pub returns-in-None-clause-each : goal.returns-in-None-clause-each
returns-in-None-clause-each c =
    are_turns (record { spelled = c.literals_are_exact.ensures.spelled; literal = c.literals_are_exact.ensures.literal }) c.args.bytes.now c.turns_of.result c.turns_of.ensures.given
