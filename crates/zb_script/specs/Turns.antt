-- What the reader of a script returns.
use Rattle.std.specs.Prelude.{◌≡◌, ℕ, List, Result, Ok, Err}
use Rattle.zb_script.specs.declared.errors.ScriptError.{ScriptError}
use Rattle.zb_script.specs.declared.errors.ScriptError.TheVariants as errors
use Rattle.zb_script.specs.declared.line.Turn.{Turn}

-- What a function returned is what reading gives, unless memory ran out. A limit isn't its affair.
abbrev pub GivesTurns : Result (List Turn) ScriptError → Result (List Turn) ℕ → Type 0
GivesTurns (Ok turns) read = read ≡ Ok turns
GivesTurns (Err errors.Memory) read = Unit {0}
GivesTurns (Err (errors.Limit l)) read = ⊥
GivesTurns (Err (errors.BadLine number)) read = read ≡ Err number
