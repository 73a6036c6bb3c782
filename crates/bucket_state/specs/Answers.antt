-- Answers of reading states.
use Rattle.std.specs.Prelude.{Option, Some, None, Result, Ok, Err, ◌≡◌}
use Rattle.pickle_writing.specs.declared.error.WriteError.{WriteError}
use Rattle.pickle_writing.specs.declared.error.WriteError.TheVariants as writing
use Rattle.bucket_state.specs.declared.error.StateError.{StateError}
use Rattle.bucket_state.specs.declared.error.StateError.TheVariants.{BadState, Memory}

-- what is too deep to write stands in no state
abbrev pub state_error : WriteError → StateError
state_error writing.TooDeep = BadState
state_error writing.Memory = Memory

-- the answer is what is found, and BadState exactly where nothing is; memory is free to run out
abbrev pub AnswersFound : {X : Type 0} → Result X StateError → Option X → Type 0
AnswersFound (Ok x) found = found ≡ Some x
AnswersFound (Err BadState) found = found ≡ None
AnswersFound (Err Memory) found = Unit {0}
