-- Of the counts of faults behind turns.
use Rattle.std.proofs.Common.{◌≡◌, ℕ, List, Option, None, Result, Ok, Err, sym, ap, ◌∙◌}
use Rattle.std.specs.Prelude.{IfOk}
use Rattle.zb_model.specs.Stores.{StoreState}
use Rattle.zb_answers.specs.declared.answer.Answer.{Answer}
use Rattle.zodb_core.specs.HubState.{counts_of}
use Rattle.client_turns.specs.declared.errors.TurnError.{TurnError}
use Rattle.client_turns.specs.declared.errors.TurnError.TheVariants as turn_error
use Rattle.client_turns.specs.CountLaws.{turn_others}
use Rattle.client_turns.specs.Lines.{IsCountedBy, end_of, outcome_of_turn}
use Rattle.script_runs.specs.declared.replying.RunError.{RunError}
use Rattle.script_runs.specs.declared.replying.RunError.TheVariants as errors
use Rattle.script_runs.specs.declared.status.Status.{Status}
use Rattle.script_runs.specs.declared.status.Status.TheVariants as status
use Rattle.script_runs.specs.Running.{SaysStopped}

-- whatever the store tells
pub answered_others : (old new : StoreState) (r : Result Answer TurnError) (a : Answer) → r ≡ Ok a → IfOk r (λ a. end_of a ≡ None) → IsCountedBy (counts_of old) (counts_of new) (outcome_of_turn r) → new.faults ≡ old.faults
answered_others old new (Ok b) a is whole counts = turn_others (counts_of old) (counts_of new) (Ok b) whole counts (λ never. absurd cc)
answered_others old new (Err e) a is whole counts = absurd cc

abbrev error_of : Result Answer TurnError → TurnError → TurnError
error_of (Ok a) other = other
error_of (Err e) other = e

pub broken_others : (old new : StoreState) (r : Result Answer TurnError) (why : TurnError) → r ≡ Err why → IfOk r (λ a. end_of a ≡ None) → IsCountedBy (counts_of old) (counts_of new) (outcome_of_turn r) → ¬ (errors.Turn why ≡ errors.Turn turn_error.StoreFault)
    → new.faults ≡ old.faults
broken_others old new (Ok a) why is whole counts other = absurd cc
broken_others old new (Err e) why is whole counts other =
    let same : e ≡ why = ap (λ (x : Result Answer TurnError). error_of x turn_error.Memory) is in
    turn_others (counts_of old) (counts_of new) (Err e) whole counts (λ failed. other (ap (λ (x : TurnError). errors.Turn x) (sym same ∙ ap (λ (x : Result Answer TurnError). error_of x turn_error.Memory) failed)))

-- the status of a store fault is told of one alone
pub stopped_other : (e : RunError) (s : Status) (old new : Option (List ℕ)) (before now : ℕ) → SaysStopped e s old new before now → ¬ (s ≡ status.StoreFault) → ¬ (e ≡ errors.Turn turn_error.StoreFault)
stopped_other (errors.Turn turn_error.StoreFault) s old new before now said other = λ is. other said.0
stopped_other (errors.Turn turn_error.Memory) s old new before now said other = λ is. absurd cc
stopped_other errors.Memory s old new before now said other = λ is. absurd cc
stopped_other errors.SinkFault s old new before now said other = λ is. absurd cc
