-- Laws of histories.
use Rattle.std.proofs.Common.{◌≡◌, ℕ, List, [], ◌∷◌, ◌++◌, sym, ◌∙◌}
use Rattle.zodb_core.specs.declared.request.Request.{Request}
use Rattle.zodb_core.specs.History.{Entry, IsLegal, PrefixesAreLegal, RepliesAreOne, counts_behind, machine_behind}
use Rattle.zodb_core.specs.Machine.{Machine, Rules}
use Rattle.zodb_core.specs.Outcomes.{Answered, EndsFor, FaultCounts, NoMemory, StepOutcome, ReadingFailed, StoreFailed, outcome_of}
use Rattle.zodb_core.specs.Steps.{Stepped, step_of}

legal_prefix : (rules : Rules) (m : Machine) (counts : FaultCounts) (front rest : List Entry) → IsLegal rules m counts (front ++ rest) → IsLegal rules m counts front
legal_prefix rules m counts [] rest legal = tt
legal_prefix rules m counts (e ∷ front) rest legal = (legal.0, legal_prefix rules (machine_behind rules m e) (counts_behind counts e) front rest legal.1)

pub prefixes : PrefixesAreLegal
prefixes rules m counts front rest legal = legal_prefix rules m counts front rest legal

by_outcome : (rules : Rules) (m : Machine) (n : ℕ) (q : Request) (stamp : ℕ) (made : Stepped) (a b : FaultCounts) (o : StepOutcome) → o ≡ Answered → EndsFor rules m n q stamp made a b o → made ≡ step_of rules m n q stamp
by_outcome rules m n q stamp made a b Answered is ends = ends
by_outcome rules m n q stamp made a b ReadingFailed is ends = absurd cc
by_outcome rules m n q stamp made a b NoMemory is ends = absurd cc
by_outcome rules m n q stamp made a b StoreFailed is ends = absurd cc

pub one_reply : RepliesAreOne
one_reply rules m n q stamp one other a b c d first second is also =
    by_outcome rules m n q stamp one a b (outcome_of one.reply) is first.cause ∙ sym (by_outcome rules m n q stamp other c d (outcome_of other.reply) also second.cause)
