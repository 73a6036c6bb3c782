use Rattle.script_runs.proofs.running.take_over_store.Goals as goal

pub returns-in-InTurn-clause-outcome : goal.returns-in-InTurn-clause-outcome
returns-in-InTurn-clause-outcome g c = rw c.in-InTurn.is c.run_over_store.ensures.outcome

pub returns-in-SideBySide-clause-outcome : goal.returns-in-SideBySide-clause-outcome
returns-in-SideBySide-clause-outcome g c = rw c.in-SideBySide.is c.play_over_store.ensures.outcome
