use Rattle.std.proofs.Common.{inl, inr}
use Rattle.zodb_top.proofs.Sources.{turns_fit}
use Rattle.zodb_top.proofs.script.turns_of.Goals as goal

pub returns-in-Ok-clause-fitting : goal.returns-in-Ok-clause-fitting
returns-in-Ok-clause-fitting g c = turns_fit c.in-Ok.turns c.in-Ok.ensures.each

pub returns-in-Ok-clause-bad : goal.returns-in-Ok-clause-bad
returns-in-Ok-clause-bad g c = λ n within bad. elim (c.in-Ok.ensures.only_bad n bad within) [ inl e ↦ absurd cc | inr e ↦ absurd cc ]

pub returns-in-Err-BadLine-clause-complete : goal.returns-in-Err-BadLine-clause-complete
returns-in-Err-BadLine-clause-complete g c = λ turns input. let h = c.in-Err-BadLine.ensures.only turns input.1 input.0 in absurd cc
