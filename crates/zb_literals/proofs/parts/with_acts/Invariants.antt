use Rattle.std.proofs.Common.{◌≡◌, ◌++◌, drop}
use Rattle.zb_literals.specs.Printing.{act_marks}
use Rattle.zb_literals.proofs.parts.with_acts.Given as goal

abbrev pub invariant-loop-act : goal.invariant-loop-act
invariant-loop-act l = l.parts.items ++ act_marks (drop l.act-index l.acts) ≡ l.fn.parts.items ++ act_marks l.acts
