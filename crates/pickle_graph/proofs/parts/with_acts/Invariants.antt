use Rattle.std.proofs.Common.{◌≡◌, ◌++◌, drop}
use Rattle.pickle_graph.specs.Parts.{act_parts}
use Rattle.pickle_graph.proofs.parts.with_acts.Given as goal

abbrev pub invariant-loop-act : goal.invariant-loop-act
invariant-loop-act l = l.all.items ++ act_parts (drop l.act-index l.acts) ≡ l.fn.parts ++ act_parts l.fn.acts
