-- What was moved so far, and the rest moved, are all moved.
use Rattle.std.proofs.Common.{◌≡◌, ◌++◌, map, drop}
use Rattle.bucket_state.specs.Written.{shifted_act}
use Rattle.bucket_state.proofs.laying.moved_acts.Given as goal

abbrev pub invariant-loop-act : goal.invariant-loop-act
invariant-loop-act l = l.moved.items ++ map (shifted_act l.by) (drop l.act-index l.acts) ≡ map (shifted_act l.by) l.acts
