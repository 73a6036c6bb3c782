use Rattle.std.proofs.Common.{◌≡◌, ◌++◌, drop}
use Rattle.std.specs.List.{concat}
use Rattle.hub_carrier.proofs.serving.put_frames.Given as goal

abbrev pub invariant-loop-frame : goal.invariant-loop-frame
invariant-loop-frame l = l.text.items ++ concat (drop l.frame-index l.frames) ≡ l.fn.text.items ++ concat l.frames
