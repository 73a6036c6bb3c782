use Rattle.std.proofs.Common.{◌≡◌, ◌++◌}
use Rattle.std.specs.Vec.Iter.{into_iter_items}
use Rattle.script_runs.proofs.playing.push_lines.Given as goal

-- the lines by now with those that are left are all
abbrev pub invariant-loop-line : goal.invariant-loop-line
invariant-loop-line l = l.lines ++ into_iter_items l.line-iterator ≡ l.fn.lines ++ l.fn.more
