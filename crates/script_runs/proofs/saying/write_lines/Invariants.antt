use Rattle.std.proofs.Common.{◌≤◌, drop}
use Rattle.zb_outside.specs.Written.{AppendsBefore}
use Rattle.script_runs.specs.Texts.{joined}
use Rattle.script_runs.proofs.saying.write_lines.Given as goal

abbrev pub invariant-loop-line : goal.invariant-loop-line
invariant-loop-line g l =
    let K = g.K.Sink in
    record {
      so_far : AppendsBefore (K.taken l.fn.sink) (K.taken l.sink) (joined l.lines) (joined (drop l.line-index l.lines));
      counted : K.faults l.fn.sink ≤ K.faults l.sink;
    }
