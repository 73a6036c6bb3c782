use Rattle.std.proofs.Common.{rules, ◌<◌, ◌≡◌, get_or, length}
use Rattle.script_runs.proofs.Written.{prefix_lines}
use Rattle.script_runs.proofs.saying.write_lines.Goals as goal

pub returns-in_err-write_line-clause-err : goal.returns-in_err-write_line-clause-err
returns-in_err-write_line-clause-err g c =
    let within : c.loop-line.line-index < length c.args.lines.now = search rules in
    let is : c.line-item.result ≡ get_or c.args.lines.now c.loop-line.line-index c.line-item.result = search rules in
    let front = prefix_lines (g.K.Sink.taken c.args.sink.now) (g.K.Sink.taken c.loop-line.sink) (g.K.Sink.taken c.write_line.new.sink) c.args.lines.now c.loop-line.line-index c.line-item.result within is c.loop-line.invariant.so_far c.in_err-write_line.ensures.err in
    search (rules, front)
