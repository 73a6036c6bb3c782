use Rattle.script_runs.specs.PrefixLaws.{text_err, text_ok}
use Rattle.script_runs.proofs.saying.write_behind.Goals as goal

pub returns-clause-ok : goal.returns-clause-ok
returns-clause-ok g c =
    text_ok c.write_all.result (g.K.Sink.taken c.args.sink.now) (g.K.Sink.taken c.write_lines.new.sink) (g.K.Sink.taken c.write_all.new.sink) c.args.lines.now c.args.last.now c.in_ok-write_lines.ensures.ok c.write_all.ensures.ok

pub returns-clause-err : goal.returns-clause-err
returns-clause-err g c =
    text_err c.write_all.result (g.K.Sink.taken c.args.sink.now) (g.K.Sink.taken c.write_lines.new.sink) (g.K.Sink.taken c.write_all.new.sink) c.args.lines.now c.args.last.now c.in_ok-write_lines.ensures.ok c.write_all.ensures.err
