use Rattle.std.proofs.Common.{◌∙◌}
use Rattle.script_runs.proofs.LastLines.{summed_up}
use Rattle.script_runs.proofs.making.say_last.Goals as goal

pub returns-in-Ok-summary_text-clause-says : goal.returns-in-Ok-summary_text-clause-says
returns-in-Ok-summary_text-clause-says g c =
    let old = g.St.Store.state c.args.store.now in
    let new = g.St.Store.state c.count_list.new.store in
    summed_up c.write_last.result g.St.Store.told c.args.rounds c.args.tally c.in-Ok.totals.transactions c.in-Ok.totals.objects old new (g.K.Sink.taken c.args.sink.now) (g.K.Sink.taken c.write_last.new.sink) (g.K.Sink.faults c.args.sink.now) (g.K.Sink.faults c.write_last.new.sink)
    c.as_slice.result.now c.write_last.ensures.says (c.as_slice.ensures.value ∙ c.in-Ok-summary_text.ensures) c.in-Ok.ensures.transactions c.in-Ok.ensures.objects c.in-Ok.ensures.read.answered
