use Rattle.std.proofs.Common.{rules, refl}
use Rattle.std.specs.Io.KnownBytes.{Appends}
use Rattle.zb_outside.specs.Written.{AppendsPrefix}
use Rattle.zb_outside.specs.WrittenLaws.{no_front}
use Rattle.zb_answers.specs.Answers.{reply_lines}
use Rattle.script_runs.proofs.Replies.{replied, unanswered}
use Rattle.script_runs.proofs.replying.reply.Goals as goal

pub returns-in-Err-clause-err : goal.returns-in-Err-clause-err
returns-in-Err-clause-err g c = λ told m stands.
    unanswered m c.args.turn.now c.args.is_last c.take_turn.result c.in-Err.why (g.K.Sink.taken c.args.sink.now) c.take_turn.new.self (g.C.Clock.stamps c.take_turn.new.clock) (c.take_turn.ensures.turn told m stands) c.in-Err.is

pub returns-in_default-clause-err : goal.returns-in_default-clause-err
returns-in_default-clause-err g c = λ told m stands.
    let taken = g.K.Sink.taken c.args.sink.now in
    replied (AppendsPrefix taken taken) m c.args.turn.now c.args.is_last c.take_turn.result c.in-Ok.answer (reply_lines c.args.turn.now.client c.in-Ok.answer) c.take_turn.new.self (g.C.Clock.stamps c.take_turn.new.clock)
    (c.take_turn.ensures.turn told m stands) c.in-Ok.is refl (no_front taken _)

pub returns-in-Ok-write_lines-clause-ok : goal.returns-in-Ok-write_lines-clause-ok
returns-in-Ok-write_lines-clause-ok g c = λ told m stands.
    replied (Appends (g.K.Sink.taken c.args.sink.now) (g.K.Sink.taken c.write_lines.new.sink)) m c.args.turn.now c.args.is_last c.take_turn.result c.in-Ok.answer c.as_slice.result.now c.take_turn.new.self (g.C.Clock.stamps c.take_turn.new.clock)
    (c.take_turn.ensures.turn told m stands) c.in-Ok.is (search rules) c.in-Ok-write_lines.ensures.ok

pub returns-clause-err : goal.returns-clause-err
returns-clause-err g c = λ told m stands.
    replied (AppendsPrefix (g.K.Sink.taken c.args.sink.now) (g.K.Sink.taken c.write_lines.new.sink)) m c.args.turn.now c.args.is_last c.take_turn.result c.in-Ok.answer c.as_slice.result.now c.take_turn.new.self (g.C.Clock.stamps c.take_turn.new.clock)
    (c.take_turn.ensures.turn told m stands) c.in-Ok.is (search rules) c.in-Err-write_lines.ensures.err
