use Rattle.std.proofs.Common.{refl}
use Rattle.zeo_session.proofs.Steps.{message_answered, message_begun}
use Rattle.zeo_session.proofs.answering.serve_message.Goals as goal

pub returns-in_default-clause-taken : goal.returns-in_default-clause-taken
returns-in_default-clause-taken g c s knows = message_begun _ _ _ _ s _ _ _ _ _ _ _ _ _ c.in-Ok.ensures.ok c.in_default.is (c.carry_out-now.ensures s knows) refl

pub returns-clause-taken : goal.returns-clause-taken
returns-clause-taken g c s knows =
    message_answered _ _ _ _ s _ _ _ _ _ _ _ _ _ _ _ c.in-Ok.ensures.ok c.in-Ok-frames.is (c.carry_out-now.ensures s knows) c.as_slice.ensures c.send_answer-sent.ensures.ok c.send_answer-sent.ensures.err
