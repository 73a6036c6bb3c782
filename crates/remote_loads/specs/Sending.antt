-- What messages are sent for a reply. From: ZEO.
use Rattle.std.specs.Prelude.{ℕ, List, [], ◌∷◌, ◌++◌, map}
use Rattle.std.specs.List.{AllByRecursion}
use Rattle.zodb_core.specs.declared.reply.Reply.{Reply}
use Rattle.zodb_core.specs.declared.reply.Reply.TheVariants as replies
use Rattle.zeo_messages.specs.declared.message.Message.{Message}
use Rattle.zeo_messages.specs.declared.message.Message.TheVariants.{Answered, Told}
use Rattle.zeo_messages.specs.declared.message.Notice.{Notice}
use Rattle.zeo_messages.specs.Answers.{HoldsAnswer}
use Rattle.zeo_messages.specs.Messages.{HoldsNotice}
use Rattle.zeo_news.specs.Notices.{notices_of}
use Rattle.zeo_desk.specs.declared.asked.Asked.{Asked}
use Rattle.zeo_desk.specs.Answering.{answer_to, reply_answer, sent_answer}

-- the notices of the news of a front
abbrev pub notices_before : Reply → List Notice
notices_before (replies.Front front news switches) = notices_of front news
notices_before _ = []

-- the notices, and behind them the answer
abbrev pub messages_of : ℕ → Asked → Reply → List Message
messages_of number a reply = map (λ notice. Told notice) (notices_before reply) ++ Answered number (sent_answer a (answer_to a reply)) ∷ []

-- the numbers of a reply, and of the length that is told of it where its answer is too long, are those that their types can hold, so that they are spelled as they
-- are wherever the reply is told
pub record HoldsReply (r : Reply) : Type 0 where
  pub answer : (a : Asked) → HoldsAnswer (sent_answer a (reply_answer a r))
  pub notices : AllByRecursion HoldsNotice (notices_before r)
