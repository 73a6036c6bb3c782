-- How a reply to a pack is told.
use Rattle.zb_model.specs.declared.refusal.Refusal.TheVariants as refusal
use Rattle.zb_answers.specs.declared.answer.Answer.TheVariants as answer
use Rattle.zodb_core.specs.declared.reply.Reply.{Reply}
use Rattle.zodb_core.specs.declared.reply.Reply.TheVariants as reply
use Rattle.zodb_top.specs.declared.packing.Told.{Told}
use Rattle.zodb_top.specs.declared.packing.Told.TheVariants as told

abbrev pub told_of : Reply → Told
told_of (reply.Packed kept dropped) = told.Line (answer.Packed kept dropped)
told_of (reply.Refused refusal.StoreFault) = told.StoreFault
told_of (reply.Refused refusal.ReadFault) = told.ReadFault
told_of (reply.Refused refusal.Memory) = told.Nothing
told_of (reply.Refused why) = told.Line (answer.Refused why)
told_of _ = told.Nothing
