-- Which replies can be told: the numbers in them are those that their types can hold, and their lists are no longer than a message can say. Own.
use Rattle.std.specs.Prelude.{ℕ, ◌<◌, ◌^◌, length}
use Rattle.std.specs.List.{AllByRecursion}
use Rattle.zb_model.specs.declared.news.NewsCommit.{NewsCommit}
use Rattle.zb_model.specs.declared.refusal.Refusal.{Refusal}
use Rattle.zb_model.specs.declared.refusal.Refusal.TheVariants as refusals
use Rattle.zb_model.specs.declared.refusal.Why.{Why}
use Rattle.zb_model.specs.declared.refusal.Why.TheVariants as why
use Rattle.zodb_core.specs.declared.reply.Reply.{Reply}
use Rattle.zodb_core.specs.declared.reply.Reply.TheVariants as reply
use Rattle.zeo_messages.specs.Answers.{HoldsCommit, HoldsLine, HoldsRefusal, HoldsRevision, IsMaybeId, IsSmall}
use Rattle.zeo_values.specs.Values.{IsId}

-- the numbers of a reply
abbrev pub HasNumbers : Reply → Type 0
HasNumbers (reply.Front front news switches) = IsId front × IsId switches × AllByRecursion HoldsCommit news.commits
HasNumbers (reply.Loaded serial bytes end upto) = IsId serial × IsMaybeId end × IsId upto
HasNumbers (reply.Nothing oid switches) = IsId switches
HasNumbers (reply.Oids first count) = IsSmall count
HasNumbers (reply.Committed tid) = IsId tid
HasNumbers (reply.History list) = AllByRecursion HoldsRevision list
HasNumbers (reply.UndoLog list) = AllByRecursion HoldsLine list
HasNumbers (reply.Packed kept dropped) = IsId kept × IsId dropped
HasNumbers (reply.Packing tid) = IsId tid
HasNumbers (reply.Marking count) = IsId count
HasNumbers (reply.Marked count) = IsId count
HasNumbers (reply.Copying count) = IsId count
HasNumbers (reply.Copied count) = IsId count
HasNumbers (reply.Last tid changes) = IsId tid × IsId changes
HasNumbers (reply.Since keep commits) = AllByRecursion HoldsCommit commits
HasNumbers (reply.Refused refusal) = HoldsRefusal refusal
HasNumbers _ = Unit {0}

-- a length that is far below what a number of 64 bits can say
abbrev pub IsFewer : ℕ → Type 0
IsFewer count = count < 2 ^ 40

abbrev pub IsShortCommit : NewsCommit → Type 0
IsShortCommit c = IsFewer (length c.oids)

abbrev pub IsShortWhy : Why → Type 0
IsShortWhy (why.Key spelling) = IsFewer (length spelling)
IsShortWhy _ = Unit {0}

abbrev pub IsShortRefusal : Refusal → Type 0
IsShortRefusal (refusals.Conflict oid base current reason) = IsShortWhy reason
IsShortRefusal _ = Unit {0}

-- the lists of a reply are short
abbrev pub IsShortReply : Reply → Type 0
IsShortReply (reply.Loaded serial bytes end upto) = IsFewer (length bytes)
IsShortReply (reply.History list) = IsFewer (length list)
IsShortReply (reply.UndoLog list) = IsFewer (length list)
IsShortReply (reply.Since keep commits) = (length commits < 2 ^ 16) × AllByRecursion IsShortCommit commits
IsShortReply (reply.Refused refusal) = IsShortRefusal refusal
IsShortReply _ = Unit {0}
