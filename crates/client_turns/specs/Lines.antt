-- What a line asks of the machine, and what it is answered and leaves. Source: connections and transactions of ZODB.
use Rattle.std.specs.Prelude.{◌≡◌, ℕ, ◌+◌, List, [], ◌∷◌, ◌++◌, length, take, slice_get, Option, Some, None, Result, Ok, Err, Bool, true, false}
use Rattle.std.specs.Option.{option_map, option_map_or}
use Rattle.zb_base.specs.Counts.{Rose}
use Rattle.zb_model.specs.declared.data.Content.TheVariants.{Held, Absent}
use Rattle.zb_model.specs.declared.refusal.Refusal.{Refusal}
use Rattle.zb_model.specs.declared.refusal.Refusal.TheVariants as refusal
use Rattle.zb_model.specs.declared.pending.PendingStore.{PendingStore}
use Rattle.zb_answers.specs.declared.answer.Answer.{Answer}
use Rattle.zb_answers.specs.declared.answer.Answer.TheVariants as answer
use Rattle.zb_script.specs.declared.line.Line.{Line}
use Rattle.zb_script.specs.declared.line.Line.TheVariants as line
use Rattle.zb_model.specs.declared.pending.PendingCheck.{PendingCheck}
use Rattle.commit_phases.specs.Pending.{PendingChanges, excess_with, with_pending}
use Rattle.zodb_core.specs.declared.reply.Reply.{Reply}
use Rattle.zodb_core.specs.declared.reply.Reply.TheVariants as reply
use Rattle.zodb_core.specs.declared.request.Request.{Request}
use Rattle.zodb_core.specs.declared.request.Request.TheVariants as request
use Rattle.zodb_core.specs.Machine.{Machine}
use Rattle.zodb_core.specs.Outcomes.{Answered, FaultCounts, NoMemory, ReadingFailed, StepOutcome, StoreFailed, outcome_of_refusal}
use Rattle.client_turns.specs.declared.errors.TurnError.{TurnError}
use Rattle.client_turns.specs.declared.errors.TurnError.TheVariants as error
use Rattle.client_turns.specs.Clients.{Changes, Client, Linked, Local, OpenTransaction, Standing, begun, nothing_pending, with_transaction}
use Rattle.client_turns.specs.Views.{server_of}
use Rattle.connection_view.specs.Views.{View, view_of}
use Rattle.client_turns.specs.Frames.{call_excess, reply_excess}

-- ---- lines that are one step

-- what waits for a vote
abbrev pub pending_in : Option Changes → PendingChanges
pending_in changes = option_map_or (λ t. t.pending) changes nothing_pending

-- a transaction of a local client begins with a step, and one behind a link with none
abbrev pub begin_request : Standing → Option Request
begin_request Local = Some request.Front
begin_request (Linked known) = None

-- the request of a line that is one step, of a client that stands so, with these changes in the transaction, where one is open
abbrev pub request_of : Standing → Option Changes → Line → Option Request
request_of s changes line.Begin = begin_request s
request_of s changes line.New = Some (request.NewOids 1)
request_of s changes (line.Vote user description) = Some (request.Vote user description [] (pending_in changes))
request_of s changes (line.Undo user description tids) = Some (request.Undo user description tids)
request_of s changes line.Finish = Some request.Finish
request_of s changes line.Abort = Some request.Abort
request_of s changes line.Deliver = Some request.Front
request_of s changes (line.History oid) = Some (request.History oid)
request_of s changes line.UndoLog = Some request.UndoLog
request_of s changes (line.Pack tid collect) = Some (request.Pack tid collect)
request_of s changes (line.PackBegin tid collect) = Some (request.PackBegin tid collect)
request_of s changes line.PackTurn = Some request.PackTurn
request_of s changes line.Close = Some request.Close
request_of s changes _ = None

-- a line whose front begins no transaction
abbrev pub is_delivery : Line → Bool
is_delivery line.Deliver = true
is_delivery _ = false

-- what the line is answered whose front begins one; none of them asks for a load, or for what was committed
abbrev pub answer_of : Reply → Answer
answer_of (reply.Front front news switches) = answer.Begun front
answer_of (reply.Loaded serial bytes end upto) = answer.Data serial bytes
answer_of (reply.Nothing oid switches) = answer.Refused (refusal.Missing oid false)
answer_of (reply.Oids first count) = answer.Oid first
answer_of reply.Voted = answer.Voted
answer_of (reply.Committed tid) = answer.Committed tid
answer_of reply.Empty = answer.Empty
answer_of reply.Aborted = answer.Aborted
answer_of (reply.History list) = answer.History list
answer_of (reply.UndoLog list) = answer.UndoLog list
answer_of (reply.Packed kept dropped) = answer.Packed kept dropped
answer_of (reply.Packing tid) = answer.Packing tid
answer_of (reply.Marking count) = answer.Marking count
answer_of (reply.Marked count) = answer.Marked count
answer_of (reply.Copying count) = answer.Copying count
answer_of (reply.Copied count) = answer.Copied count
answer_of (reply.Last tid changes) = answer.Empty
answer_of (reply.Since keep commits) = answer.Empty
answer_of reply.Closed = answer.Closed
answer_of (reply.Refused why) = answer.Refused why

-- what a delivery is answered
abbrev pub delivered_as : Reply → Answer
delivered_as (reply.Front front news switches) = answer.Delivered front
delivered_as r = answer_of r

-- what a line is answered, by whether it is a delivery
abbrev pub answer_to : Bool → Reply → Answer
answer_to false r = answer_of r
answer_to true r = delivered_as r

-- how long what a client would ask for is, or what it would be answered, where that doesn't fit a frame: a local client needs none
abbrev pub asking_excess : Standing → Request → Option ℕ
asking_excess Local q = None
asking_excess (Linked known) q = call_excess q

abbrev pub answering_excess : Standing → Reply → Option ℕ
answering_excess Local r = None
answering_excess (Linked known) r = reply_excess r

-- an answer, unless it is too long
abbrev pub unless_long : Option ℕ → Answer → Answer
unless_long None a = a
unless_long (Some n) a = answer.Refused (refusal.TooLong n)

-- what the line of a client that stands so is answered
abbrev pub step_answer : Standing → Bool → Reply → Answer
step_answer s delivers r = unless_long (answering_excess s r) (answer_to delivers r)

-- the open transaction is voted
abbrev pub as_voted : OpenTransaction → OpenTransaction
as_voted t = record t { changes = record t.changes { is_voted = true } }

-- what is left of the open transaction, in the machine behind the step: a front begins one, a vote is kept, and what ends it drops it
abbrev pub transaction_left : Machine → Option OpenTransaction → Reply → Option OpenTransaction
transaction_left m t (reply.Front front news switches) = Some (begun (view_of (server_of m)))
transaction_left m t reply.Voted = option_map as_voted t
transaction_left m t (reply.Committed tid) = None
transaction_left m t reply.Empty = None
transaction_left m t reply.Aborted = None
transaction_left m t reply.Closed = None
transaction_left m t _ = t

-- what is left of a client; a delivery leaves its transaction
abbrev pub client_left : Bool → Machine → Client → Reply → Client
client_left false m c r = record c { transaction = transaction_left m c.transaction r }
client_left true m c r = c

-- what is known behind a link: after a front, and after a commit of its own, the list as it stands
abbrev pub known_behind : Machine → View → Reply → View
known_behind m known (reply.Front front news switches) = view_of (server_of m)
known_behind m known (reply.Committed tid) = view_of (server_of m)
known_behind m known _ = known

abbrev pub standing_behind : Machine → Standing → Reply → Standing
standing_behind m Local r = Local
standing_behind m (Linked known) r = Linked (known_behind m known r)

-- the client that stands so behind a step
abbrev pub client_told : Machine → Reply → Client → Client
client_told m r c = record c { standing = standing_behind m c.standing r }

abbrev pub is_committed : Reply → Bool
is_committed (reply.Committed tid) = true
is_committed _ = false

-- ---- how a line ends the run

abbrev pub end_in : Refusal → Option TurnError
end_in refusal.StoreFault = Some error.StoreFault
end_in refusal.Memory = Some error.Memory
end_in _ = None

-- an answer that isn't given, since the run ends: the store failed, or memory ran out
abbrev pub end_of : Answer → Option TurnError
end_of (answer.Refused why) = end_in why
end_of _ = None

-- what a step did to the counts of faults, by how it ended: a count rose where something failed, and no other has moved; where the store failed, that of failed
-- reads may have risen too
abbrev pub IsCountedBy : FaultCounts → FaultCounts → StepOutcome → Type 0
IsCountedBy before now ReadingFailed = Rose before.reads now.reads × (now.others ≡ before.others)
IsCountedBy before now StoreFailed = Rose before.others now.others
IsCountedBy before now _ = now ≡ before

-- how a read ended, and a line, as it says: with an answer, or since something failed
abbrev pub outcome_of_read : Result (ℕ × List ℕ) Refusal → StepOutcome
outcome_of_read (Ok got) = Answered
outcome_of_read (Err why) = outcome_of_refusal why

abbrev pub outcome_of_result : {T : Type 0} → Result T Refusal → StepOutcome
outcome_of_result (Ok x) = Answered
outcome_of_result (Err why) = outcome_of_refusal why

abbrev pub outcome_of_answer : Answer → StepOutcome
outcome_of_answer (answer.Refused why) = outcome_of_refusal why
outcome_of_answer _ = Answered

abbrev pub outcome_of_error : TurnError → StepOutcome
outcome_of_error error.Memory = NoMemory
outcome_of_error error.StoreFault = StoreFailed

-- how a turn ended, and the closing behind it, which may end the run
abbrev pub outcome_of_turn : Result Answer TurnError → StepOutcome
outcome_of_turn (Ok a) = outcome_of_answer a
outcome_of_turn (Err why) = outcome_of_error why

abbrev pub outcome_of_end : Option TurnError → StepOutcome
outcome_of_end None = Answered
outcome_of_end (Some why) = outcome_of_error why

-- ---- lines that the client answers by itself

-- the client whose transaction has these changes
abbrev pub with_changes : Client → OpenTransaction → Changes → Client
with_changes c t changes = with_transaction c (record t { changes = changes })

-- what a line is answered, and the changes that it leaves
pub record Changed : Type 0 where
  pub answer : Answer
  pub changes : Changes

abbrev pub unchanged : Changes → Answer → Changed
unchanged t a = record { answer = a; changes = t }

-- a store or a delete waits
abbrev pub waiting : Changes → PendingStore → Changes
waiting t p = record t { pending = record { stores = with_pending t.pending.stores p; checks = t.pending.checks } }

-- store: it waits, unless it is too long, by itself or with the others
abbrev pub store_unless : Changes → PendingStore → Option ℕ → Changed
store_unless t p (Some length) = unchanged t (answer.Refused (refusal.TooLong length))
store_unless t p None = record { answer = answer.Stored; changes = waiting t p }

abbrev pub stored : Changes → PendingStore → Changed
stored t p = store_unless t p (excess_with t.pending.stores p)

-- put: the base is the serial that a read answers, or 0 where the object is missing
abbrev pub put : Changes → ℕ → List ℕ → Result (ℕ × List ℕ) Refusal → Changed
put t oid bytes (Ok got) = stored t (record { oid = oid; base = got.0; content = Held bytes })
put t oid bytes (Err (refusal.Missing o false)) = stored t (record { oid = oid; base = 0; content = Held bytes })
put t oid bytes (Err why) = unchanged t (answer.Refused why)

-- delete: it waits, and has no length
abbrev pub deleted : Changes → ℕ → ℕ → Changed
deleted t oid base = record { answer = answer.Deleted; changes = waiting t (record { oid = oid; base = base; content = Absent }) }

-- check: it waits behind the others
abbrev pub checked : Changes → PendingCheck → Changed
checked t c = record { answer = answer.Checked; changes = record t { pending = record { stores = t.pending.stores; checks = t.pending.checks ++ c ∷ [] } } }

-- load and get: what a read answers
abbrev pub data_of : Result (ℕ × List ℕ) Refusal → Answer
data_of (Ok got) = answer.Data got.0 got.1
data_of (Err why) = answer.Refused why

abbrev pub object_of : Result (ℕ × List ℕ) Refusal → Answer
object_of (Ok got) = answer.Object got.0 got.1
object_of (Err why) = answer.Refused why

-- savepoint: what waits is saved, behind the other savepoints
abbrev pub saved : Changes → Changed
saved t = record { answer = answer.Savepoint (length t.savepoints); changes = record t { savepoints = t.savepoints ++ t.pending ∷ [] } }

abbrev pub rolled_to : Changes → ℕ → Option PendingChanges → Changed
rolled_to t number None = unchanged t (answer.Refused (refusal.NoSavepoint number))
rolled_to t number (Some pending) = record { answer = answer.Rolled number; changes = record t { pending = pending; savepoints = take (number + 1) t.savepoints } }

-- rollback: what waited at a savepoint waits again; that savepoint stays, and is the last one
abbrev pub rolled_back : Changes → ℕ → Changed
rolled_back t number = rolled_to t number (slice_get t.savepoints number)
