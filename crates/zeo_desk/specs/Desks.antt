-- The server's end of a link: which steps the messages of a client name, and what is sent for them. From: ZEO; the profile is own.
use Rattle.std.specs.Prelude.{ℕ, ◌==◌, ◌<◌, ◌≤◌, ◌^◌, ◌++◌, Bool, true, false, List, [], ◌∷◌, Option, Some, None, length, if◌then◌else◌}
use Rattle.zb_model.specs.declared.data.Content.TheVariants.{Held, Absent}
use Rattle.zb_model.specs.declared.pending.PendingCheck.{PendingCheck}
use Rattle.zb_model.specs.declared.pending.PendingStore.{PendingStore}
use Rattle.zb_model.specs.declared.refusal.Refusal.{Refusal}
use Rattle.zb_model.specs.declared.refusal.Refusal.TheVariants as refusals
use Rattle.commit_phases.specs.Pending.{PendingChanges, excess_with, with_pending}
use Rattle.zodb_core.specs.declared.reply.Reply.{Reply}
use Rattle.zodb_core.specs.declared.reply.Reply.TheVariants as replies
use Rattle.zodb_core.specs.declared.request.Request.{Request}
use Rattle.zodb_core.specs.declared.request.Request.TheVariants as requests
use Rattle.zodb_core.specs.HubState.{IsFitting}
use Rattle.zeo_messages.specs.declared.answer.Answer.TheVariants as answers
use Rattle.zeo_messages.specs.declared.call.Call.{Call}
use Rattle.zeo_messages.specs.declared.call.Call.TheVariants as calls
use Rattle.zeo_messages.specs.declared.message.Message.{Message}
use Rattle.zeo_messages.specs.declared.message.Message.TheVariants.{Asked as AskedMessage}
use Rattle.zeo_messages.specs.Calls.{flag_of}
use Rattle.zeo_reading.specs.Reading.{message_in}
use Rattle.zeo_desk.specs.declared.asked.Asked.{Asked}
use Rattle.zeo_desk.specs.declared.asked.Asked.TheVariants as asked
use Rattle.zeo_desk.specs.declared.asked.Awaited.{Awaited}
use Rattle.zeo_desk.specs.declared.next.Next.{Next}
use Rattle.zeo_desk.specs.declared.next.Next.TheVariants.{Step, Send}
use Rattle.zeo_desk.specs.Answering.{answer_frame, reply_frames}

-- ---- what a desk keeps

-- Whether the client has registered, the texts of its votes and what waits for them, the length for which a store was refused first since its last
-- `tpc_begin`, and the step whose reply is awaited.
pub record DeskState : Type 0 where
  pub registered : Bool
  pub user : List ℕ
  pub description : List ℕ
  pub extension : List ℕ
  pub stores : List PendingStore
  pub checks : List PendingCheck
  pub refused : Option ℕ
  pub awaited : Option Awaited

abbrev pub new_desk : DeskState
new_desk = record { registered = false; user = []; description = []; extension = []; stores = []; checks = []; refused = None; awaited = None }

-- what waits for a vote
abbrev pub waiting : DeskState → PendingChanges
waiting d = record { stores = d.stores; checks = d.checks }

-- what a call leaves of a desk, and what is done next: a step of the session, or frames are sent, which may be none
pub record Turn : Type 0 where
  pub desk : DeskState
  pub next : Next

-- a step whose reply is awaited
abbrev pub asks : DeskState → ℕ → Asked → Request → Turn
asks d number a request = record { desk = record d { awaited = Some (record { number = number; asked = a }) }; next = Step request }

abbrev pub sends : DeskState → List (List ℕ) → Turn
sends d frames = record { desk = record d { awaited = None }; next = Send frames }

-- nothing is sent
abbrev pub keeps_still : DeskState → Turn
keeps_still d = sends d []

abbrev pub refuses : DeskState → ℕ → Refusal → Turn
refuses d number refusal = sends d (answer_frame number (answers.Refused refusal) ∷ [])

-- ---- what waits for a vote

-- `tpc_begin`: nothing waits, nothing was refused, and these are the texts
abbrev pub begun : DeskState → List ℕ → List ℕ → List ℕ → DeskState
begun d user description extension = record d { user = user; description = description; extension = extension; stores = []; checks = []; refused = None }

abbrev pub store_of : ℕ → ℕ → List ℕ → PendingStore
store_of oid base bytes = record { oid = oid; base = base; content = Held bytes }

abbrev pub delete_of : ℕ → ℕ → PendingStore
delete_of oid base = record { oid = oid; base = base; content = Absent }

abbrev pub check_of : ℕ → ℕ → PendingCheck
check_of oid serial = record { oid = oid; serial = serial }

-- one more store or delete waits
abbrev pub with_store : DeskState → PendingStore → DeskState
with_store d p = record d { stores = with_pending d.stores p }

-- one more check waits
abbrev pub with_check : DeskState → PendingCheck → DeskState
with_check d c = record d { checks = d.checks ++ c ∷ [] }

-- a store is refused where a length passes a limit
abbrev pub stored : DeskState → PendingStore → Option ℕ → DeskState
stored d p (Some length) = record d { refused = Some length }
stored d p None = with_store d p

-- behind the first refusal nothing more is kept
abbrev pub unless_refused : Option ℕ → DeskState → DeskState → DeskState
unless_refused (Some length) d left = d
unless_refused None d left = left

abbrev pub with_storea : DeskState → PendingStore → DeskState
with_storea d p = unless_refused d.refused d (stored d p (excess_with d.stores p))

abbrev pub with_delete : DeskState → PendingStore → DeskState
with_delete d p = unless_refused d.refused d (with_store d p)

abbrev pub with_current : DeskState → PendingCheck → DeskState
with_current d c = unless_refused d.refused d (with_check d c)

-- a vote is refused for the first refusal; else all that waits is voted on, and waits on
abbrev pub votes : DeskState → ℕ → Option ℕ → Turn
votes d number (Some length) = refuses d number (refusals.TooLong length)
votes d number None = asks d number asked.Other (requests.Vote d.user d.description d.extension (waiting d))

-- ---- messages

-- a call of a client that has registered
abbrev pub called : DeskState → ℕ → Call → Turn
called d n (calls.Register again) = refuses d n refusals.NotOpen
called d n (calls.LoadBefore oid front) = asks d n asked.Other (requests.LoadBefore oid front)
called d n (calls.NewOids count) = asks d n asked.Other (requests.NewOids count)
called d n (calls.TpcBegin user description extension) = keeps_still (begun d user description extension)
called d n (calls.Storea oid base bytes) = keeps_still (with_storea d (store_of oid base bytes))
called d n (calls.DeleteObject oid base) = keeps_still (with_delete d (delete_of oid base))
called d n (calls.CheckCurrentSerial oid serial) = keeps_still (with_current d (check_of oid serial))
called d n calls.Vote = votes d n d.refused
called d n (calls.Undoa user description tids) = asks d n asked.Other (requests.Undo user description tids)
called d n calls.TpcFinish = asks d n asked.Finish requests.Finish
called d n calls.TpcAbort = asks d n asked.Other requests.Abort
called d n (calls.History oid) = asks d n asked.Other (requests.History oid)
called d n calls.UndoInfo = asks d n asked.Other requests.UndoLog
called d n (calls.Pack tid collect) = asks d n asked.Other (requests.Pack tid collect)
called d n (calls.PackBegin tid collect) = asks d n asked.Other (requests.PackBegin tid collect)
called d n calls.PackTurn = asks d n asked.PackTurn requests.PackTurn
called d n calls.Sync = asks d n asked.Other requests.Front
called d n calls.LastTransaction = asks d n asked.Other requests.Last
called d n (calls.GetInvalidations tid changes) = asks d n asked.Since (requests.Since tid changes)

-- whether a call names a step whatever the desk keeps
abbrev pub names_step : Call → Bool
names_step (calls.Register again) = false
names_step (calls.TpcBegin user description extension) = false
names_step (calls.Storea oid base bytes) = false
names_step (calls.DeleteObject oid base) = false
names_step (calls.CheckCurrentSerial oid serial) = false
names_step calls.Vote = false
names_step _ = true

abbrev pub is_register : Call → Bool
is_register (calls.Register again) = true
is_register _ = false

-- whether a call is answered
abbrev pub is_answered : Call → Bool
is_answered call = flag_of call == 0

abbrev pub registers : DeskState → ℕ → Turn
registers d n = asks (record d { registered = true }) n asked.Register requests.Front

-- a call before that: but for `register`, one that is answered is refused, and another does nothing
abbrev pub called_early : DeskState → ℕ → Call → Turn
called_early d n call = if is_register call then registers d n else if is_answered call then refuses d n refusals.NotOpen else keeps_still d

abbrev pub taken_call : DeskState → ℕ → Call → Turn
taken_call d n call = if d.registered then called d n call else called_early d n call

-- the call that a message is, with its number; what a server sends is none
abbrev pub call_in : Option Message → Option (ℕ × Call)
call_in (Some (AskedMessage number call)) = Some (number, call)
call_in _ = None

abbrev pub taken_if : DeskState → Option (ℕ × Call) → Option Turn
taken_if d (Some c) = Some (taken_call d c.0 c.1)
taken_if d None = None

-- what one payload makes of a desk; None where it is no message of a client
abbrev pub taken : DeskState → List ℕ → Option Turn
taken d payload = taken_if d (call_in (message_in payload))

-- ---- replies

abbrev pub committed_tid : Reply → Option ℕ
committed_tid (replies.Committed tid) = Some tid
committed_tid _ = None

-- the transaction of a commit that was asked
abbrev pub committed : Asked → Reply → Option ℕ
committed asked.Finish reply = committed_tid reply
committed _ reply = None

-- a commit is answered behind the news up to it, for which a second step asks; any other reply is answered at once
abbrev pub answered : DeskState → ℕ → Asked → Reply → Option ℕ → Turn
answered d number a reply (Some tid) = asks d number (asked.NewsBehind tid) requests.Front
answered d number a reply None = sends d (reply_frames number a reply)

-- a reply to no step does nothing
abbrev pub replied_to : DeskState → Option Awaited → Reply → Turn
replied_to d None reply = keeps_still d
replied_to d (Some w) reply = answered d w.number w.asked reply (committed w.asked reply)

-- what the reply to the step that is awaited makes of a desk
abbrev pub replied : DeskState → Reply → Turn
replied d reply = replied_to d d.awaited reply

-- ---- what a desk keeps true

abbrev pub AwaitsNumber : Option Awaited → Type 0
AwaitsNumber None = Unit {0}
AwaitsNumber (Some w) = w.number < 2 ^ 31

-- its texts have at most 65,535 bytes, and the number that it answers next is one of a call
pub record IsDesk (user description extension : List ℕ) (awaited : Option Awaited) : Type 0 where
  pub short_user : length user ≤ 65535
  pub short_description : length description ≤ 65535
  pub short_extension : length extension ≤ 65535
  pub number : AwaitsNumber awaited

-- a step that is asked keeps what requests are to keep
abbrev pub IsFittingNext : Next → Type 0
IsFittingNext (Step request) = IsFitting request
IsFittingNext (Send frames) = Unit {0}
