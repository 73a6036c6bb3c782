-- What a client's connection is asked, and what comes of it. Own.
use Rattle.std.specs.Prelude.{◌≡◌, ◌≢◌, ◌⊎◌, ◌||◌, ℕ, List, [], Option, Some, None, Result, Ok, Err, Bool, true, false}
use Rattle.zb_ids.specs.declared.stamp.Stamp.{Stamp}
use Rattle.zb_model.specs.declared.pending.PendingStore.{PendingStore}
use Rattle.zb_model.specs.declared.refusal.Refusal.{Refusal}
use Rattle.zb_model.specs.declared.refusal.Refusal.TheVariants as refusal
use Rattle.zb_answers.specs.declared.answer.Answer.{Answer}
use Rattle.zb_answers.specs.declared.answer.Answer.TheVariants as answer
use Rattle.zb_script.specs.declared.line.Line.{Line}
use Rattle.zb_script.specs.declared.line.Line.TheVariants as line
use Rattle.zodb_core.specs.declared.reply.Reply.{Reply}
use Rattle.zodb_core.specs.declared.reply.Reply.TheVariants as reply
use Rattle.zodb_core.specs.declared.request.Request.{Request}
use Rattle.zodb_core.specs.declared.request.Request.TheVariants as request
use Rattle.zodb_core.specs.HubState.{HubState}
use Rattle.zodb_core.specs.Machine.{Rules}
use Rattle.zodb_core.specs.Outcomes.{Answered, NoMemory, StepOutcome}
use Rattle.client_turns.specs.declared.client.Client.{Client}
use Rattle.client_turns.specs.declared.member.FarClient.{FarClient}
use Rattle.client_turns.specs.declared.member.Member.{Member}
use Rattle.client_turns.specs.declared.member.Member.TheVariants.{Near, Far}
use Rattle.client_turns.specs.Clients.{Moment, OpenTransaction}
use Rattle.client_turns.specs.Clients as clients
use Rattle.client_turns.specs.Members.{IsOpenAs}
use Rattle.client_turns.specs.Standing.{IsLineOpen, MayTakeAt, OneLeadsTo}
use Rattle.client_turns.specs.Trees.{all_stored}
use Rattle.connection_view.specs.declared.connection.Connection.{Connection}
use Rattle.connection_view.specs.Connections.{Between, work_of}
use Rattle.connection_view.specs.Views as views

-- a line that a connection answers
abbrev pub is_of_connection : Line → Bool
is_of_connection line.Begin = true
is_of_connection (line.Load oid) = true
is_of_connection (line.Get oid) = true
is_of_connection (line.Store oid base bytes) = true
is_of_connection (line.Put oid bytes) = true
is_of_connection (line.Check oid serial) = true
is_of_connection (line.Delete oid base) = true
is_of_connection line.Savepoint = true
is_of_connection (line.Rollback number) = true
is_of_connection (line.Vote user description) = true
is_of_connection (line.Undo user description tids) = true
is_of_connection line.Finish = true
is_of_connection line.Abort = true
is_of_connection line.Deliver = true
is_of_connection _ = false

-- one that is answered as the call of its connection is, whatever the link
abbrev pub is_plain_call : Line → Bool
is_plain_call line.Begin = true
is_plain_call (line.Store oid base bytes) = true
is_plain_call (line.Check oid serial) = true
is_plain_call (line.Delete oid base) = true
is_plain_call line.Savepoint = true
is_plain_call (line.Rollback number) = true
is_plain_call line.Finish = true
is_plain_call line.Abort = true
is_plain_call _ = false

-- a line that asks nothing of the connection, and whose answer comes in a message over a link
abbrev pub is_question_line : Line → Bool
is_question_line line.New = true
is_question_line (line.History oid) = true
is_question_line line.UndoLog = true
is_question_line (line.Pack tid collect) = true
is_question_line (line.PackBegin tid collect) = true
is_question_line line.PackTurn = true
is_question_line _ = false

-- a line that is asked by the client itself: of its connection, or, where it has a link, over that
abbrev pub asks_by : Bool → Line → Bool
asks_by false l = is_of_connection l
asks_by true l = is_of_connection l || is_question_line l

-- the request of a line that asks nothing of the connection
abbrev pub plain_request : Line → Option Request
plain_request line.New = Some (request.NewOids 1)
plain_request (line.History oid) = Some (request.History oid)
plain_request line.UndoLog = Some request.UndoLog
plain_request (line.Pack tid collect) = Some (request.Pack tid collect)
plain_request (line.PackBegin tid collect) = Some (request.PackBegin tid collect)
plain_request line.PackTurn = Some request.PackTurn
plain_request line.Close = Some request.Close
plain_request _ = None

-- a request of such a line
abbrev pub IsPlain : Request → Type 0
IsPlain (request.NewOids count) = count ≡ 1
IsPlain (request.History oid) = Unit {0}
IsPlain request.UndoLog = Unit {0}
IsPlain (request.Pack tid collect) = Unit {0}
IsPlain (request.PackBegin tid collect) = Unit {0}
IsPlain request.PackTurn = Unit {0}
IsPlain request.Close = Unit {0}
IsPlain _ = ⊥

-- ---- answers

-- what a line is answered that gives nothing: this, or the refusal
abbrev pub answered : {T : Type 0} → Result T Refusal → Answer → Answer
answered (Ok x) a = a
answered (Err why) a = answer.Refused why

abbrev pub begun_as : Result ℕ Refusal → Answer
begun_as (Ok front) = answer.Begun front
begun_as (Err why) = answer.Refused why

abbrev pub delivered_with : Result ℕ Refusal → Answer
delivered_with (Ok front) = answer.Delivered front
delivered_with (Err why) = answer.Refused why

abbrev pub saved_as : Result ℕ Refusal → Answer
saved_as (Ok number) = answer.Savepoint number
saved_as (Err why) = answer.Refused why

abbrev pub finished_as : Result (Option ℕ) Refusal → Answer
finished_as (Ok (Some tid)) = answer.Committed tid
finished_as (Ok None) = answer.Empty
finished_as (Err why) = answer.Refused why

-- ---- calls of one client

-- a line of a client, at whatever moment it takes its turn
abbrev pub TakesLine : {R F : Type 0} → Type 0 → Rules → Line → Answer → HubState R F → HubState R F → Client → Client → Option (List Stamp) → Option (List Stamp) → Type 0
TakesLine told rules l a old new x y before after =
    told → (m : Moment) (at : ℕ) (c : clients.Client) → MayTakeAt old before m at x c → OneLeadsTo (IsLineOpen rules m at c l a) m at old new y after

-- and so what it has of an object
abbrev pub TakesRead : {R F : Type 0} → Type 0 → (Moment → Option OpenTransaction → ℕ → Result (ℕ × List ℕ) Refusal → Moment → Type 0) → ℕ → Result (ℕ × List ℕ) Refusal → HubState R F → HubState R F → Client → Client
    → Option (List Stamp) → Option (List Stamp) → Type 0
TakesRead told is oid result old new x y before after =
    told → (m : Moment) (at : ℕ) (c : clients.Client) → MayTakeAt old before m at x c → OneLeadsTo (is m c.transaction oid result) m at old new y after

-- a client that is kept but for its connection
pub record IsSameBut (x y : Client) : Type 0 where
  pub name : y.name ≡ x.name
  pub session : y.session ≡ x.session
  pub told : y.told ≡ x.told

-- what the closing of its session leaves of a client: no transaction; any other reply leaves it
abbrev pub IsLeftBy : Client → Client → Reply → Type 0
IsLeftBy x y reply.Closed =
    IsSameBut x y × ((work_of x.connection ≢ Err refusal.NotOpen) → work_of y.connection ≡ Err refusal.NoTransaction) × ((told : views.Client) → ((oid : ℕ) → told.voted oid ≡ false) → Between y.connection told)
IsLeftBy x y _ = y ≡ x

-- and so of either kind: one with a link keeps nothing that is known
abbrev pub IsMemberLeft : Member → Member → Reply → Type 0
IsMemberLeft (Near x) (Near y) r = IsLeftBy x y r
IsMemberLeft (Far x) (Far y) r = (y.client.name ≡ x.client.name) × (y.client.session ≡ x.client.session) × (y.is_lost ≡ x.is_lost)
IsMemberLeft _ _ r = ⊥

-- ---- puts

-- whatever client has this connection
abbrev pub client_over : Connection → Client
client_over k = record { name = []; session = 0; told = None; connection = k }

-- an answer that moves no count
abbrev pub IsCalm : StepOutcome → Type 0
IsCalm o = (o ≡ Answered) ⊎ (o ≡ NoMemory)

-- What a call puts waits for the vote of a client's transaction, all of it or nothing; memory is free to run out.
pub record IsPutAs (x y : Client) (a : Answer) (puts : List PendingStore) (result : Answer) (told : views.Client) (t : OpenTransaction) : Type 0 where
  pub same : IsSameBut x y
  pub put : ((result ≡ (all_stored t.changes a puts).answer) × IsOpenAs y.connection told (work_of y.connection) (Some (record t { changes = (all_stored t.changes a puts).changes })))
      ⊎ ((result ≡ answer.Refused refusal.Memory) × IsOpenAs y.connection told (work_of y.connection) (Some t))

abbrev pub IsPutAll : Client → Client → Answer → List PendingStore → Answer → Type 0
IsPutAll x y a puts result = (told : views.Client) (t : OpenTransaction) → IsOpenAs x.connection told (work_of x.connection) (Some t) → IsPutAs x y a puts result told t

-- and so of a client that has a link, by its connection, which doesn't see how what it reads comes
abbrev pub IsFarPut : Bool → FarClient → FarClient → Answer → List PendingStore → Answer → Type 0
IsFarPut false x y a puts result = (y ≡ record { client = record x.client { connection = y.client.connection }; is_lost = false }) × IsPutAll (client_over x.client.connection) (client_over y.client.connection) a puts result
IsFarPut true x y a puts result = (y ≡ x) × (result ≡ answer.Refused refusal.Memory)

-- or either
abbrev pub IsMemberPut : Member → Member → Answer → List PendingStore → Answer → Type 0
IsMemberPut (Near x) (Near y) a puts result = IsPutAll x y a puts result
IsMemberPut (Far x) (Far y) a puts result = IsFarPut x.is_lost x y a puts result
IsMemberPut _ _ a puts result = ⊥
