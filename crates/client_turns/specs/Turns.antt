-- A turn: one line of a client, with its steps and reads. Source: connections of ZODB; that a turn is taken at once is own.
use Rattle.std.specs.Prelude.{Bool, Err, List, None, Ok, Option, Result, Some, [], false, length, nat_lt, slice_get, suc, true, zero, ℕ, ◌++◌, ◌<◌, ◌∷◌, ◌≡◌, ◌≤◌}
use Rattle.zb_model.specs.declared.data.Content.TheVariants.{Held}
use Rattle.zb_model.specs.declared.refusal.Refusal.{Refusal}
use Rattle.zb_model.specs.declared.refusal.Refusal.TheVariants as refusal
use Rattle.zb_model.specs.declared.pending.PendingStore.{PendingStore}
use Rattle.zb_answers.specs.declared.answer.Answer.{Answer}
use Rattle.zb_answers.specs.declared.answer.Answer.TheVariants as answer
use Rattle.zb_script.specs.declared.line.Line.{Line}
use Rattle.zb_script.specs.declared.line.Line.TheVariants as line
use Rattle.zb_script.specs.declared.line.Turn.{Turn}
use Rattle.zodb_core.specs.declared.reply.Reply.{Reply}
use Rattle.zodb_core.specs.declared.reply.Reply.TheVariants as reply
use Rattle.zodb_core.specs.declared.request.Request.{Request}
use Rattle.zodb_core.specs.declared.request.Request.TheVariants as request
use Rattle.zodb_core.specs.Machine.{Rules, session_limit, with_session}
use Rattle.zodb_core.specs.Outcomes.{Answered, outcome_of}
use Rattle.connection_view.specs.Connections.{waiting_read}
use Rattle.client_turns.specs.declared.errors.TurnError.{TurnError}
use Rattle.client_turns.specs.declared.errors.TurnError.TheVariants as error
use Rattle.commit_phases.specs.Pending.{pending_of}
use Rattle.client_turns.specs.Clients.{Client, Linked, Local, Moment, OpenTransaction, Standing, begun_far, changes_of, place_of_client, with_client, with_transaction}
use Rattle.client_turns.specs.Lines.{answer_of, asking_excess, checked, client_left, client_told, data_of, deleted, end_of, is_committed, is_delivery, object_of, put, request_of, rolled_back, saved, step_answer, stored}
use Rattle.client_turns.specs.Steps.{IsChange, IsReadAt, IsRefusedAt, IsStepAt}
use Rattle.client_turns.specs.Trees.{IsTreeLine}
use Rattle.client_turns.specs.Refusing.{IsFittingLine, connection_refusal, opening_in}
use Rattle.connection_view.specs.Views.{View, view_of}
use Rattle.client_turns.specs.Views.{server_of}

-- ---- lines of an open connection

-- a session takes so many Front steps, whatever they are answered
abbrev pub IsTold : Rules → ℕ → Moment → ℕ → Moment → Type 0
IsTold rules zero m n now = now ≡ m
IsTold rules (suc count) m n now = (r : Reply) × (next : Moment) × IsStepAt rules m n request.Front r next × IsTold rules count next n now

-- how many it takes behind a step: none, or behind a commit one of a local client, and two of one with a link, of which the first is for its news
abbrev pub fronts_behind : Bool → Standing → ℕ
fronts_behind false s = 0
fronts_behind true Local = 1
fronts_behind true (Linked known) = 2

-- a line that is one step of the machine, of the client at a place: a delivery, or another
pub record IsStepLine (rules : Rules) (m : Moment) (at : ℕ) (c : Client) (delivers : Bool) (q : Request) (a : Answer) (now : Moment) : Type 0 where
  pub reply : Reply
  pub behind : Moment
  pub told : Moment
  pub step : IsStepAt rules m c.session q reply behind
  pub front : IsTold rules (fronts_behind (is_committed reply) c.standing) behind c.session told
  pub answer : a ≡ step_answer c.standing delivers reply
  pub left : now ≡ with_client told at (client_told told.machine reply (client_left delivers told.machine c reply))

-- a line that is answered by a read
abbrev pub IsReadLine : Moment → OpenTransaction → ℕ → (Result (ℕ × List ℕ) Refusal → Answer) → Answer → Moment → Type 0
IsReadLine m t oid answer_to a now = (result : Result (ℕ × List ℕ) Refusal) × IsReadAt m t oid result now × (a ≡ answer_to result)

-- get: what waits is answered, and no read is made
abbrev pub IsGet : Moment → OpenTransaction → ℕ → Option PendingStore → Answer → Moment → Type 0
IsGet m t oid (Some p) a now = (a ≡ object_of (waiting_read oid p)) × (now ≡ m)
IsGet m t oid None a now = IsReadLine m t oid object_of a now

-- put: what waits keeps its base, and no read is made; else the base is the serial that a read answers
abbrev pub IsPut : Moment → ℕ → Client → OpenTransaction → ℕ → List ℕ → Option PendingStore → Answer → Moment → Type 0
IsPut m at c t oid bytes (Some p) a now = IsChange m at c t (stored t.changes (record { oid = oid; base = p.base; content = Held bytes })) a now
IsPut m at c t oid bytes None a now = (result : Result (ℕ × List ℕ) Refusal) × (behind : Moment) × IsReadAt m t oid result behind × IsChange behind at c t (put t.changes oid bytes result) a now

-- a line of an open transaction that is no step; no other line comes here
abbrev pub IsWithin : Moment → ℕ → Client → OpenTransaction → Line → Answer → Moment → Type 0
IsWithin m at c t (line.Load oid) a now = IsReadLine m t oid data_of a now
IsWithin m at c t (line.Get oid) a now = IsGet m t oid (pending_of t.changes.pending.stores oid) a now
IsWithin m at c t (line.Store oid base bytes) a now = IsChange m at c t (stored t.changes (record { oid = oid; base = base; content = Held bytes })) a now
IsWithin m at c t (line.Put oid bytes) a now = IsPut m at c t oid bytes (pending_of t.changes.pending.stores oid) a now
IsWithin m at c t (line.Check oid serial) a now = IsChange m at c t (checked t.changes (record { oid = oid; serial = serial })) a now
IsWithin m at c t (line.Delete oid base) a now = IsChange m at c t (deleted t.changes oid base) a now
IsWithin m at c t line.Savepoint a now = IsChange m at c t (saved t.changes) a now
IsWithin m at c t (line.Rollback number) a now = IsChange m at c t (rolled_back t.changes number) a now
IsWithin m at c t (line.Tree root call) a now = IsTreeLine m at c t root call a now
IsWithin m at c t _ a now = IsRefusedAt m refusal.NoTransaction a now

-- a line that is no step, where no transaction is open: `begin` behind a link, where the view is the known one. No other line comes here.
abbrev pub IsOutside : Moment → ℕ → Client → Standing → Answer → Moment → Type 0
IsOutside m at c Local a now = IsRefusedAt m refusal.NoTransaction a now
IsOutside m at c (Linked known) a now = (a ≡ answer.Begun known.front) × (now ≡ with_client m at (with_transaction c (begun_far known)))

-- a line that is no step
abbrev pub IsOwnLine : Moment → ℕ → Client → Option OpenTransaction → Line → Answer → Moment → Type 0
IsOwnLine m at c None l a now = IsOutside m at c c.standing a now
IsOwnLine m at c (Some t) l a now = IsWithin m at c t l a now

-- a line that is one step, unless what it asks for is too long
abbrev pub IsStepUnless : Rules → Moment → ℕ → Client → Bool → Request → Option ℕ → Answer → Moment → Type 0
IsStepUnless rules m at c delivers q None a now = IsStepLine rules m at c delivers q a now
IsStepUnless rules m at c delivers q (Some n) a now = IsRefusedAt m (refusal.TooLong n) a now

-- a line that the connection doesn't refuse
abbrev pub IsLineTaken : Rules → Moment → ℕ → Client → Line → Option Request → Answer → Moment → Type 0
IsLineTaken rules m at c l (Some q) a now = IsStepUnless rules m at c (is_delivery l) q (asking_excess c.standing q) a now
IsLineTaken rules m at c l None a now = IsOwnLine m at c c.transaction l a now

abbrev pub IsLineUnless : Rules → Moment → ℕ → Client → Line → Option Refusal → Answer → Moment → Type 0
IsLineUnless rules m at c l (Some why) a now = IsRefusedAt m why a now
IsLineUnless rules m at c l None a now = IsLineTaken rules m at c l (request_of c.standing (changes_of c) l) a now

-- a line of the client at a place
abbrev pub IsLineAt : Rules → Moment → ℕ → Line → Answer → Moment → Type 0
IsLineAt rules m at l a now = (c : Client) × (slice_get m.clients at ≡ Some c) × IsLineUnless rules m at c l (connection_refusal m.machine c l) a now

-- the same, or of a client that never opened a session
abbrev pub IsLineOf : Rules → Moment → Option ℕ → Line → Answer → Moment → Type 0
IsLineOf rules m None l a now = IsRefusedAt m refusal.NotOpen a now
IsLineOf rules m (Some at) l a now = IsLineAt rules m at l a now

-- ---- turns

-- what an opening is answered, and the moment behind it
pub record Opening : Type 0 where
  pub answer : Answer
  pub moment : Moment

-- open: the next session is the client's, which stands so, while there are fewer than 64
abbrev pub opened_if : Bool → Moment → List ℕ → Standing → Opening
opened_if true m name standing =
    let n = length m.machine.sessions in
    record {
      answer = answer.Opened n;
      moment = record m { machine = with_session m.machine; clients = m.clients ++ (record { name = name; session = n; transaction = None; standing = standing }) ∷ [] };
    }
opened_if false m name standing = record { answer = answer.Refused (refusal.TooManySessions (length m.machine.sessions)); moment = m }

abbrev pub opened : Moment → List ℕ → Standing → Opening
opened m name standing = opened_if (nat_lt (length m.machine.sessions) session_limit) m name standing

-- the opening of a local client
abbrev pub IsOpening : Moment → List ℕ → Answer → Moment → Type 0
IsOpening m name a now = record { answer = a; moment = now } ≡ opened m name Local

-- that of one with a link: where its session is opened it takes two Front steps, and the second, or its answer, is the opening's; else it is refused
abbrev pub first_told : Reply → Answer → Answer
first_told (reply.Front front news switches) a = a
first_told r a = answer_of r

abbrev pub opened_far : Moment → List ℕ → Opening
opened_far m name = opened m name (Linked (view_of (server_of m.machine)))

pub record IsTakenIn (rules : Rules) (m : Moment) (name : List ℕ) (a : Answer) (now : Moment) : Type 0 where
  pub first : Reply
  pub between : Moment
  pub registers : IsStepAt rules (opened_far m name).moment (length m.machine.sessions) request.Front first between
  pub second : Reply
  pub syncs : IsStepAt rules between (length m.machine.sessions) request.Front second now
  pub answer : a ≡ first_told second (opened_far m name).answer

abbrev pub IsFarOpening : Rules → Moment → List ℕ → Bool → Answer → Moment → Type 0
IsFarOpening rules m name true a now = IsTakenIn rules m name a now
IsFarOpening rules m name false a now = record { answer = a; moment = now } ≡ opened_far m name

abbrev pub IsLinkOpening : Rules → Moment → List ℕ → Answer → Moment → Type 0
IsLinkOpening rules m name a now = IsFarOpening rules m name (nat_lt (length m.machine.sessions) session_limit) a now

-- a line that opens a session, without a link or over one, or another, of a client by its name
abbrev pub IsLineNamed : Option Bool → Rules → Moment → List ℕ → Line → Answer → Moment → Type 0
IsLineNamed (Some false) rules m name l a now = IsOpening m name a now
IsLineNamed (Some true) rules m name l a now = IsLinkOpening rules m name a now
IsLineNamed None rules m name l a now = IsLineOf rules m (place_of_client name m.clients) l a now

-- a line of a client, by its name
abbrev pub IsLine : Rules → Moment → List ℕ → Line → Answer → Moment → Type 0
IsLine rules m name l a now = IsLineNamed (opening_in l) rules m name l a now

-- the closing of the session of the client at a place
abbrev pub IsClosingAt : Rules → Moment → ℕ → Reply → Moment → Type 0
IsClosingAt rules m at r now = (c : Client) × (slice_get m.clients at ≡ Some c) × IsStepAt rules m c.session request.Close r now

-- a session is closed without an answer, unless its client has none
abbrev pub IsClosed : Rules → Moment → Option ℕ → Moment → Type 0
IsClosed rules m None now = now ≡ m
IsClosed rules m (Some at) now = (r : Reply) × IsClosingAt rules m at r now × (end_of (answer_of r) ≡ None)

-- behind a client's last line its session is closed
abbrev pub IsClosing : Rules → Moment → List ℕ → Bool → Moment → Type 0
IsClosing rules m name false now = now ≡ m
IsClosing rules m name true now = IsClosed rules m (place_of_client name m.clients) now

-- A turn that is answered: its line, which is one of a script, and, where it is the client's last, the closing of its session.
pub record IsAnswered (rules : Rules) (m : Moment) (t : Turn) (last : Bool) (a : Answer) (now : Moment) : Type 0 where
  pub fits : IsFittingLine t.line
  pub behind : Moment
  pub line : IsLine rules m t.client t.line a behind
  pub whole : end_of a ≡ None
  pub closing : IsClosing rules behind t.client last now

-- ---- turns that aren't answered

-- Want of memory over a link: a step of the client's session was answered, and the answer was lost, behind as many of the Front steps that follow it as were made by
-- then. An answer that says that reading or the store failed isn't lost.
pub record IsCutOff (rules : Rules) (m : Moment) (c : Client) (q : Request) (now : Moment) : Type 0 where
  pub reply : Reply
  pub behind : Moment
  pub step : IsStepAt rules m c.session q reply behind
  pub answered : outcome_of reply ≡ Answered
  pub count : ℕ
  pub few : count ≤ fronts_behind (is_committed reply) c.standing
  pub fronts : IsTold rules count behind c.session now

-- so may a line of a client with a link be cut off that is one step
pub record IsCutAt (rules : Rules) (m : Moment) (c : Client) (l : Line) (now : Moment) : Type 0 where
  pub known : View
  pub linked : c.standing ≡ Linked known
  pub taken : connection_refusal m.machine c l ≡ None
  pub request : Request
  pub asks : request_of c.standing (changes_of c) l ≡ Some request
  pub cut : IsCutOff rules m c request now

-- and an opening, behind some of its two Front steps: the session is there, and no client has it
pub record IsCutOpening (rules : Rules) (m : Moment) (now : Moment) : Type 0 where
  pub room : length m.machine.sessions < session_limit
  pub count : ℕ
  pub few : count ≤ 2
  pub fronts : IsTold rules count (record m { machine = with_session m.machine }) (length m.machine.sessions) now

-- a line of a client, by its name
pub data IsCutLine (rules : Rules) (m : Moment) (name : List ℕ) (l : Line) (now : Moment) : Type 0 where
  by_step : (at : ℕ) (c : Client) → place_of_client name m.clients ≡ Some at → slice_get m.clients at ≡ Some c → IsCutAt rules m c l now → IsCutLine rules m name l now
  by_opening : opening_in l ≡ Some true → IsCutOpening rules m now → IsCutLine rules m name l now

-- A turn in which the store failed or memory ran out, so that it isn't answered: in its line, in the closing behind it, or, for want of memory, around
-- its steps, and then nothing else has changed; or over a link, and then steps of its line were made.
pub data IsBroken (rules : Rules) (m : Moment) (t : Turn) (last : Bool) (why : TurnError) (now : Moment) : Type 0 where
  by_line : (a : Answer) → IsLine rules m t.client t.line a now → end_of a ≡ Some why → IsBroken rules m t last why now
  by_closing : (a : Answer) (behind : Moment) (at : ℕ) (r : Reply) → last ≡ true → IsLine rules m t.client t.line a behind → end_of a ≡ None
      → place_of_client t.client behind.clients ≡ Some at → IsClosingAt rules behind at r now → end_of (answer_of r) ≡ Some why → IsBroken rules m t last why now
  by_memory : why ≡ error.Memory → now ≡ m → IsBroken rules m t last why now
  by_link : why ≡ error.Memory → IsCutLine rules m t.client t.line now → IsBroken rules m t last why now

-- how a turn ends
abbrev pub IsTurn : Rules → Moment → Turn → Bool → Result Answer TurnError → Moment → Type 0
IsTurn rules m t last (Ok a) now = IsAnswered rules m t last a now
IsTurn rules m t last (Err why) now = IsBroken rules m t last why now
