-- What a connection refuses by itself, in its order. Source: `Connection` and `Transaction` of ZODB.
use Rattle.std.specs.Prelude.{ℕ, ◌+◌, ◌<◌, ◌≤◌, Option, Some, None, Bool, not, nat_lt, length, is_some}
use Rattle.std.specs.Option.{option_or}
use Rattle.zb_model.specs.declared.refusal.Refusal.{Refusal}
use Rattle.zb_model.specs.declared.refusal.Refusal.TheVariants as refusal
use Rattle.zb_script.specs.declared.line.Line.{Line}
use Rattle.zb_script.specs.declared.line.Line.TheVariants as line
use Rattle.commit_phases.specs.Pending.{PendingChanges}
use Rattle.zodb_core.specs.Machine.{Machine, is_open_in}
use Rattle.zodb_core.specs.Steps.{refuse_if}
use Rattle.client_turns.specs.Clients.{Changes, Client, changes_of}

-- how many stores and checks wait
abbrev pub pending_count : PendingChanges → ℕ
pending_count pending = length pending.stores + length pending.checks

-- an undo isn't taken beside changes
abbrev pub mixed : PendingChanges → Option Refusal
mixed pending = refuse_if (nat_lt 0 (pending_count pending)) (refusal.Mixed (pending_count pending))

-- what an open transaction doesn't take: a change or a vote once it is voted, or an undo beside changes
abbrev pub transaction_refusal : Changes → Line → Option Refusal
transaction_refusal t (line.Store oid base bytes) = refuse_if t.is_voted refusal.Voted
transaction_refusal t (line.Put oid bytes) = refuse_if t.is_voted refusal.Voted
transaction_refusal t (line.Check oid serial) = refuse_if t.is_voted refusal.Voted
transaction_refusal t (line.Delete oid base) = refuse_if t.is_voted refusal.Voted
transaction_refusal t (line.Vote user description) = refuse_if t.is_voted refusal.Voted
transaction_refusal t (line.Undo user description tids) = option_or (refuse_if t.is_voted refusal.Voted) (mixed t.pending)
transaction_refusal t line.Savepoint = refuse_if t.is_voted refusal.Voted
transaction_refusal t (line.Rollback number) = refuse_if t.is_voted refusal.Voted
transaction_refusal t _ = None

-- a line that needs an open transaction
abbrev pub refusal_within : Option Changes → Line → Option Refusal
refusal_within None l = Some refusal.NoTransaction
refusal_within (Some t) l = transaction_refusal t l

-- what an open connection refuses, with these changes in its transaction, where one is open
abbrev pub line_refusal : Option Changes → Line → Option Refusal
line_refusal t (line.Open remote) = None
line_refusal t line.Begin = refuse_if (is_some t) refusal.InTransaction
line_refusal t line.New = None
line_refusal t line.Deliver = None
line_refusal t (line.History oid) = None
line_refusal t line.UndoLog = None
line_refusal t (line.Pack tid collect) = None
line_refusal t (line.PackBegin tid collect) = None
line_refusal t line.PackTurn = None
line_refusal t line.Close = None
line_refusal t l = refusal_within t l

-- what a connection refuses: any line once its session is closed, and else by its transaction
abbrev pub connection_refusal : Machine → Client → Line → Option Refusal
connection_refusal m c l = option_or (refuse_if (not (is_open_in m.sessions c.session)) refusal.NotOpen) (line_refusal (changes_of c) l)

-- a line as each line of a script is: what it stores has a byte, and its texts have lengths of 16 bits
abbrev pub IsFittingLine : Line → Type 0
IsFittingLine (line.Store oid base bytes) = 0 < length bytes
IsFittingLine (line.Put oid bytes) = 0 < length bytes
IsFittingLine (line.Vote user description) = (length user ≤ 65535) × (length description ≤ 65535)
IsFittingLine (line.Undo user description tids) = (length user ≤ 65535) × (length description ≤ 65535)
IsFittingLine _ = Unit {0}

-- the line that opens a session, with whether its client has a link to it
abbrev pub opening_in : Line → Option Bool
opening_in (line.Open remote) = Some remote
opening_in _ = None
