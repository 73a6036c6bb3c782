-- What a client remembers between its lines, and what there is at a moment. Source: connections and transactions of ZODB.
use Rattle.std.specs.Prelude.{Bool, List, None, Option, Some, [], bytes_eq, false, slice_get, slice_set, true, ℕ}
use Rattle.std.specs.List.{position}
use Rattle.std.specs.Option.{option_map}
use Rattle.zb_ids.specs.declared.stamp.Stamp.{Stamp}
use Rattle.zb_model.specs.declared.data.Transaction.{Transaction}
use Rattle.commit_phases.specs.Pending.{PendingChanges}
use Rattle.zodb_core.specs.Machine.{Machine, machine_over}
use Rattle.zodb_core.specs.Outcomes.{FaultCounts}
use Rattle.connection_view.specs.Views.{View}

-- what an open transaction would change: the stores and checks that wait for a vote, what waited at each of its savepoints, and whether they, or an undo, are
-- voted
pub record Changes : Type 0 where
  pub pending : PendingChanges
  pub savepoints : List PendingChanges
  pub is_voted : Bool

-- an open transaction: its view, what it would change, and whether its reads come in frames, over a link
pub record OpenTransaction : Type 0 where
  pub view : View
  pub changes : Changes
  pub framed : Bool

-- How a client stands to its session: in the same program, or behind a link, with the view that is known there.
pub data Standing : Type 0 where
  Local : Standing
  Linked : View → Standing

-- a client: its name, the number of its session, its open transaction, if any, and how it stands
pub record Client : Type 0 where
  pub name : List ℕ
  pub session : ℕ
  pub transaction : Option OpenTransaction
  pub standing : Standing

-- what there is at a moment: the machine, the clients in the order of their openings, what the clock has still to give, where it tells, and the
-- counts of faults
pub record Moment : Type 0 where
  pub machine : Machine
  pub clients : List Client
  pub stamps : Option (List Stamp)
  pub counts : FaultCounts

-- the moment before the first turn: a list without sessions and clients
abbrev pub first_moment : List Transaction → Option (List Stamp) → FaultCounts → Moment
first_moment list stamps counts = record { machine = machine_over list; clients = []; stamps = stamps; counts = counts }

abbrev pub nothing_pending : PendingChanges
nothing_pending = record { stores = []; checks = [] }

-- no changes yet
abbrev pub no_changes : Changes
no_changes = record { pending = nothing_pending; savepoints = []; is_voted = false }

-- a transaction that sees this, of a local client, and of one with a link
abbrev pub begun : View → OpenTransaction
begun v = record { view = v; changes = no_changes; framed = false }

abbrev pub begun_far : View → OpenTransaction
begun_far v = record { view = v; changes = no_changes; framed = true }

-- what the client's open transaction would change
abbrev pub changes_of : Client → Option Changes
changes_of c = option_map (λ t. t.changes) c.transaction

abbrev pub has_name : List ℕ → Client → Bool
has_name name c = bytes_eq c.name name

-- the place of the first client of this name
abbrev pub place_of_client : List ℕ → List Client → Option ℕ
place_of_client name clients = position (has_name name) clients

-- the client at a place, if there is one, and the first one of a name
abbrev pub client_found : List Client → Option ℕ → Option Client
client_found clients None = None
client_found clients (Some at) = slice_get clients at

abbrev pub client_named : List ℕ → List Client → Option Client
client_named name clients = client_found clients (place_of_client name clients)

-- a moment at which the client at a place is this one
abbrev pub with_client : Moment → ℕ → Client → Moment
with_client m at c = record m { clients = slice_set m.clients at c }

-- the client with this transaction
abbrev pub with_transaction : Client → OpenTransaction → Client
with_transaction c t = record c { transaction = Some t }
