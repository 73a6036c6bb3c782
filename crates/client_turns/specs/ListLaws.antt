-- A list that only was as it was may be seen at each moment. For the proofs of those who follow turns.
use Rattle.std.proofs.Common.{ℕ, List, Option, Some, None, inl}
use Rattle.zb_model.specs.declared.data.Transaction.{Transaction}
use Rattle.zb_script.specs.declared.line.Line.{Line}
use Rattle.zb_script.specs.declared.line.Turn.{Turn}
use Rattle.zodb_core.specs.declared.request.Request.{Request}
use Rattle.zodb_core.specs.Machine.{Machine, Rules}
use Rattle.client_turns.specs.Clients.{Moment, changes_of, client_named}
use Rattle.client_turns.specs.Clients as clients
use Rattle.client_turns.specs.Lines.{request_of}
use Rattle.client_turns.specs.Refusing.{connection_refusal}
use Rattle.client_turns.specs.Standing.{IsListAsked, IsListIn, IsListStepped, request_unless}

pub stepped_kept : (stands : List ℕ → List Transaction → Type 0) (rules : Rules) (m : Machine) (n : ℕ) (q : Option Request) (bytes : List ℕ) → stands bytes m.list → IsListStepped stands rules m n q bytes
stepped_kept stands rules m n None bytes left = left
stepped_kept stands rules m n (Some q) bytes left = inl left

pub asked_kept : (stands : List ℕ → List Transaction → Type 0) (rules : Rules) (m : Machine) (c : Option clients.Client) (l : Line) (bytes : List ℕ) → stands bytes m.list → IsListAsked stands rules m c l bytes
asked_kept stands rules m None l bytes left = left
asked_kept stands rules m (Some c) l bytes left = stepped_kept stands rules m c.session (request_unless (connection_refusal m c l) (request_of c.standing (changes_of c) l)) bytes left

-- a list that only was as it was may be seen in each turn
pub turn_kept : (stands : List ℕ → List Transaction → Type 0) (rules : Rules) (m : Moment) (t : Turn) (bytes : List ℕ) → stands bytes m.machine.list → IsListIn stands rules m t bytes
turn_kept stands rules m t bytes left = asked_kept stands rules m.machine (client_named t.client m.clients) t.line bytes left
