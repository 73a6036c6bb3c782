-- Clients with a link to a session of the same program, as they are kept, and how their lines end. Own.
use Rattle.std.specs.Prelude.{◌≡◌, ◌⊎◌, ℕ, List, Option, Some, None, Result, Ok, Err, true, slice_get, slice_set}
use Rattle.zb_ids.specs.declared.stamp.Stamp.{Stamp}
use Rattle.zb_model.specs.declared.refusal.Refusal.{Refusal}
use Rattle.zb_model.specs.declared.refusal.Refusal.TheVariants as refusal
use Rattle.zb_answers.specs.declared.answer.Answer.{Answer}
use Rattle.zb_script.specs.declared.line.Line.{Line}
use Rattle.zodb_core.specs.HubState.{HubState}
use Rattle.zodb_core.specs.Machine.{Rules, is_open_in}
use Rattle.connection_view.specs.Views as views
use Rattle.hub_carrier.specs.Ends.{machine_at}
use Rattle.remote_loads.specs.Standing.{Stands}
use Rattle.client_turns.specs.declared.linked.LinkedClient.{LinkedClient}
use Rattle.client_turns.specs.Clients.{Moment, OpenTransaction}
use Rattle.client_turns.specs.Clients as clients
use Rattle.client_turns.specs.declared.errors.TurnError.{TurnError}
use Rattle.client_turns.specs.declared.errors.TurnError.TheVariants as error
use Rattle.client_turns.specs.Laws.{IsFormedClient}
use Rattle.client_turns.specs.Lines.{end_in, end_of}
pub use Rattle.client_turns.specs.Members.{IsLinkedOf, IsLinkedOpen, IsLinkedWork, StandsForHub, linked_as}
use Rattle.client_turns.specs.Others.{KeepsOthers}
use Rattle.client_turns.specs.Standing.{IsLineOpen}
use Rattle.client_turns.specs.Trees.{IsDrawn, IsUndrawn}
use Rattle.client_turns.specs.Turns.{IsCutAt}

-- ---- one client

-- and a client with a link stands for the one at a place, in an open session; what waits there is well formed
pub record MayTakeLinked {R F : Type 0} (hub : HubState R F) (left : Option (List Stamp)) (m : Moment) (at : ℕ) (x : LinkedClient) (c : clients.Client) : Type 0 where
  pub stands : StandsForHub hub left m
  pub client : IsLinkedOf hub x c
  pub formed : IsFormedClient c
  pub there : slice_get m.clients at ≡ Some c
  pub may : is_open_in m.machine.sessions c.session ≡ true

-- A moment of which this holds, and for which the hub and this client stand, which has the place of that one, of session n; the clients of all others are kept.
pub record LinkedLeadsTo {R F : Type 0} (Q : Moment → Type 0) (m : Moment) (at n : ℕ) (old new : HubState R F) (y : LinkedClient) (left : Option (List Stamp)) : Type 0 where
  pub now : Moment
  pub holds : Q now
  pub stands : StandsForHub new left now
  pub client : clients.Client
  pub placed : now.clients ≡ slice_set m.clients at client
  pub is : IsLinkedOf new y client
  pub others : KeepsOthers n old new

-- some client may be at its link: what its desk makes of what it sends is known
abbrev pub MayStand : {R F : Type 0} → HubState R F → LinkedClient → Type 0
MayStand hub x = (v : views.Client) × Stands (machine_at hub) x.session x.desk x.client v

-- ---- a line

-- a moment of which this holds and for which the hub stands, with the clients that there were; nothing is said of the client that is kept any more
pub record LinkLeadsTo {R F : Type 0} (Q : Moment → Type 0) (m : Moment) (n : ℕ) (old new : HubState R F) (left : Option (List Stamp)) : Type 0 where
  pub now : Moment
  pub holds : Q now
  pub stands : StandsForHub new left now
  pub clients : now.clients ≡ m.clients
  pub others : KeepsOthers n old new

-- How a line ends. It is answered as it says; or the store failed or memory ran out, and it is answered so, or for want of memory cut off behind steps of it: then the run ends.
abbrev pub LinkedEnds : {R F : Type 0} → Option TurnError → Rules → Moment → ℕ → clients.Client → Line → Answer → HubState R F → HubState R F → LinkedClient → Option (List Stamp) → Type 0
LinkedEnds None rules m at c l a old new y left = LinkedLeadsTo (IsLineOpen rules m at c l a) m at c.session old new y left
LinkedEnds (Some error.StoreFault) rules m at c l a old new y left = LinkLeadsTo (IsLineOpen rules m at c l a) m c.session old new left
LinkedEnds (Some error.Memory) rules m at c l a old new y left = LinkLeadsTo (λ now. IsLineOpen rules m at c l a now ⊎ IsCutAt rules m c l now) m c.session old new left

-- a line of a client with a link, at whatever moment it takes its turn
abbrev pub TakesLinked : {R F : Type 0} → Type 0 → Rules → Line → Answer → HubState R F → HubState R F → LinkedClient → LinkedClient → Option (List Stamp) → Option (List Stamp) → Type 0
TakesLinked told rules l a old new x y before after =
    told → (m : Moment) (at : ℕ) (c : clients.Client) → MayTakeLinked old before m at x c → LinkedEnds (end_of a) rules m at c l a old new y after

-- ---- a read

abbrev pub end_of_result : {T : Type 0} → Result T Refusal → Option TurnError
end_of_result (Ok x) = None
end_of_result (Err why) = end_in why

-- how a read or a draw of a client with a link ends: where the run ends, nothing is said of the client that is kept
abbrev pub LinkedGives : {R F : Type 0} → Option TurnError → (Moment → Type 0) → Moment → ℕ → ℕ → HubState R F → HubState R F → LinkedClient → Option (List Stamp) → Type 0
LinkedGives None Q m at n old new y left = LinkedLeadsTo Q m at n old new y left
LinkedGives (Some why) Q m at n old new y left = LinkLeadsTo Q m n old new left

-- what a client with a link has of an object, at whatever moment it reads
abbrev pub TakesLinkedRead : {R F : Type 0} → Type 0 → (Moment → Option OpenTransaction → ℕ → Result (ℕ × List ℕ) Refusal → Moment → Type 0) → ℕ → Result (ℕ × List ℕ) Refusal → HubState R F → HubState R F → LinkedClient → LinkedClient
    → Option (List Stamp) → Option (List Stamp) → Type 0
TakesLinkedRead told is oid result old new x y before after =
    told → (m : Moment) (at : ℕ) (c : clients.Client) → MayTakeLinked old before m at x c → LinkedGives (end_of_result result) (is m c.transaction oid result) m at c.session old new y after

-- A number that its session draws, for a call on a tree. For want of memory none was drawn, or its answer was lost.
abbrev pub IsLinkedDraw : Moment → ℕ → Result ℕ Refusal → Moment → Type 0
IsLinkedDraw m n (Ok oid) now = IsDrawn m n oid now
IsLinkedDraw m n (Err refusal.Memory) now = (now ≡ m) ⊎ ((oid : ℕ) × IsDrawn m n oid now)
IsLinkedDraw m n (Err why) now = IsUndrawn m n why now

abbrev pub TakesLinkedDraw : {R F : Type 0} → Type 0 → Result ℕ Refusal → HubState R F → HubState R F → LinkedClient → LinkedClient → Option (List Stamp) → Option (List Stamp) → Type 0
TakesLinkedDraw told result old new x y before after =
    told → (m : Moment) (at : ℕ) (c : clients.Client) → MayTakeLinked old before m at x c → LinkedGives (end_of_result result) (IsLinkedDraw m c.session result) m at c.session old new y after
