-- The server that a hub is to its local clients, and the views of a client that may be at a session of it. Own.
use Rattle.std.specs.Prelude.{◌≡◌, ℕ, ◌<◌, ◌^◌, List, [], ◌∷◌, Option, Some, None, Bool, true, false, IfSome, length}
use Rattle.std.specs.Option.{option_map}
use Rattle.zb_ids.specs.declared.stamp.Stamp.{Stamp}
use Rattle.zb_model.specs.declared.data.Transaction.{Transaction}
use Rattle.zb_model.specs.Database.{newest_tid}
use Rattle.zodb_core.specs.declared.journal.JournalEntry.{JournalEntry}
use Rattle.zodb_core.specs.HubState.{HubState, pack_with, vote_of_hub}
use Rattle.zodb_core.specs.Machine.{MachineVote, switches_of}
use Rattle.zodb_core.specs.Sound.{IsPackWithin}
use Rattle.connection_view.specs.Views.{Later, Server, View, view_of}
use Rattle.local_loads.specs.declared.told.Told.{Told}

-- ---- the server

-- Of a store that failed nothing is known. In its place stands a list that shows nothing, behind each front, and that was packed more often than any view
-- says.
abbrev pub lost_server : Server
lost_server = record {
  list = (record { tid = 2 ^ 64; packed = false; user = []; description = []; extension = []; changes = [] }) ∷ [];
  switches = 2 ^ 64;
  greatest = 2 ^ 64;
}

abbrev pub server_unless : Bool → List Transaction → List JournalEntry → ℕ → Server
server_unless true list journal greatest = lost_server
server_unless false list journal greatest = record { list = list; switches = switches_of journal; greatest = greatest }

-- what stands in a hub: the list, how often it was packed, and the greatest number of an object
abbrev pub server_of : {R F : Type 0} → HubState R F → Server
server_of hub = server_unless hub.store.broken hub.store.list hub.journal hub.greatest

-- ---- the client

-- what is kept of the view that a client was told of last: it was told nothing yet, or of this
abbrev pub IsToldOf : Option Told → View → Type 0
IsToldOf None v = Unit {0}
IsToldOf (Some t) v = (t.front ≡ v.front) × (t.switches ≡ v.switches)

-- the view of a client that was told nothing yet
abbrev pub first_view : View
first_view = record { front = 0; list = []; switches = 0 }

-- what is voted is later than the list
abbrev pub WritesLater : List Transaction → Option MachineVote → Type 0
WritesLater list None = Unit {0}
WritesLater list (Some v) = IfSome v.writes (λ t. newest_tid list < t.tid)

-- A client of a session of this hub may have been told of this view last, and have this known one: what stands in the hub is later than both, what
-- is voted there is later still, and the open pack leaves the newest transaction whole. Of a store that failed only the view that was told counts.
pub record MayBeTold {R F : Type 0} (t : Option Told) (hub : HubState R F) (v w : View) : Type 0 where
  pub last : IsToldOf t v
  pub front : v.front < 2 ^ 64
  pub switches : v.switches < 2 ^ 64
  pub later : Later v (view_of (server_of hub))
  pub known : hub.store.broken ≡ false → Later w (view_of (server_of hub))
  pub votes : hub.store.broken ≡ false → WritesLater hub.store.list (option_map (vote_of_hub hub.store.voted) hub.vote)
  pub within : hub.store.broken ≡ false → IsPackWithin hub.store.list (pack_with hub.store (length hub.journal) hub.pack)

-- ---- what calls change

-- what contracts see of a client's end: the hub, the stamps that its clock has left, and what the client was told last
pub record LocalState (R F : Type 0) : Type 0 where
  pub hub : HubState R F
  pub stamps : Option (List Stamp)
  pub last : Option Told
