-- Clients as they are kept: local ones, and those with a link to a session of the same program. Own.
use Rattle.std.specs.Prelude.{◌≡◌, ℕ, List, Option, Some, None, Result, Ok, Err, Bool, true, false, not}
use Rattle.zb_model.specs.declared.refusal.Refusal.{Refusal}
use Rattle.zb_model.specs.declared.refusal.Refusal.TheVariants as refusal
use Rattle.zb_ids.specs.declared.stamp.Stamp.{Stamp}
use Rattle.zodb_core.specs.HubState.{HubState, StandsForMachine, counts_of}
use Rattle.zodb_core.specs.Sound.{IsPackWithin}
use Rattle.connection_view.specs.declared.connection.Connection.{Connection}
use Rattle.connection_view.specs.Works.{Work}
use Rattle.connection_view.specs.Connections.{Between, InView, work_of}
use Rattle.connection_view.specs.Views as views
use Rattle.hub_carrier.specs.Ends.{machine_at}
use Rattle.local_loads.specs.Local.{MayBeTold, WritesLater}
use Rattle.remote_loads.specs.Standing.{Stands}
use Rattle.zeo_client.specs.Taking.{ClientState}
use Rattle.zeo_desk.specs.Desks.{DeskState}
use Rattle.client_turns.specs.declared.client.Client.{Client}
use Rattle.client_turns.specs.declared.linked.LinkedClient.{LinkedClient}
use Rattle.client_turns.specs.declared.member.Member.{Member}
use Rattle.client_turns.specs.declared.member.Member.TheVariants.{Near, Far}
use Rattle.client_turns.specs.Clients.{Changes, Moment, OpenTransaction}
use Rattle.client_turns.specs.Clients as clients

-- what a transaction would change, as it is kept
abbrev pub changes_kept : Work → Changes
changes_kept w = record { pending = w.pending; savepoints = w.savepoints; is_voted = w.is_voted }

-- ---- a local client

-- a transaction of a local client that is kept by a connection which has it: what it would change is the same, and what is read in it is its view
pub record IsWorkOf (k : Connection) (told : views.Client) (w : Work) (t : OpenTransaction) : Type 0 where
  pub changes : t.changes ≡ changes_kept w
  pub near : t.framed ≡ false
  pub view : InView k t.view told

-- the open transaction of a connection, or that none is open
abbrev pub IsOpenAs : Connection → views.Client → Result Work Refusal → Option OpenTransaction → Type 0
IsOpenAs k told (Ok w) (Some t) = IsWorkOf k told w t
IsOpenAs k told (Err r) None = (r ≡ refusal.NoTransaction) × Between k told
IsOpenAs k told _ _ = ⊥

-- A local client as it is kept, over a hub. What its session told it, and what its connection may have cached, is right for one of those that may be at its session.
pub record IsClientOf {R F : Type 0} (hub : HubState R F) (x : Client) (c : clients.Client) : Type 0 where
  pub name : c.name ≡ x.name
  pub session : c.session ≡ x.session
  pub local : c.standing ≡ clients.Local
  pub told : views.Client
  pub may : MayBeTold x.told hub told.told told.known
  pub transaction : IsOpenAs x.connection told (work_of x.connection) c.transaction

-- ---- a client with a link

-- a client as it is kept, of these parts
abbrev pub linked_as : List ℕ → ℕ → Connection → ClientState → DeskState → LinkedClient
linked_as name session connection client desk = record { name = name; session = session; connection = connection; client = client; desk = desk }

-- a transaction with a link that is kept by a connection which has it: what it would change is the same, and what is read in it is its view
pub record IsLinkedWork (k : Connection) (told : views.Client) (w : Work) (t : OpenTransaction) : Type 0 where
  pub changes : t.changes ≡ changes_kept w
  pub far : t.framed ≡ true
  pub view : InView k t.view told

abbrev pub IsLinkedOpen : Connection → views.Client → Result Work Refusal → Option OpenTransaction → Type 0
IsLinkedOpen k told (Ok w) (Some t) = IsLinkedWork k told w t
IsLinkedOpen k told (Err r) None = (r ≡ refusal.NoTransaction) × Between k told
IsLinkedOpen k told _ _ = ⊥

-- A client with a link as it is kept, over a hub. What it was told and has cached, and what its connection may have cached, is right for one of those that may be at its
-- session; what that one knows is what is known behind the link.
pub record IsLinkedOf {R F : Type 0} (hub : HubState R F) (x : LinkedClient) (c : clients.Client) : Type 0 where
  pub name : c.name ≡ x.name
  pub session : c.session ≡ x.session
  pub told : views.Client
  pub linked : c.standing ≡ clients.Linked told.known
  pub stands : Stands (machine_at hub) x.session x.desk x.client told
  pub transaction : IsLinkedOpen x.connection told (work_of x.connection) c.transaction

-- ---- a hub

-- a hub stands for the machine of a moment, whoever is there
pub record StandsForHub {R F : Type 0} (h : HubState R F) (left : Option (List Stamp)) (m : Moment) : Type 0 where
  pub hub : StandsForMachine h m.machine
  pub vote : WritesLater m.machine.list m.machine.vote
  pub within : IsPackWithin m.machine.list m.machine.pack
  pub counts : m.counts ≡ counts_of h.store
  pub stamps : m.stamps ≡ left

-- ---- either

-- of one whose session was closed, or whose line wasn't answered, just its name and its session are known, and that it has a link
abbrev pub IsFarOf : {R F : Type 0} → HubState R F → Bool → LinkedClient → clients.Client → Type 0
IsFarOf hub false x c = IsLinkedOf hub x c
IsFarOf hub true x c = (c.name ≡ x.name) × (c.session ≡ x.session) × ((known : views.View) × (c.standing ≡ clients.Linked known))

abbrev pub IsMemberOf : {R F : Type 0} → HubState R F → Member → clients.Client → Type 0
IsMemberOf hub (Near x) c = IsClientOf hub x c
IsMemberOf hub (Far x) c = IsFarOf hub x.is_lost x.client c

-- one with a link whose lines are answered
abbrev pub far : LinkedClient → Member
far x = Far (record { client = x; is_lost = false })

abbrev pub name_of : Member → List ℕ
name_of (Near x) = x.name
name_of (Far x) = x.client.name

abbrev pub session_of : Member → ℕ
session_of (Near x) = x.session
session_of (Far x) = x.client.session

abbrev pub connection_of : Member → Connection
connection_of (Near x) = x.connection
connection_of (Far x) = x.client.connection

-- what its connection has open, while its lines are answered
abbrev pub work_far : Bool → Connection → Result Work Refusal
work_far false k = work_of k
work_far true k = Err refusal.NoTransaction

abbrev pub work_kept : Member → Result Work Refusal
work_kept (Near x) = work_of x.connection
work_kept (Far x) = work_far x.is_lost x.client.connection

abbrev pub is_linked : Member → Bool
is_linked (Near x) = false
is_linked (Far x) = true

-- what is at its link, if it has one, isn't known any more
abbrev pub is_lost : Member → Bool
is_lost (Near x) = false
is_lost (Far x) = x.is_lost

-- one whose lines are answered over a link
abbrev pub holds_link : Member → Bool
holds_link (Near x) = false
holds_link (Far x) = not x.is_lost

-- the same, but what is at its link isn't known any more
abbrev pub without_link : Member → Member
without_link (Near x) = Near x
without_link (Far x) = Far (record { client = x.client; is_lost = true })
