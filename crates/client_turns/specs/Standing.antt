-- What contracts see of clients over a hub, and the moments that they stand for. Own.
use Rattle.std.specs.Prelude.{◌≡◌, ◌⊎◌, ℕ, ◌+◌, ◌<◌, ◌≤◌, length, List, [], ◌∷◌, Option, Some, None, Result, Ok, Err, Bool, true, false, IsSome, bytes_eq, slice_get, slice_set}
use Rattle.std.specs.List.{position}
use Rattle.zb_ids.specs.declared.stamp.Stamp.{Stamp}
use Rattle.zb_model.specs.declared.data.Transaction.{Transaction}
use Rattle.zb_model.specs.declared.refusal.Refusal.{Refusal}
use Rattle.zb_model.specs.declared.refusal.Refusal.TheVariants as refusal
use Rattle.zb_answers.specs.declared.answer.Answer.{Answer}
use Rattle.zb_answers.specs.declared.answer.Answer.TheVariants as answer
use Rattle.zb_script.specs.declared.line.Line.{Line}
use Rattle.zb_script.specs.declared.line.Line.TheVariants as line
use Rattle.zb_script.specs.declared.line.Turn.{Turn}
use Rattle.zodb_core.specs.declared.reply.Reply.{Reply}
use Rattle.zodb_core.specs.declared.request.Request.{Request}
use Rattle.zodb_core.specs.declared.request.Request.TheVariants as request
use Rattle.zodb_core.specs.Sound.{IsPackWithin}
use Rattle.zodb_core.specs.HubState.{HubState, IsBeforeOrBehind, StandsForMachine, counts_of, is_store_failed}
use Rattle.zodb_core.specs.Machine.{Machine, Rules, is_open_in}
use Rattle.zodb_core.specs.Outcomes.{Answered, AreLaterCounts, FaultCounts, StepOutcome, outcome_of, outcome_of_refusal}
use Rattle.client_turns.specs.declared.client.Client.{Client}
use Rattle.client_turns.specs.declared.member.Member.{Member}
use Rattle.connection_view.specs.Works.{Work}
use Rattle.client_turns.specs.declared.errors.TurnError.{TurnError}
use Rattle.client_turns.specs.Clients.{Changes, Moment, OpenTransaction, changes_of, client_named, place_of_client}
use Rattle.client_turns.specs.Clients as clients
use Rattle.client_turns.specs.Laws.{IsFormedClient, IsSoundMoment}
use Rattle.client_turns.specs.Lines.{IsCountedBy, answer_of, asking_excess, end_of, outcome_of_answer, request_of}
pub use Rattle.client_turns.specs.Members.{IsClientOf, IsFarOf, IsMemberOf, IsOpenAs, IsWorkOf, StandsForHub, changes_kept, connection_of, far, name_of, session_of, work_kept}
use Rattle.client_turns.specs.Others.{KeepsOthers}
use Rattle.client_turns.specs.Refusing.{connection_refusal, line_refusal}
use Rattle.client_turns.specs.Steps.{IsReadAt}
use Rattle.client_turns.specs.Turns.{IsClosingAt, IsCutAt, IsLineUnless, IsOwnLine, IsStepLine}
use Rattle.connection_view.specs.Connections.{waiting_read}
use Rattle.local_loads.specs.Local.{WritesLater}
use Rattle.commit_phases.specs.Pending.{pending_of}
use Rattle.zb_model.specs.declared.pending.PendingStore.{PendingStore}
use Rattle.zb_volume.specs.declared.areas.Area.TheVariants.{Main, Side}
use Rattle.zb_volume.specs.Moments.{Leaves, LeavesOnly, StaysAs}

-- what contracts see of clients over a hub
pub record ClientsState (R F : Type 0) : Type 0 where
  pub hub : HubState R F
  pub clients : List Member

-- a transaction that is kept, with these changes
abbrev pub with_kept : Work → Changes → Work
with_kept w ch = record { front = w.front; switches = w.switches; pending = ch.pending; savepoints = ch.savepoints; is_voted = ch.is_voted }

-- each client that is kept is one
abbrev pub AreClientsOf : {R F : Type 0} → HubState R F → List Member → List clients.Client → Type 0
AreClientsOf hub [] [] = Unit {0}
AreClientsOf hub (x ∷ xs) (c ∷ cs) = IsMemberOf hub x c × AreClientsOf hub xs cs
AreClientsOf hub _ _ = ⊥

-- sessions of clients rise in the order of their openings, from a number on, and are below a count
abbrev pub RiseBelow : ℕ → ℕ → List clients.Client → Type 0
RiseBelow low count [] = Unit {0}
RiseBelow low count (c ∷ cs) = (low ≤ c.session) × (c.session < count) × RiseBelow (c.session + 1) count cs

-- what is voted is later than the list, and the open pack leaves its newest transaction whole
pub record IsAhead (m : Machine) : Type 0 where
  pub writes : WritesLater m.list m.vote
  pub within : IsPackWithin m.list m.pack

-- The clients stand for a moment, which is sound: their hub for its machine, and each of them, with a session of its own, for its client there.
pub record StandsForMoment {R F : Type 0} (seen : ClientsState R F) (left : Option (List Stamp)) (m : Moment) : Type 0 where
  pub hub : StandsForMachine seen.hub m.machine
  pub vote : WritesLater m.machine.list m.machine.vote
  pub within : IsPackWithin m.machine.list m.machine.pack
  pub clients : AreClientsOf seen.hub seen.clients m.clients
  pub apart : RiseBelow 0 (length m.machine.sessions) m.clients
  pub sound : IsSoundMoment m
  pub counts : m.counts ≡ counts_of seen.hub.store
  pub stamps : m.stamps ≡ left

-- a moment of which this holds, and for which they stand
pub record LeadsTo {R F : Type 0} (Q : Moment → Type 0) (seen : ClientsState R F) (left : Option (List Stamp)) : Type 0 where
  pub now : Moment
  pub holds : Q now
  pub stands : StandsForMoment seen left now

-- what a line is answered and the moment behind it, or, for want of memory, the moment as it was
abbrev pub OrStarved : (Answer → Moment → Type 0) → Moment → Answer → Moment → Type 0
OrStarved Q m a now = Q a now ⊎ ((a ≡ answer.Refused refusal.Memory) × (now ≡ m))

-- and so it is, or its answer was lost over a link: it is answered want of memory
abbrev pub OrCut : (Answer → Moment → Type 0) → (Moment → Type 0) → Answer → Moment → Type 0
OrCut Q cut a now = Q a now ⊎ ((a ≡ answer.Refused refusal.Memory) × cut now)

abbrev pub IsCutOf : Rules → Moment → ℕ → Line → Moment → Type 0
IsCutOf rules m at l now = (c : clients.Client) × (slice_get m.clients at ≡ Some c) × IsCutAt rules m c l now

-- what a line of the client at a place is answered whose session is open
abbrev pub IsLineOpen : Rules → Moment → ℕ → clients.Client → Line → Answer → Moment → Type 0
IsLineOpen rules m at c l = OrStarved (IsLineUnless rules m at c l (line_refusal (changes_of c) l)) m

-- a line of the client at a place, whose session is open
abbrev pub IsOpenLineOf : Rules → Moment → ℕ → Line → Answer → Moment → Type 0
IsOpenLineOf rules m at l a now = (c : clients.Client) × (slice_get m.clients at ≡ Some c) × IsLineOpen rules m at c l a now

-- a line that is one step and no delivery, of the client at a place, for which it asks nothing that is too long
abbrev pub IsStepOf : Rules → Moment → ℕ → Request → Answer → Moment → Type 0
IsStepOf rules m at q a now = (c : clients.Client) × (slice_get m.clients at ≡ Some c) × (asking_excess c.standing q ≡ None) × IsStepLine rules m at c false q a now

-- a line that is none, of the client at a place
abbrev pub IsOwnOf : Moment → ℕ → Line → Answer → Moment → Type 0
IsOwnOf m at l a now = (c : clients.Client) × (slice_get m.clients at ≡ Some c) × IsOwnLine m at c c.transaction l a now

-- what the closing of the session of a client gives: nothing where it has none, else how the step ends the run
abbrev pub ClosesAs : Rules → Moment → Option ℕ → Option TurnError → Moment → Type 0
ClosesAs rules m None ended now = (ended ≡ None) × (now ≡ m)
ClosesAs rules m (Some at) ended now = (r : Reply) × IsClosingAt rules m at r now × (ended ≡ end_of (answer_of r))

-- and so behind the last line of a client
abbrev pub ClosesIf : Rules → Moment → List ℕ → Bool → Option TurnError → Moment → Type 0
ClosesIf rules m name false ended now = (ended ≡ None) × (now ≡ m)
ClosesIf rules m name true ended now = ClosesAs rules m (place_of_client name m.clients) ended now

-- ---- one client

-- A hub and one client stand for those of a moment, whoever else is there.
pub record StandsForOne {R F : Type 0} (h : HubState R F) (left : Option (List Stamp)) (m : Moment) (x : Client) (c : clients.Client) : Type 0 where
  pub hub : StandsForMachine h m.machine
  pub vote : WritesLater m.machine.list m.machine.vote
  pub within : IsPackWithin m.machine.list m.machine.pack
  pub counts : m.counts ≡ counts_of h.store
  pub stamps : m.stamps ≡ left
  pub client : IsClientOf h x c

-- and the client stands at this place, in an open session; what waits there is well formed
pub record MayTakeAt {R F : Type 0} (hub : HubState R F) (left : Option (List Stamp)) (m : Moment) (at : ℕ) (x : Client) (c : clients.Client) : Type 0 where
  pub stands : StandsForOne hub left m x c
  pub formed : IsFormedClient c
  pub there : slice_get m.clients at ≡ Some c
  pub may : is_open_in m.machine.sessions c.session ≡ true

-- A moment of which this holds, and for which the hub and this client stand, which has the place of that one; the clients of all other sessions are kept.
pub record OneLeadsTo {R F : Type 0} (Q : Moment → Type 0) (m : Moment) (at : ℕ) (old new : HubState R F) (y : Client) (left : Option (List Stamp)) : Type 0 where
  pub now : Moment
  pub holds : Q now
  pub client : clients.Client
  pub placed : now.clients ≡ slice_set m.clients at client
  pub stands : StandsForOne new left now y client
  pub others : (c : clients.Client) → slice_get m.clients at ≡ Some c → KeepsOthers c.session old new

-- ---- one client, of either kind

-- a hub stands for that of a moment, and a client for the one at a place, in an open session; what waits there is well formed
pub record MayTakeMember {R F : Type 0} (hub : HubState R F) (left : Option (List Stamp)) (m : Moment) (at : ℕ) (x : Member) (c : clients.Client) : Type 0 where
  pub stands : StandsForHub hub left m
  pub client : IsMemberOf hub x c
  pub formed : IsFormedClient c
  pub there : slice_get m.clients at ≡ Some c
  pub may : is_open_in m.machine.sessions c.session ≡ true

-- a moment of which this holds, and for which the hub and this client stand, which has the place of that one, of session n; the clients of all others are kept
pub record MemberLeadsTo {R F : Type 0} (Q : Moment → Type 0) (m : Moment) (at n : ℕ) (old new : HubState R F) (y : Member) (left : Option (List Stamp)) : Type 0 where
  pub now : Moment
  pub holds : Q now
  pub stands : StandsForHub new left now
  pub client : clients.Client
  pub placed : now.clients ≡ slice_set m.clients at client
  pub is : IsMemberOf new y client
  pub others : KeepsOthers n old new

-- a line of a client, at whatever moment it takes its turn
abbrev pub TakesMember : {R F : Type 0} → Type 0 → Rules → Line → Answer → HubState R F → HubState R F → Member → Member → Option (List Stamp) → Option (List Stamp) → Type 0
TakesMember told rules l a old new x y before after =
    told → (m : Moment) (at : ℕ) (c : clients.Client) → MayTakeMember old before m at x c → MemberLeadsTo (OrCut (IsLineOpen rules m at c l) (IsCutAt rules m c l) a) m at c.session old new y after

-- clients stand for some moment
abbrev pub MayStandFor : {R F : Type 0} → ClientsState R F → Option (List Stamp) → Type 0
MayStandFor seen left = (m : Moment) × StandsForMoment seen left m

-- and a client at some place of one
abbrev pub MayBeThere : {R F : Type 0} → HubState R F → Member → Type 0
MayBeThere hub x = (c : clients.Client) × IsMemberOf hub x c

-- ---- reads

-- a read in an open transaction, or that none is open
abbrev pub IsReadWhere : Moment → Option OpenTransaction → ℕ → Result (ℕ × List ℕ) Refusal → Moment → Type 0
IsReadWhere m None oid result now = (result ≡ Err refusal.NoTransaction) × (now ≡ m)
IsReadWhere m (Some t) oid result now = IsReadAt m t oid result now

-- what a transaction has of an object: what waits for it, for which memory is free to run out, or else what its view has
abbrev pub IsGotAs : Moment → OpenTransaction → ℕ → Option PendingStore → Result (ℕ × List ℕ) Refusal → Moment → Type 0
IsGotAs m t oid (Some p) result now = ((result ≡ waiting_read oid p) ⊎ (result ≡ Err refusal.Memory)) × (now ≡ m)
IsGotAs m t oid None result now = IsReadAt m t oid result now

abbrev pub IsGotWhere : Moment → Option OpenTransaction → ℕ → Result (ℕ × List ℕ) Refusal → Moment → Type 0
IsGotWhere m None oid result now = (result ≡ Err refusal.NoTransaction) × (now ≡ m)
IsGotWhere m (Some t) oid result now = IsGotAs m t oid (pending_of t.changes.pending.stores oid) result now

abbrev pub IsGotOf : Moment → ℕ → ℕ → Result (ℕ × List ℕ) Refusal → Moment → Type 0
IsGotOf m at oid result now = (c : clients.Client) × (slice_get m.clients at ≡ Some c) × IsGotWhere m c.transaction oid result now

-- what a client of either kind has of an object, at whatever moment it reads in an open transaction
abbrev pub TakesMemberRead : {R F : Type 0} → Type 0 → ℕ → Result (ℕ × List ℕ) Refusal → HubState R F → HubState R F → Member → Member → Option (List Stamp) → Option (List Stamp) → Type 0
TakesMemberRead told oid result old new x y before after =
    told → (m : Moment) (at : ℕ) (c : clients.Client) → MayTakeMember old before m at x c → IsSome c.transaction → MemberLeadsTo (IsGotWhere m c.transaction oid result) m at c.session old new y after

-- ---- what holds whatever the store tells

-- The counts are as the reply says: a count rose where something failed, and no other has moved, but where the store failed. Rules and references stay.
pub record MakesSafely {R F : Type 0} (r : Reply) (old new : HubState R F) : Type 0 where
  pub resolver : new.resolver ≡ old.resolver
  pub refs : new.refs ≡ old.refs
  pub later : AreLaterCounts (counts_of old.store) (counts_of new.store)
  pub cause : IsCountedBy (counts_of old.store) (counts_of new.store) (outcome_of r)
  pub broken : old.store.broken ≡ false → new.store.broken ≡ is_store_failed (outcome_of r)

-- an answer that says that the store failed, or that reading failed, comes only where that count rose, and any other, want of memory too, only where neither has
-- moved
abbrev pub HasTurnCause : FaultCounts → FaultCounts → Answer → Type 0
HasTurnCause before now a = IsCountedBy before now (outcome_of_answer a)

-- the session of the client at a place is open
abbrev pub MayAskAt : Moment → ℕ → Type 0
MayAskAt m at = (c : clients.Client) × (slice_get m.clients at ≡ Some c) × (is_open_in m.machine.sessions c.session ≡ true)

-- and so is a transaction
abbrev pub MayReadAt : Moment → ℕ → Type 0
MayReadAt m at = (c : clients.Client) × (slice_get m.clients at ≡ Some c) × (is_open_in m.machine.sessions c.session ≡ true) × IsSome c.transaction

-- clients stand for such a moment
abbrev pub MayAskFor : {R F : Type 0} → ClientsState R F → Option (List Stamp) → ℕ → Type 0
MayAskFor seen left at = (m : Moment) × StandsForMoment seen left m × MayAskAt m at

abbrev pub MayReadFor : {R F : Type 0} → ClientsState R F → Option (List Stamp) → ℕ → Type 0
MayReadFor seen left at = (m : Moment) × StandsForMoment seen left m × MayReadAt m at

-- ---- what a crash leaves

-- the request that a line makes of the machine: none, where its client's connection refuses the line
abbrev pub request_unless : Option Refusal → Option Request → Option Request
request_unless (Some why) q = None
request_unless None q = q

-- bytes stand for the list before a step of a session, or for the one behind it; where there is no step, for the list
abbrev pub IsListStepped : (List ℕ → List Transaction → Type 0) → Rules → Machine → ℕ → Option Request → List ℕ → Type 0
IsListStepped stands rules m n None bytes = stands bytes m.list
IsListStepped stands rules m n (Some q) bytes = IsBeforeOrBehind stands rules m n q bytes

-- and so in a line of a client, if there is one
abbrev pub IsListAsked : (List ℕ → List Transaction → Type 0) → Rules → Machine → Option clients.Client → Line → List ℕ → Type 0
IsListAsked stands rules m None l bytes = stands bytes m.list
IsListAsked stands rules m (Some c) l bytes = IsListStepped stands rules m c.session (request_unless (connection_refusal m c l) (request_of c.standing (changes_of c) l)) bytes

-- What Main may stand for at each moment of a turn: the list that the turn finds, or, where the client's connection takes the line, and it is a step of the machine,
-- the list behind that step of the client's session. So it is only ever another list where the session's own vote is finished, or where the list is packed.
abbrev pub IsListIn : (List ℕ → List Transaction → Type 0) → Rules → Moment → Turn → List ℕ → Type 0
IsListIn stands rules m t = IsListAsked stands rules m.machine (client_named t.client m.clients) t.line

-- ---- the same of a client as it is kept

-- in a step of a client
abbrev pub IsStepListOf : (List ℕ → List Transaction → Type 0) → Rules → Option Member → Request → Machine → List ℕ → Type 0
IsStepListOf stands rules None q = λ m bytes. stands bytes m.list
IsStepListOf stands rules (Some x) q = λ m. IsBeforeOrBehind stands rules m (session_of x) q

-- in a finish of a session, where a transaction is open
abbrev pub IsEndListOf : (List ℕ → List Transaction → Type 0) → Rules → ℕ → Result Work Refusal → Machine → List ℕ → Type 0
IsEndListOf stands rules n (Err r) = λ m bytes. stands bytes m.list
IsEndListOf stands rules n (Ok w) = λ m. IsBeforeOrBehind stands rules m n request.Finish

abbrev pub IsFinishListOf : (List ℕ → List Transaction → Type 0) → Rules → Option Member → Machine → List ℕ → Type 0
IsFinishListOf stands rules None = λ m bytes. stands bytes m.list
IsFinishListOf stands rules (Some x) = IsEndListOf stands rules (session_of x) (work_kept x)

-- in a line of a client
abbrev pub IsListOf : (List ℕ → List Transaction → Type 0) → Rules → Option Member → Line → Machine → List ℕ → Type 0
IsListOf stands rules x line.Finish = IsFinishListOf stands rules x
IsListOf stands rules x (line.Pack tid collect) = IsStepListOf stands rules x (request.Pack tid collect)
IsListOf stands rules x line.PackTurn = IsStepListOf stands rules x request.PackTurn
IsListOf stands rules x _ = λ m bytes. stands bytes m.list

-- the client at a place, if there is one, and the first one of a name
abbrev pub kept_found : List Member → Option ℕ → Option Member
kept_found xs None = None
kept_found xs (Some at) = slice_get xs at

abbrev pub kept_named : List ℕ → List Member → Option Member
kept_named name xs = kept_found xs (position (λ x. bytes_eq (name_of x) name) xs)

-- a line that packs, in one step or in turns
abbrev pub packs_list : Line → Bool
packs_list (line.Pack tid collect) = true
packs_list (line.PackBegin tid collect) = true
packs_list line.PackTurn = true
packs_list _ = false

-- What a line, or a part of one, did to a hub: the rules stay, neither count has fallen, and they say how it ended; the store is broken exactly where that says so;
-- Side stays where nothing was packed, and at each moment each image of Main stands for a list that may be seen then.
pub record KeepsHub {R F : Type 0} (told lasts : Type 0) (stands : List ℕ → List Transaction → Type 0) (packs : Bool) (may : Machine → List ℕ → Type 0) (o : StepOutcome) (old new : HubState R F) : Type 0 where
  pub resolver : new.resolver ≡ old.resolver
  pub refs : new.refs ≡ old.refs
  pub later : AreLaterCounts (counts_of old.store) (counts_of new.store)
  pub cause : IsCountedBy (counts_of old.store) (counts_of new.store) o
  pub broken : old.store.broken ≡ false → new.store.broken ≡ is_store_failed o
  pub side : lasts → packs ≡ false → StaysAs Side old.store.log new.store.log
  pub moments : lasts → told → old.store.broken ≡ false → (m : Machine) → StandsForMachine old m → Leaves Main (λ bytes. stands bytes m.list) old.store.log
      → LeavesOnly Main (may m) old.store.log new.store.log

-- and so a whole line of a client
abbrev pub LeavesHub : {R F : Type 0} → Type 0 → Type 0 → (List ℕ → List Transaction → Type 0) → Rules → Option Member → Line → StepOutcome → HubState R F → HubState R F → Type 0
LeavesHub told lasts stands rules x l o old new = KeepsHub told lasts stands (packs_list l) (IsListOf stands rules x l) o old new

-- A part of a line that changes no list.
pub record ReadsHub {R F : Type 0} (told lasts : Type 0) (stands : List ℕ → List Transaction → Type 0) (o : StepOutcome) (old new : HubState R F) : Type 0 where
  pub keeps : KeepsHub told lasts stands false (λ m bytes. stands bytes m.list) o old new
  pub list : told → old.store.broken ≡ false → new.store.list ≡ old.store.list
  pub whole : is_store_failed o ≡ false

-- a refusal that says nothing of a fault
abbrev pub IsQuiet : Refusal → Type 0
IsQuiet why = outcome_of_refusal why ≡ Answered
