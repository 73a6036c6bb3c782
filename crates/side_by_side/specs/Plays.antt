-- How far clients came that are taken side by side. Own.
use Rattle.std.specs.Prelude.{◌≡◌, ◌≤◌, ℕ, List, [], ◌∷◌, ◌++◌, Option, Some, None, Ok, Err, Bool, true, false, ◌&&◌, map, length, slice_get}
use Rattle.std.specs.List.{list_any}
use Rattle.zb_base.specs.Counts.{Rose}
use Rattle.zb_ids.specs.declared.stamp.Stamp.{Stamp}
use Rattle.zb_model.specs.declared.data.Transaction.{Transaction}
use Rattle.zb_model.specs.Stores.{StoreState}
use Rattle.zb_answers.specs.declared.answer.Answer.{Answer}
use Rattle.zb_script.specs.declared.line.Turn.{Turn}
use Rattle.zb_volume.specs.declared.areas.Area.TheVariants.{Main, Side}
use Rattle.zb_volume.specs.Moments.{Leaves, LeavesOnly, StaysAs}
use Rattle.client_turns.specs.declared.errors.TurnError.{TurnError}
use Rattle.client_turns.specs.declared.errors.TurnError.TheVariants as turn_error
use Rattle.zodb_core.specs.HubState.{counts_of}
use Rattle.client_turns.specs.Clients.{Moment, first_moment}
use Rattle.client_turns.specs.Output.{FlaggedTurn, Out, TurnAnswer}
use Rattle.client_turns.specs.Standing.{ClientsState, StandsForMoment, packs_list}
use Rattle.client_turns.specs.Turns.{IsBroken, IsTurn}
use Rattle.client_turns.specs.Waiting.{IsServed, is_held_up}
use Rattle.zeo_server.specs.declared.playing.Taken.{Taken}
use Rattle.zeo_server.specs.declared.playing.Taken.TheVariants as turn_end
use Rattle.side_by_side.specs.declared.turns.PlayedTurn.{PlayedTurn}
use Rattle.side_by_side.specs.Orders.{ClientLeft, IsTakenIn, are_done}
use Rattle.side_by_side.specs.Runs.{IsListNext, IsOfRun, stock}

-- ---- what is seen of clients side by side

-- the clients over their hub, what the clock has still to give, the lines that are left, the turns that were answered, and how the run ended early, if it did
pub record PlayState (R F : Type 0) : Type 0 where
  pub clients : ClientsState R F
  pub stamps : Option (List Stamp)
  pub lines : List ClientLeft
  pub taken : List PlayedTurn
  pub ended : Option TurnError

-- the answers, and whose they were, in the order in which they were given
abbrev pub answers_of : List PlayedTurn → List TurnAnswer
answers_of taken = map (λ (p : PlayedTurn). record { client = p.client; answer = p.answer }) taken

abbrev pub order_of : List PlayedTurn → List ℕ
order_of taken = map (λ (p : PlayedTurn). p.number) taken

abbrev pub left_found : Option ClientLeft → ℕ
left_found None = 0
left_found (Some c) = length c.left

-- how many lines a client has left
abbrev pub count_left : List ClientLeft → ℕ → ℕ
count_left clients n = left_found (slice_get clients n)

-- the first line of a client has to wait
abbrev pub first_waits : {R F : Type 0} → ClientsState R F → List Turn → Bool
first_waits seen [] = false
first_waits seen (t ∷ later) = is_held_up seen t

abbrev pub found_waits : {R F : Type 0} → ClientsState R F → Option ClientLeft → Bool
found_waits seen None = false
found_waits seen (Some c) = first_waits seen c.left

abbrev pub goes_on : Option TurnError → Bool
goes_on None = true
goes_on (Some why) = false

-- a client has to wait: the run goes on, and its next line needs the vote while another session holds it
abbrev pub waits : {R F : Type 0} → ClientsState R F → List ClientLeft → Option TurnError → ℕ → Bool
waits seen clients ended n = goes_on ended && found_waits seen (slice_get clients n)

abbrev pub has_faulted : Option TurnError → Bool
has_faulted (Some turn_error.StoreFault) = true
has_faulted _ = false

abbrev pub has_starved : Option TurnError → Bool
has_starved (Some turn_error.Memory) = true
has_starved _ = false

-- a line packs
abbrev pub any_packs : List ClientLeft → Bool
any_packs clients = list_any (λ (c : ClientLeft). list_any (λ (t : Turn). packs_list t.line) c.left) clients

-- ---- how far they came

-- no vote and no undo was answered that another session holds the vote
abbrev pub AreServed : List FlaggedTurn → List TurnAnswer → Type 0
AreServed [] [] = Unit {0}
AreServed (t ∷ turns) (o ∷ answers) = IsServed t.turn.line o.answer × AreServed turns answers
AreServed _ _ = ⊥

-- What followed on the turns that were answered: nothing, or the one turn that broke off so. It is this moment now.
abbrev pub EndsSo : Moment → List FlaggedTurn → Option TurnError → Moment → Type 0
EndsSo behind broken None now = (broken ≡ []) × (now ≡ behind)
EndsSo behind broken (Some why) now = (t : FlaggedTurn) × (broken ≡ t ∷ []) × IsBroken stock behind t.turn t.is_last why now

-- where clients begin: the moment, their lines, and the store
pub record PlayStart : Type 0 where
  pub moment : Moment
  pub lines : List ClientLeft
  pub store : StoreState

-- The turns were taken in some order, and answered as they stand; the run ended with none of them or with one more, that broke off; no vote was answered Busy. The
-- clients stand for the moment behind. Whatever a crash left meanwhile is of this run, where the list lasts.
pub record CameSideBySide {R F : Type 0} (lasts : Type 0) (stands : List ℕ → List Transaction → Type 0) (b : PlayStart) (s : PlayState R F) : Type 0 where
  pub turns : List FlaggedTurn
  pub broken : List FlaggedTurn
  pub number : List ℕ
  pub order : IsTakenIn b.lines (order_of s.taken ++ number) (turns ++ broken) s.lines
  pub alone : s.ended ≡ None → number ≡ []
  pub behind : Moment
  pub out : Out stock b.moment turns (answers_of s.taken) behind
  pub served : AreServed turns (answers_of s.taken)
  pub now : Moment
  pub ends : EndsSo behind broken s.ended now
  pub stands_for : StandsForMoment s.clients s.stamps now
  pub around : s.ended ≡ Some turn_error.StoreFault → lasts → Leaves Main (IsListNext stands behind broken) s.clients.hub.store.log
  pub moments : lasts → LeavesOnly Main (IsOfRun stands b.moment turns broken (answers_of s.taken) behind) b.store.log s.clients.hub.store.log

-- what holds whatever the store tells: the counts of faults say how the run ended, and Side is as it was where nothing packs
pub record IsPlay {R F : Type 0} (told lasts : Type 0) (stands : List ℕ → List Transaction → Type 0) (b : PlayStart) (s : PlayState R F) : Type 0 where
  pub whole : s.ended ≡ None → s.clients.hub.store.broken ≡ false
  pub reads : b.store.read_faults ≤ s.clients.hub.store.read_faults
  pub faults : b.store.faults ≤ s.clients.hub.store.faults
  pub failed : s.ended ≡ Some turn_error.StoreFault → Rose b.store.faults s.clients.hub.store.faults
  pub others : ¬ (s.ended ≡ Some turn_error.StoreFault) → s.clients.hub.store.faults ≡ b.store.faults
  pub quiet : any_packs b.lines ≡ false → any_packs s.lines ≡ false
  pub side : lasts → any_packs b.lines ≡ false → StaysAs Side b.store.log s.clients.hub.store.log
  pub came : told → CameSideBySide lasts stands b s

-- ---- one turn

-- A turn was answered, and that was noted.
pub record IsNoted (n : ℕ) (m : Moment) (t : Turn) (last : Bool) (old new : List PlayedTurn) (now : Moment) : Type 0 where
  pub answer : Answer
  pub turn : IsTurn stock m t last (Ok answer) now
  pub note : new ≡ old ++ record { number = n; client = t.client; answer = answer } ∷ []
  pub served : IsServed t.line answer

-- it broke off, and nothing was
pub record IsUnnoted (why : TurnError) (m : Moment) (t : Turn) (last : Bool) (old new : List PlayedTurn) (now : Moment) : Type 0 where
  pub turn : IsTurn stock m t last (Err why) now
  pub note : new ≡ old

-- what is answered once a run has ended
abbrev pub ending_of : TurnError → Taken
ending_of turn_error.StoreFault = turn_end.Faulted
ending_of turn_error.Memory = turn_end.Memory

-- the state, as a record of what is given in this order
abbrev pub play_state : {R F : Type 0} → ClientsState R F → Option (List Stamp) → List ClientLeft → List PlayedTurn → Option TurnError → PlayState R F
play_state clients stamps lines taken ended = record { clients = clients; stamps = stamps; lines = lines; taken = taken; ended = ended }

-- how a turn is answered, by what it left of the run
abbrev pub EndsAs : Option TurnError → Taken → Type 0
EndsAs None t = t ≡ turn_end.Done
EndsAs (Some why) t = t ≡ ending_of why

-- where clients begin over a store
abbrev pub play_start : StoreState → Option (List Stamp) → List ClientLeft → PlayStart
play_start store stamps lines = record { moment = first_moment store.list stamps (counts_of store); lines = lines; store = store }

-- ---- all turns

-- Clients were taken to the end: the turns were taken in some order, all of them unless one broke off, and answered as they stand; no vote was answered Busy. The
-- store and the clock are those of the moment behind.
pub record CameToEnd (lasts : Type 0) (stands : List ℕ → List Transaction → Type 0) (b : PlayStart) (new : StoreState) (stamps : Option (List Stamp)) (taken : List PlayedTurn) (ended : Option TurnError) : Type 0 where
  pub turns : List FlaggedTurn
  pub broken : List FlaggedTurn
  pub number : List ℕ
  pub left : List ClientLeft
  pub order : IsTakenIn b.lines (order_of taken ++ number) (turns ++ broken) left
  pub alone : ended ≡ None → number ≡ []
  pub done : ended ≡ None → are_done left ≡ true
  pub behind : Moment
  pub out : Out stock b.moment turns (answers_of taken) behind
  pub served : AreServed turns (answers_of taken)
  pub now : Moment
  pub ends : EndsSo behind broken ended now
  pub stamps_left : stamps ≡ now.stamps
  pub counts : counts_of new ≡ now.counts
  pub failed : now.machine.failed ≡ new.broken
  pub list : new.broken ≡ false → now.machine.list ≡ new.list
  pub around : ended ≡ Some turn_error.StoreFault → lasts → Leaves Main (IsListNext stands behind broken) new.log
  pub moments : lasts → LeavesOnly Main (IsOfRun stands b.moment turns broken (answers_of taken) behind) b.store.log new.log

-- what holds whatever the store tells
pub record IsPlayed (told lasts : Type 0) (stands : List ℕ → List Transaction → Type 0) (b : PlayStart) (new : StoreState) (stamps : Option (List Stamp)) (taken : List PlayedTurn) (ended : Option TurnError) : Type 0 where
  pub reads : b.store.read_faults ≤ new.read_faults
  pub faults : b.store.faults ≤ new.faults
  pub failed : ended ≡ Some turn_error.StoreFault → Rose b.store.faults new.faults
  pub others : ¬ (ended ≡ Some turn_error.StoreFault) → new.faults ≡ b.store.faults
  pub side : lasts → any_packs b.lines ≡ false → StaysAs Side b.store.log new.log
  pub came : told → CameToEnd lasts stands b new stamps taken ended
