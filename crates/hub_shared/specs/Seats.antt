-- What passes, ears and the seat under the lock know, and what holds under the lock. Own.
use Rattle.std.specs.Prelude.{◌≡◌, ℕ, ◌-◌, ◌^◌, ◌≤◌, ◌⊎◌, Bool, true, false, Some, None, List, [], ◌∷◌, ◌++◌, length, drop, not, ◌&&◌}
use Rattle.std.specs.List.{list_any}
use mathlib.Core.List.{IsPrefix}
use Rattle.zb_base.specs.Counts.{Rose}
use Rattle.zb_model.specs.declared.data.Transaction.{Transaction}
use Rattle.zb_volume.specs.declared.areas.Area.TheVariants.{Main}
use Rattle.zb_volume.specs.Calls.{Event}
use Rattle.zb_volume.specs.Moments.{LeavesOnly}
use Rattle.hub_clock.specs.declared.view.SeatView.{SeatView}
use Rattle.hub_clock.specs.Rules.{entries_of}
use Rattle.zodb_core.specs.declared.reply.Reply.{Reply}
use Rattle.zodb_core.specs.declared.request.Request.{Request}
use Rattle.zodb_core.specs.Entries.{openings_in, session_of}
use Rattle.zodb_core.specs.History.{Entry, HistoryStep, IsLegalOver, Made, counts_after, entry_made, machine_after}
use Rattle.zodb_core.specs.HubState.{HubState, StandsForMachine, counts_of, sessions_with}
use Rattle.zodb_core.specs.Machine.{Machine, Rules, is_news_for, is_open_in, machine_over}
use Rattle.zodb_core.specs.Waiting.{is_held_by_another}
use Rattle.zodb_core.specs.Outcomes.{AreLaterCounts, FaultCounts}
use Rattle.zodb_core.specs.Steps.{step_of}

-- what a pass knows: its session, the history that it has seen, and the place there of the session's last entry
pub record Known : Type 0 where
  pub session : ℕ
  pub seen : List Entry
  pub last : ℕ

abbrev pub known : ℕ → SeatView Entry → Known
known s v = record { session = s; seen = v.seen; last = v.last }

-- what an ear knows: its session, how many entries of the journal it was told, and the history that it has seen
pub record Listening : Type 0 where
  pub session : ℕ
  pub told : ℕ
  pub seen : List Entry

-- the seat of a pass
abbrev pub HoldsSession : ℕ → SeatView Entry → Type 0
HoldsSession s v = (v.has_pen ≡ false) × (v.session ≡ Some s)

-- the seat of an ear, or of what was seen
abbrev pub OnlyLooks : SeatView Entry → Type 0
OnlyLooks v = (v.has_pen ≡ false) × (v.session ≡ None)

-- the seat under the lock
abbrev pub keeper : List Entry → SeatView Entry
keeper entries = record { has_pen = true; session = None; last = 0; seen = entries; told = [] }

-- a vote is held: no session has the greatest number, so that it is another's for that
abbrev pub is_voting : {R F : Type 0} → HubState R F → Bool
is_voting hub = is_held_by_another (2 ^ 32 - 1) hub.vote

-- the session is open, and the store has not failed
abbrev pub is_live : {R F : Type 0} → HubState R F → ℕ → Bool
is_live hub s = is_open_in (sessions_with hub.store.broken hub.sessions) s

-- a session that needs the vote has to wait: it is open, and another session holds the vote
abbrev pub waits_for : {R F : Type 0} → HubState R F → ℕ → Bool
waits_for hub s = is_open_in (sessions_with hub.store.broken hub.sessions) s && is_held_by_another s hub.vote

-- there is nothing to hear: the session is open, and the journal has no news for it
abbrev pub is_quiet_for : {R F : Type 0} → HubState R F → ℕ → ℕ → Bool
is_quiet_for hub s told = is_open_in (sessions_with hub.store.broken hub.sessions) s && not (list_any (is_news_for s) (drop told hub.journal))

-- the machine behind a history
abbrev pub machine_of : Rules → List Transaction → List Entry → Machine
machine_of rules list entries = machine_after rules (machine_over list) entries

-- what contracts see of the locked value: the hub, and the history
pub record LockedState (R F : Type 0) : Type 0 where
  pub hub : HubState R F
  pub seen : List Entry

-- The history is legal over the list where it began, and the hub stands for the machine behind it. Where the store doesn't tell its list, what is known is how many
-- sessions were opened, that no other has an entry, and the counts of faults.
pub record LockKeeps {R F : Type 0} (told : Type 0) (rules now : Rules) (list : List Transaction) (counts : FaultCounts) (v : SeatView Entry) (hub : HubState R F) : Type 0 where
  pub keeps : v ≡ keeper v.seen
  pub rules_are : now ≡ rules
  pub opened : openings_in v.seen ≡ length hub.sessions
  pub idle : (n : ℕ) → length hub.sessions ≤ n → entries_of session_of n v.seen ≡ []
  pub counts_are : counts_after counts v.seen ≡ counts_of hub.store
  pub legal : told → IsLegalOver rules list counts v.seen
  pub stands : told → StandsForMachine hub (machine_of rules list v.seen)

-- ---- what a crash leaves of a history

-- The entry behind a front of the history is a step, and bytes stand for what that step leaves of the list, whether or not the store could make it.
pub record IsOfNext (stands : List ℕ → List Transaction → Type 0) (rules : Rules) (list : List Transaction) (front entries : List Entry) (bytes : List ℕ) : Type 0 where
  pub step : HistoryStep
  pub next : IsPrefix (front ++ Made step ∷ []) entries
  pub leaves : (stamp : ℕ) → stands bytes (step_of rules (machine_of rules list front) step.session step.request stamp).machine.list

-- Bytes stand for the list behind a front of the history, or for what the step that comes next leaves of it.
pub record IsOfHistory (stands : List ℕ → List Transaction → Type 0) (rules : Rules) (list : List Transaction) (entries : List Entry) (bytes : List ℕ) : Type 0 where
  pub front : List Entry
  pub begins : IsPrefix front entries
  pub is : stands bytes (machine_of rules list front).list ⊎ IsOfNext stands rules list front entries bytes

-- What a history has done to the store since it began: its counts of faults haven't fallen; that of other faults than reads is as it was, unless it failed, and then it rose; and where its list lies on a disk, what
-- a crash left at any moment is of the history. `was_broken` says that it had failed before.
pub record HasLasted {R F : Type 0} (lasts told : Type 0) (stands : List ℕ → List Transaction → Type 0) (rules : Rules) (list : List Transaction) (counts : FaultCounts) (log : List Event) (was_broken : Bool) (entries : List Entry) (hub : HubState R F) : Type 0 where
  pub later : AreLaterCounts counts (counts_of hub.store)
  pub same : was_broken ≡ false → hub.store.broken ≡ false → hub.store.faults ≡ counts.others
  pub broken : was_broken ≡ false → hub.store.broken ≡ true → Rose counts.others hub.store.faults
  pub moments : lasts → told → was_broken ≡ false → LeavesOnly Main (IsOfHistory stands rules list entries) log hub.store.log

-- ---- what is added to the history under the lock

-- The entry of a step that the session made with this reply, by some stamp where the clock was read, behind which what holds under the lock holds of the hub.
pub record IsPosted {R F : Type 0} (told : Type 0) (rules now : Rules) (list : List Transaction) (counts : FaultCounts) (lasted : List Entry → Type 0) (seen : List Entry) (hub : HubState R F) (s : ℕ) (q : Request) (r : Reply) (e : Entry) : Type 0 where
  pub ticks : Bool
  pub stamp : ℕ
  pub is : e ≡ entry_made s q ticks stamp r (counts_of hub.store)
  pub keeps : LockKeeps told rules now list counts (keeper (seen ++ e ∷ [])) hub
  pub has_lasted : lasted (seen ++ e ∷ [])

-- the seat under the lock with a session
abbrev pub keeper_for : ℕ → ℕ → List Entry → SeatView Entry
keeper_for s last entries = record { has_pen = true; session = Some s; last = last; seen = entries; told = [] }

-- such an entry was added
pub record HasPosted {R F : Type 0} (told : Type 0) (rules now : Rules) (list : List Transaction) (counts : FaultCounts) (lasted : List Entry → Type 0) (seen : List Entry) (hub : HubState R F) (s : ℕ) (q : Request) (r : Reply) (w : SeatView Entry) : Type 0 where
  pub entry : Entry
  pub posted : IsPosted told rules now list counts lasted seen hub s q r entry
  pub is : w ≡ keeper_for s (length seen) (seen ++ entry ∷ [])
