-- How the hub votes. Own.
use Rattle.std.specs.Prelude.{◌≡◌, ℕ, ◌<◌, ◌≤◌, ◌-◌, ◌^◌, List, Option, Some, None, Result, Ok, Bool, true, false, IfSome, ◌==◌, nat_lt, if◌then◌else◌, length, map}
use Rattle.zb_ids.specs.declared.stamp.Stamp.{Stamp}
use Rattle.zb_ids.specs.Tids.{tid_after}
use Rattle.zb_model.specs.declared.data.Change.{Change}
use Rattle.zb_model.specs.declared.new_transaction.NewChange.{NewChange}
use Rattle.zb_model.specs.declared.refusal.Refusal.{Refusal}
use Rattle.zb_model.specs.declared.refusal.Refusal.TheVariants as refusal
use Rattle.zb_model.specs.declared.store_error.StoreError.{StoreError}
use Rattle.zb_model.specs.declared.store_error.StoreError.TheVariants as store_error
use Rattle.zb_model.specs.Voting.{voted_change}
use Rattle.zodb_core.specs.declared.reply.Reply.{Reply}
use Rattle.zodb_core.specs.declared.request.Request.{Request}
use Rattle.zodb_core.specs.declared.texts.Texts.{Texts}
use Rattle.zodb_core.specs.declared.vote.HubVote.{HubVote}
use Rattle.zodb_core.specs.HubState.{HasTicked, HubState, IsClockRead, MakesStepAt, StandsForMachine}
use Rattle.zodb_core.specs.Machine.{Machine, Rules}
use Rattle.zodb_core.specs.Outcomes.{changes_store, holds_writes, is_pack, reads_store, takes_memory}
use Rattle.zodb_core.specs.Steps.{Stepped, early_refusal, step_of, vote_step}

-- each text has a length of 16 bits
pub record AreShort (texts : Texts) : Type 0 where
  pub user : length texts.user ≤ 65535
  pub description : length texts.description ≤ 65535
  pub extension : length texts.extension ≤ 65535

-- a number that has one after it
abbrev pub tid_if_left : ℕ → Option ℕ
tid_if_left tid = if nat_lt tid (2 ^ 64 - 1) then Some tid else None

-- the tid after the newest by a clock that was read, if one is left
pub record IsNextTid (newest : ℕ) (before after : Option (List Stamp)) (result : Option ℕ) : Type 0 where
  pub stamp : ℕ
  pub clock : IsClockRead stamp before after
  pub tid : result ≡ tid_if_left (tid_after newest stamp)
  pub above : IfSome result (λ tid. newest < tid)

-- the store failed
abbrev pub is_fault : StoreError → Bool
is_fault store_error.StoreFault = true
is_fault store_error.ReadFault = false
is_fault store_error.Memory = false

-- why a session may not vote while the vote is held
abbrev pub held_refusal : ℕ → Option HubVote → Option Refusal
held_refusal n None = None
held_refusal n (Some v) = if v.session == n then Some refusal.Voted else Some (refusal.Busy v.session)

-- a request that votes what was decided, where nothing refuses it at once
pub record VotesFor (rules : Rules) (m : Machine) (n : ℕ) (q : Request) (texts : Texts) (decided : Result (List Change) Refusal) : Type 0 where
  pub early : early_refusal m n q ≡ None
  pub reads : reads_store q ≡ true
  pub memory : takes_memory q ≡ true
  pub packs : is_pack q ≡ false
  pub step : (stamp : ℕ) → step_of rules m n q stamp ≡ vote_step m n texts stamp decided
  pub changes : (made : Stepped) → changes_store m n q made ≡ holds_writes n made.machine.vote

-- What was decided is voted, by the clock, for whatever request decided it.
pub record HoldsByClock {R F : Type 0} (told : Type 0) (rules : Rules) (n : ℕ) (texts : Texts) (changes : List NewChange) (reply : Reply) (old new : HubState R F) (before after : Option (List Stamp)) : Type 0 where
  pub stamp : ℕ
  pub ticks : Bool
  pub clock : HasTicked ticks stamp before after
  pub step : told → (m : Machine) → StandsForMachine old m → (q : Request) → VotesFor rules m n q texts (Ok (map (voted_change m.list) changes))
      → MakesStepAt stamp ticks rules m n q reply old new
