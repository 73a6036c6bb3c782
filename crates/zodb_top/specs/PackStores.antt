-- What the code of the command `pack` says of a store.
use Rattle.std.specs.Prelude.{◌≡◌, ◌≤◌, ℕ, List, Option, false}
use Rattle.std.specs.Io.KnownBytes.{Appends}
use Rattle.zb_base.specs.Counts.{Rose}
use Rattle.zb_ids.specs.declared.stamp.Stamp.{Stamp}
use Rattle.zb_model.specs.declared.data.Transaction.{Transaction}
use Rattle.zb_model.specs.Stores.{StoreState}
use Rattle.zb_outside.specs.Written.{AppendsPrefix}
use Rattle.zb_volume.specs.declared.areas.Area.TheVariants.{Main}
use Rattle.zb_volume.specs.Moments.{Leaves, LeavesOnly}
use Rattle.zodb_core.specs.declared.reply.Reply.{Reply}
use Rattle.zodb_core.specs.HubState.{IsCauseOf, counts_of, is_store_failed}
use Rattle.zodb_core.specs.Outcomes.{Answered, AreLaterCounts, StepOutcome, StoreFailed, outcome_of}
use Rattle.program_words.specs.declared.command.PackRequest.{PackRequest}
use Rattle.script_runs.specs.declared.status.Status.{Status}
use Rattle.zodb_top.specs.Packs.{IsListOrPacked, IsReplyTo, ReplySays, packed_list}
use Rattle.script_runs.specs.declared.status.Status.TheVariants as status
use Rattle.script_runs.specs.Texts.{cut_lines}

-- what the status of a text says that was to be written
abbrev pub IsToldAs : Status → Option (List ℕ) → Option (List ℕ) → ℕ → ℕ → List ℕ → Type 0
IsToldAs status.Done old new before now text = Appends old new text
IsToldAs status.SinkFault old new before now text = Rose before now × AppendsPrefix old new text
IsToldAs _ old new before now text = ⊥

-- the list of a store behind a pack
abbrev pub IsListBehind : PackRequest → List Transaction → List Transaction → StepOutcome → Type 0
IsListBehind pack list now Answered = now ≡ packed_list pack list
IsListBehind pack list now StoreFailed = Unit {0}
IsListBehind pack list now _ = now ≡ list

-- a store was packed, or not, as the reply says; the clock wasn't read
pub record IsStorePacked (pack : PackRequest) (r : Reply) (old new : StoreState) (before after : Option (List Stamp)) : Type 0 where
  pub made : IsReplyTo pack old.list r (outcome_of r)
  pub list : IsListBehind pack old.list new.list (outcome_of r)
  pub whole : new.broken ≡ is_store_failed (outcome_of r)
  pub clock : after ≡ before

-- the counts of faults behind a pack: what the reply says has its cause, that of other faults moved only where the store failed, and none has fallen
pub record CountsPack (old new : StoreState) (r : Reply) : Type 0 where
  pub cause : IsCauseOf (counts_of old) (counts_of new) (outcome_of r)
  pub others : ¬ (outcome_of r ≡ StoreFailed) → new.faults ≡ old.faults
  pub later : AreLaterCounts (counts_of old) (counts_of new)

-- The counts of a store and of a sink: no call that would change the store has failed, unless the status says so, and no count has fallen.
pub record CountsOver (s : Status) (before now : ℕ) (old new : StoreState) : Type 0 where
  pub others : ¬ (s ≡ status.StoreFault) → new.faults ≡ old.faults
  pub sink_counted : before ≤ now
  pub later : AreLaterCounts (counts_of old) (counts_of new)

-- a store was packed, and the reply written, behind the line of a tail that was cut off, where one was
pub record PacksStore (s : Status) (told lasts : Type 0) (stands : List ℕ → List Transaction → Type 0) (pack : PackRequest) (cut : Option ℕ) (taken taken' : Option (List ℕ)) (before now : ℕ) (old new : StoreState) (stamps stamps' : Option (List Stamp)) : Type 0 where
  pub reply : Reply
  pub says : ReplySays s taken taken' before now reply (cut_lines cut)
  pub cause : IsCauseOf (counts_of old) (counts_of new) (outcome_of reply)
  pub step : told → IsStorePacked pack reply old new stamps stamps'
  pub moments : lasts → told → LeavesOnly Main (IsListOrPacked stands pack old.list) old.log new.log
  pub images : lasts → new.broken ≡ false → Leaves Main (λ bytes. stands bytes new.list) new.log
