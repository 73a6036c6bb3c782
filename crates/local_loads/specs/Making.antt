-- What the calls of a local client are made of: steps of the hub. Own.
use Rattle.std.specs.Prelude.{◌≡◌, ◌⊎◌, ℕ, List, [], Option, Result, Err, Bool, true, false}
use Rattle.zb_ids.specs.declared.stamp.Stamp.{Stamp}
use Rattle.zb_volume.specs.declared.areas.Area.TheVariants.{Main, Side}
use Rattle.zb_volume.specs.Moments.{LeavesOnly, StaysAs}
use Rattle.zb_model.specs.declared.data.Transaction.{Transaction}
use Rattle.zb_model.specs.declared.refusal.Refusal.{Refusal}
use Rattle.zb_model.specs.declared.refusal.Refusal.TheVariants as refusal
use Rattle.zb_model.specs.Database.{IsDatabase}
use Rattle.zb_model.specs.Rules.{MergeRules}
use Rattle.zodb_core.specs.declared.reply.Reply.{Reply}
use Rattle.zodb_core.specs.declared.reply.Reply.TheVariants as reply
use Rattle.zodb_core.specs.declared.request.Request.{Request}
use Rattle.zodb_core.specs.declared.request.Request.TheVariants as request
use Rattle.zodb_core.specs.HubState.{HubState, IsBeforeOrBehind, MakesStep, StandsForMachine, StepsSafely, may_write, rules_of}
use Rattle.zodb_core.specs.Machine.{Machine, is_open_in}
use Rattle.zodb_core.specs.Outcomes.{NoMemory, ReadingFailed, StoreFailed, is_pack, keeps_store, outcome_of, reads_store, takes_memory}
use Rattle.zodb_core.specs.Packing.{goal_of}
use Rattle.zodb_core.specs.Seen.{KeepsSeen}
use Rattle.connection_view.specs.declared.loads.FrontView.{FrontView}
use Rattle.connection_view.specs.Loading.{Abort, Finish, Front, Load, LoadsCall, NewOid, Undo, Vote}
use Rattle.local_loads.specs.Answers.{abort_answer, finish_answer, front_answer, is_committed, load_answer, oid_answer, told_after, vote_answer}
use Rattle.local_loads.specs.Local.{LocalState}

-- ---- a step of the hub

-- All that a step of the hub promises, where `told` and `lasts` say what its store's type tells and keeps, `stands` for what lists bytes stand, and `rules`
-- and `named` what its rules and references are.
pub record IsHubStep {R F : Type 0} (told lasts : Type 0) (stands : List ℕ → List Transaction → Type 0) (rules : R → MergeRules) (named : F → List ℕ → Option (List ℕ)) (session : ℕ) (q : Request) (r : Reply) (old new : HubState R F) (before after : Option (List Stamp)) : Type 0 where
  pub step : told → (m : Machine) → StandsForMachine old m → MakesStep (rules_of rules named old) m session q r old new before after
  pub safe : StepsSafely (is_pack q) r old new
  pub side : lasts → is_pack q ≡ false → StaysAs Side old.store.log new.store.log
  pub main : lasts → is_pack q ≡ true → may_write false r ≡ false → StaysAs Main old.store.log new.store.log
  pub views : told → KeepsSeen (named old.refs) (goal_of old.pack) q r old.store.list new.store.list
  pub database : told → old.store.broken ≡ false → IsDatabase old.store.list
  pub failed : old.store.broken ≡ true → (r ≡ reply.Refused refusal.NotOpen) × (new ≡ old)
  pub closed : is_open_in old.sessions session ≡ false → (r ≡ reply.Refused refusal.NotOpen) × (new ≡ old)
  pub memory : takes_memory q ≡ false → outcome_of r ≡ NoMemory → ⊥
  pub unread : reads_store q ≡ false → outcome_of r ≡ ReadingFailed → ⊥
  pub unwritten : keeps_store q ≡ true → outcome_of r ≡ StoreFailed → ⊥
  pub any_moment : lasts → told → old.store.broken ≡ false → (m : Machine) → StandsForMachine old m
      → LeavesOnly Main (IsBeforeOrBehind stands (rules_of rules named old) m session q) old.store.log new.store.log

-- a request was made of the hub, with this reply, and it and the clock were left so
abbrev pub StepsOf : Type 0 → Type 0 → Type 1
StepsOf R F = Request → Reply → HubState R F → HubState R F → Option (List Stamp) → Option (List Stamp) → Type 0

-- ---- calls

-- no step was made, for want of memory before it
abbrev pub IsStarved : {R F T : Type 0} → LocalState R F → LocalState R F → Result T Refusal → Type 0
IsStarved old new result = (new ≡ old) × (result ≡ Err refusal.Memory)

-- a call that is one step, whose reply says its answer
pub record IsOneStep {R F T : Type 0} (steps : StepsOf R F) (q : Request) (answer_of : Reply → Result T Refusal) (old new : LocalState R F) (result : Result T Refusal) : Type 0 where
  pub reply : Reply
  pub step : steps q reply old.hub new.hub old.stamps new.stamps
  pub answer : result ≡ answer_of reply
  pub last : new.last ≡ old.last

-- a front, of which the client is told
pub record IsFrontStep {R F : Type 0} (steps : StepsOf R F) (old new : LocalState R F) (result : Result FrontView Refusal) : Type 0 where
  pub reply : Reply
  pub step : steps request.Front reply old.hub new.hub old.stamps new.stamps
  pub answer : result ≡ front_answer old.last reply
  pub last : new.last ≡ told_after old.last reply

-- behind a commit one step more is made, a front, whatever that is answered; behind any other reply none is
abbrev pub IsFrontBehind : {R F : Type 0} → StepsOf R F → Bool → HubState R F → HubState R F → Option (List Stamp) → Option (List Stamp) → Type 0
IsFrontBehind steps false old new before after = (new ≡ old) × (after ≡ before)
IsFrontBehind steps true old new before after = (r : Reply) × steps request.Front r old new before after

-- a finish, and the front behind it
pub record IsFinishStep {R F : Type 0} (steps : StepsOf R F) (old new : LocalState R F) (result : Result (Option ℕ) Refusal) : Type 0 where
  pub reply : Reply
  pub behind : HubState R F
  pub left : Option (List Stamp)
  pub step : steps request.Finish reply old.hub behind old.stamps left
  pub front : IsFrontBehind steps (is_committed reply) behind new.hub left new.stamps
  pub answer : result ≡ finish_answer reply
  pub last : new.last ≡ old.last

-- a call of a local client, as steps of the hub
abbrev pub IsLocalCall : {R F : Type 0} → StepsOf R F → LoadsCall → LocalState R F → LocalState R F → Type 0
IsLocalCall steps (Front answer) old new = IsFrontStep steps old new answer
IsLocalCall steps (Load oid front answer) old new = IsOneStep steps (request.LoadBefore oid front) load_answer old new answer
IsLocalCall steps (NewOid answer) old new = IsOneStep steps (request.NewOids 1) oid_answer old new answer
IsLocalCall steps (Vote user description stores checks answer) old new =
    IsStarved old new answer ⊎ IsOneStep steps (request.Vote user description [] (record { stores = stores; checks = checks })) vote_answer old new answer
IsLocalCall steps (Undo user description tids answer) old new =
    IsStarved old new answer ⊎ IsOneStep steps (request.Undo user description tids) vote_answer old new answer
IsLocalCall steps (Finish answer) old new = IsFinishStep steps old new answer
IsLocalCall steps (Abort answer) old new = IsOneStep steps request.Abort abort_answer old new answer
