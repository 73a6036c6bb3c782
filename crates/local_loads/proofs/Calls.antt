-- What the calls of a local client leave, and how they are answered.
use Rattle.std.proofs.Common.{◌≡◌, ℕ, ◌<◌, ◌≤◌, ◌^◌, Bool, true, false, List, Option, Result, Ok, Err, refl, sym, subst}
use Rattle.std.specs.Prelude.{IfOk, IfErr, OnOk, OnErr, MatchOption}
use Rattle.zb_ids.specs.declared.stamp.Stamp.{Stamp}
use Rattle.zb_model.specs.declared.data.Transaction.{Transaction}
use Rattle.zb_model.specs.declared.refusal.Refusal.{Refusal}
use Rattle.zb_model.specs.declared.refusal.Refusal.TheVariants as refusal
use Rattle.zb_model.specs.Rules.{MergeRules}
use Rattle.zodb_core.specs.declared.reply.Reply.{Reply}
use Rattle.zodb_core.specs.declared.reply.Reply.TheVariants as reply
use Rattle.zodb_core.specs.declared.request.Request.{Request}
use Rattle.zodb_core.specs.declared.request.Request.TheVariants as request
use Rattle.zodb_core.specs.HubState.{HubState}
use Rattle.connection_view.specs.declared.loads.FrontView.{FrontView}
use Rattle.connection_view.specs.declared.loads.Loaded.{Loaded}
use Rattle.connection_view.specs.Loading.{IsFront, IsLoaded, IsNothingDone, IsServerRefusal}
use Rattle.connection_view.specs.Views.{Client, View, view_of}
use Rattle.local_loads.specs.declared.told.Told.{Told}
use Rattle.local_loads.specs.Answers.{abort_answer, finish_answer, front_answer, load_answer, oid_answer, refusal_in, server_refusal, told_after, vote_answer}
use Rattle.local_loads.specs.Local.{MayBeTold, server_of}
use Rattle.local_loads.specs.LocalLaws.{kept_behind, later_self}
use Rattle.local_loads.specs.Making.{IsFrontBehind, IsHubStep, StepsOf}
use Rattle.local_loads.proofs.Fronts.{front_answers, front_is, front_renews}
use Rattle.local_loads.proofs.Reading.{held_loaded, none_loaded}

-- ---- refusals

server_served : (why : Refusal) → IsServerRefusal (server_refusal why)
server_served (refusal.Missing oid packed) = tt
server_served refusal.NoTransaction = tt
server_served refusal.InTransaction = tt
server_served (refusal.NoSavepoint number) = tt
server_served (refusal.Mixed stores) = tt
server_served (refusal.NotATree oid) = tt
server_served (refusal.NodeMissing oid) = tt
server_served refusal.BadKey = tt
server_served _ = tt

refusal_served : (r : Reply) → IsServerRefusal (refusal_in r)
refusal_served (reply.Refused why) = server_served why
refusal_served _ = tt

front_served : (t : Option Told) (r : Reply) → IfErr (front_answer t r) IsServerRefusal
front_served t (reply.Front front news switches) = tt
front_served t r = refusal_served r

load_served : (r : Reply) → IfErr (load_answer r) IsServerRefusal
load_served (reply.Loaded serial bytes end upto) = tt
load_served (reply.Nothing oid switches) = tt
load_served r = refusal_served r

oid_served : (r : Reply) → IfErr (oid_answer r) IsServerRefusal
oid_served (reply.Oids first count) = tt
oid_served r = refusal_served r

vote_served : (r : Reply) → IfErr (vote_answer r) IsServerRefusal
vote_served reply.Voted = tt
vote_served r = refusal_served r

finish_served : (r : Reply) → IfErr (finish_answer r) IsServerRefusal
finish_served (reply.Committed tid) = tt
finish_served reply.Empty = tt
finish_served r = refusal_served r

abort_served : (r : Reply) → IfErr (abort_answer r) IsServerRefusal
abort_served reply.Aborted = tt
abort_served r = refusal_served r

pub served_as : {T : Type 0} (result answer : Result T Refusal) → result ≡ answer → IfErr answer IsServerRefusal → IfErr result IsServerRefusal
served_as {T} result answer is served = subst (λ (x : Result T Refusal). IfErr x IsServerRefusal) (sym is) served

pub front_refused : (t : Option Told) (r : Reply) (result : Result FrontView Refusal) → result ≡ front_answer t r → IfErr result IsServerRefusal
front_refused t r result is = served_as result (front_answer t r) is (front_served t r)

pub load_refused : (r : Reply) (result : Result Loaded Refusal) → result ≡ load_answer r → IfErr result IsServerRefusal
load_refused r result is = served_as result (load_answer r) is (load_served r)

pub oid_refused : (r : Reply) (result : Result ℕ Refusal) → result ≡ oid_answer r → IfErr result IsServerRefusal
oid_refused r result is = served_as result (oid_answer r) is (oid_served r)

pub vote_refused : (r : Reply) (result : Result (Unit {0}) Refusal) → result ≡ vote_answer r → IfErr result IsServerRefusal
vote_refused r result is = served_as result (vote_answer r) is (vote_served r)

pub finish_refused : (r : Reply) (result : Result (Option ℕ) Refusal) → result ≡ finish_answer r → IfErr result IsServerRefusal
finish_refused r result is = served_as result (finish_answer r) is (finish_served r)

pub abort_refused : (r : Reply) (result : Result (Unit {0}) Refusal) → result ≡ abort_answer r → IfErr result IsServerRefusal
abort_refused r result is = served_as result (abort_answer r) is (abort_served r)

-- ---- the front behind a commit

pub told_behind : {R F : Type 0} (steps : StepsOf R F) (b : Bool) (old new : HubState R F) (before after : Option (List Stamp)) (r : Reply) → b ≡ true → steps request.Front r old new before after → IsFrontBehind steps b old new before after
told_behind steps true old new before after r is step = (r, step)
told_behind steps false old new before after r is step = absurd cc

pub untold_behind : {R F : Type 0} (steps : StepsOf R F) (b : Bool) (old new : HubState R F) (before after : Option (List Stamp)) → b ≡ false → new ≡ old → after ≡ before → IsFrontBehind steps b old new before after
untold_behind steps false old new before after is same stamps = (same, stamps)
untold_behind steps true old new before after is same stamps = absurd cc

-- ---- what is kept

module _ {R F : Type 0} (told lasts : Type 0) (stands : List ℕ → List Transaction → Type 0) (rules : R → MergeRules) (named : F → List ℕ → Option (List ℕ)) (n : ℕ) (old new : HubState R F) (before after : Option (List Stamp)) where
  -- the client that may be at the session stays, where what is kept of its last front does
  pub kept_call : (q : Request) (r : Reply) (t now : Option Told) (v w : View) → IsHubStep told lasts stands rules named n q r old new before after → now ≡ t → told → MayBeTold t old v w → MayBeTold now new v w
  kept_call q r t now v w step same tells may = subst (λ (x : Option Told). MayBeTold x new v w) (sym same) (kept_behind told lasts stands rules named n q r old new before after tells step t v w may)

  abbrev KeepsClients : Option Told → Option Told → Type 0
  KeepsClients t now = (c : Client) → told × MayBeTold t old c.told c.known → told × MayBeTold now new c.told c.known

  pub kept_ok : {T : Type 0} (q : Request) (r : Reply) (t now : Option Told) (result : Result T Refusal) → IsHubStep told lasts stands rules named n q r old new before after → now ≡ t → OnOk result (KeepsClients t now)
  kept_ok q r t now (Ok x) step same = λ c may. (may.0, kept_call q r t now c.told c.known step same may.0 may.1)
  kept_ok q r t now (Err why) step same = tt

  pub kept_err : {T : Type 0} (q : Request) (r : Reply) (t now : Option Told) (result : Result T Refusal) → IsHubStep told lasts stands rules named n q r old new before after → now ≡ t → OnErr result (KeepsClients t now)
  kept_err q r t now (Ok x) step same = tt
  kept_err q r t now (Err why) step same = λ c may. (may.0, kept_call q r t now c.told c.known step same may.0 may.1)

  -- ---- fronts

  abbrev FrontSays : Option Told → Result FrontView Refusal → Type 0
  FrontSays t result = IfOk result (λ r. (c : Client) → told × MayBeTold t old c.told c.known → IsFront c (view_of (server_of old)) r)

  front_cases : (r : Reply) (t : Option Told) → IsHubStep told lasts stands rules named n request.Front r old new before after → FrontSays t (front_answer t r)
  front_cases (reply.Front f news s) t step = λ c may. front_answers t old new c f s _ may.1 (front_is told lasts stands rules named n f news s old new before after may.0 step) refl
  front_cases _ t step = tt

  pub front_says : (r : Reply) (t : Option Told) (result : Result FrontView Refusal) → IsHubStep told lasts stands rules named n request.Front r old new before after → result ≡ front_answer t r → FrontSays t result
  front_says r t result step is = subst (FrontSays t) (sym is) (front_cases r t step)

  abbrev FrontLeaves : Option Told → Option Told → Result FrontView Refusal → Type 0
  FrontLeaves t now result = OnOk result ((c : Client) → told × MayBeTold t old c.told c.known → told × MayBeTold now new (view_of (server_of old)) (view_of (server_of old)))

  renew_cases : (r : Reply) (t : Option Told) → IsHubStep told lasts stands rules named n request.Front r old new before after → IfOk (front_answer t r) (λ view. view.switches < 2 ^ 64) → FrontLeaves t (told_after t r) (front_answer t r)
  renew_cases (reply.Front f news s) t step counted = λ c may. (
    may.0,
    front_renews t old new c.told c.known f s counted
        (kept_behind told lasts stands rules named n request.Front (reply.Front f news s) old new before after may.0 step t c.told c.known may.1)
        (front_is told lasts stands rules named n f news s old new before after may.0 step),
  )
  renew_cases _ t step counted = tt

  pub front_leaves : (r : Reply) (t now : Option Told) (result : Result FrontView Refusal) → IsHubStep told lasts stands rules named n request.Front r old new before after → result ≡ front_answer t r → now ≡ told_after t r → IfOk result (λ view. view.switches < 2 ^ 64)
      → FrontLeaves t now result
  front_leaves r t now result step is same counted =
      subst (λ (x : Result FrontView Refusal). FrontLeaves t now x) (sym is)
      (subst (λ (x : Option Told). FrontLeaves t x (front_answer t r)) (sym same)
      (renew_cases r t step (subst (λ (x : Result FrontView Refusal). IfOk x (λ view. view.switches < 2 ^ 64)) is counted)))

  abbrev FrontKeeps : Option Told → Option Told → Result FrontView Refusal → Type 0
  FrontKeeps t now result = OnErr result ((c : Client) → told × MayBeTold t old c.told c.known → told × MayBeTold now new c.told c.known)

  keep_cases : (r : Reply) (t : Option Told) → IsHubStep told lasts stands rules named n request.Front r old new before after → FrontKeeps t (told_after t r) (front_answer t r)
  keep_cases (reply.Front f news s) t step = tt
  keep_cases r t step = λ c may. (may.0, kept_behind told lasts stands rules named n request.Front r old new before after may.0 step t c.told c.known may.1)

  pub front_keeps : (r : Reply) (t now : Option Told) (result : Result FrontView Refusal) → IsHubStep told lasts stands rules named n request.Front r old new before after → result ≡ front_answer t r → now ≡ told_after t r → FrontKeeps t now result
  front_keeps r t now result step is same =
      subst (λ (x : Result FrontView Refusal). FrontKeeps t now x) (sym is)
      (subst (λ (x : Option Told). FrontKeeps t x (front_answer t r)) (sym same) (keep_cases r t step))

  -- ---- loads

  abbrev LoadSays : Option Told → ℕ → ℕ → Result Loaded Refusal → Type 0
  LoadSays t oid front result = IfOk result (λ r. (c : Client) → told × MayBeTold t old c.told c.known → front ≤ c.told.front → IsLoaded oid front c.told (server_of old) r)

  load_cases : (r : Reply) (t : Option Told) (oid front : ℕ) → IsHubStep told lasts stands rules named n (request.LoadBefore oid front) r old new before after → LoadSays t oid front (load_answer r)
  load_cases (reply.Loaded serial bytes end upto) t oid front step = λ c may low. held_loaded told lasts stands rules named n oid front old new before after t c.told c.known may.0 may.1 serial bytes end upto step low
  load_cases (reply.Nothing o packed) t oid front step = λ c may low. none_loaded told lasts stands rules named n oid front old new before after t c.told c.known may.0 may.1 o packed step low
  load_cases _ t oid front step = tt

  pub load_says : (r : Reply) (t : Option Told) (oid front : ℕ) (result : Result Loaded Refusal) → IsHubStep told lasts stands rules named n (request.LoadBefore oid front) r old new before after → result ≡ load_answer r → LoadSays t oid front result
  load_says r t oid front result step is = subst (LoadSays t oid front) (sym is) (load_cases r t oid front step)

-- ---- finishes

-- behind a finish, and the front behind it
module _ {R F : Type 0} (told lasts : Type 0) (stands : List ℕ → List Transaction → Type 0) (rules : R → MergeRules) (named : F → List ℕ → Option (List ℕ)) (n : ℕ) (old mid new : HubState R F) (before between after : Option (List Stamp)) where
  abbrev Steps : StepsOf R F
  Steps = IsHubStep told lasts stands rules named n

  pub kept_front : (b : Bool) (t : Option Told) (v w : View) → IsFrontBehind Steps b mid new between after → told → MayBeTold t mid v w → MayBeTold t new v w
  kept_front false t v w front tells may = subst (λ (h : HubState R F). MayBeTold t h v w) (sym front.0) may
  kept_front true t v w front tells may = kept_behind told lasts stands rules named n request.Front front.0 mid new between after tells front.1 t v w may

  pub kept_finish : (r : Reply) (b : Bool) (t now : Option Told) (v w : View) → IsHubStep told lasts stands rules named n request.Finish r old mid before between → IsFrontBehind Steps b mid new between after → now ≡ t → told → MayBeTold t old v w → MayBeTold now new v w
  kept_finish r b t now v w step front same tells may =
      subst (λ (x : Option Told). MayBeTold x new v w) (sym same)
      (kept_front b t v w front tells (kept_behind told lasts stands rules named n request.Finish r old mid before between tells step t v w may))

  -- the known view is then that of the list
  pub known_now : (t : Option Told) (v w : View) → MayBeTold t new v w → MayBeTold t new v (view_of (server_of new))
  known_now t v w may = record { last = may.last; front = may.front; switches = may.switches; later = may.later; known = λ _. later_self (view_of (server_of new)); votes = may.votes; within = may.within }

  abbrev FinishSays : Option Told → Option Told → Result (Option ℕ) Refusal → Type 0
  FinishSays t now result = IfOk result (λ tid. MatchOption tid
      ((c : Client) → told × MayBeTold t old c.told c.known → told × MayBeTold now new c.told c.known)
      (λ tid. (c : Client) → told × MayBeTold t old c.told c.known → told × MayBeTold now new c.told (view_of (server_of new))))

  finish_cases : (r : Reply) (b : Bool) (t now : Option Told) → IsHubStep told lasts stands rules named n request.Finish r old mid before between → IsFrontBehind Steps b mid new between after → now ≡ t → FinishSays t now (finish_answer r)
  finish_cases (reply.Committed tid) b t now step front same = λ c may. (may.0, known_now now c.told c.known (kept_finish (reply.Committed tid) b t now c.told c.known step front same may.0 may.1))
  finish_cases reply.Empty b t now step front same = λ c may. (may.0, kept_finish reply.Empty b t now c.told c.known step front same may.0 may.1)
  finish_cases _ b t now step front same = tt

  pub finish_says : (r : Reply) (b : Bool) (t now : Option Told) (result : Result (Option ℕ) Refusal) → IsHubStep told lasts stands rules named n request.Finish r old mid before between → IsFrontBehind Steps b mid new between after → now ≡ t → result ≡ finish_answer r → FinishSays t now result
  finish_says r b t now result step front same is = subst (FinishSays t now) (sym is) (finish_cases r b t now step front same)

  pub finish_keeps : (r : Reply) (b : Bool) (t now : Option Told) (result : Result (Option ℕ) Refusal) → IsHubStep told lasts stands rules named n request.Finish r old mid before between → IsFrontBehind Steps b mid new between after → now ≡ t
      → IfErr result (λ why. IsNothingDone why → (c : Client) → told × MayBeTold t old c.told c.known → told × MayBeTold now new c.told c.known)
  finish_keeps r b t now (Ok tid) step front same = tt
  finish_keeps r b t now (Err why) step front same = λ _ c may. (may.0, kept_finish r b t now c.told c.known step front same may.0 may.1)
