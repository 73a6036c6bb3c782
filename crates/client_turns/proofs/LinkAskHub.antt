-- The hub behind questions of a client with a link, behind new numbers and behind reads.
use Rattle.std.proofs.Common.{◌≡◌, ◌⊎◌, ℕ, Bool, false, List, Option, Some, Result, refl, sym, subst, ◌∙◌, inl, inr}
use Rattle.zb_ids.specs.declared.stamp.Stamp.{Stamp}
use Rattle.zb_volume.specs.declared.areas.Area.TheVariants.{Main}
use Rattle.zb_volume.specs.Calls.{Event}
use Rattle.zb_volume.specs.Moments.{Leaves, LeavesOnly, here}
use Rattle.zb_model.specs.declared.data.Transaction.{Transaction}
use Rattle.zb_model.specs.declared.refusal.Refusal.{Refusal}
use Rattle.zb_model.specs.Rules.{MergeRules}
use Rattle.zb_answers.specs.declared.answer.Answer.{Answer}
use Rattle.zb_script.specs.declared.line.Line.{Line}
use Rattle.zb_script.specs.declared.line.Line.TheVariants as line
use Rattle.zodb_core.specs.declared.reply.Reply.{Reply}
use Rattle.zodb_core.specs.declared.request.Request.{Request}
use Rattle.zodb_core.specs.declared.request.Request.TheVariants as request
use Rattle.zodb_core.specs.HubState.{HubState, IsBeforeOrBehind, StandsForMachine, counts_of, rules_of}
use Rattle.zodb_core.specs.Machine.{Machine, Rules}
use Rattle.connection_view.specs.Views as views
use Rattle.zeo_messages.specs.declared.answer.Answer.{Answer as FarAnswer}
use Rattle.zeo_messages.specs.declared.call.Call.{Call}
use Rattle.hub_carrier.specs.declared.trouble.Trouble.{Trouble}
use Rattle.hub_carrier.specs.declared.trouble.Trouble.TheVariants as trouble
use Rattle.hub_carrier.specs.Ends.{HubEnd, StepsThere, end_at, machine_at}
use Rattle.hub_carrier.specs.Later.{IsLaterEnd}
use Rattle.remote_loads.specs.Making.{MakesOne, makes_answered, makes_lost, makes_none, makes_unsent}
use Rattle.remote_loads.specs.Requesting.{IsQuestionMade, question_lost, question_told}
use Rattle.remote_loads.specs.Standing.{Stands}
use Rattle.client_turns.specs.declared.linked.LinkedClient.{LinkedClient}
use Rattle.client_turns.specs.Lines.{outcome_of_answer}
use Rattle.client_turns.specs.Linked.{MayStand}
use Rattle.client_turns.specs.Members.{far}
use Rattle.client_turns.specs.OverCarrier.{LinkAt, link_at}
use Rattle.client_turns.specs.OverQuestions.{NumberOver, QuestionOver, number_answer}
use Rattle.client_turns.specs.Settling.{settled}
use Rattle.client_turns.specs.Standing.{IsListOf, LeavesHub, packs_list}
use Rattle.client_turns.specs.TurnLaws.{step_left}
use Rattle.client_turns.proofs.Crashes.{kept_moments}
use Rattle.client_turns.proofs.LinkAsks.{may_steps}
use Rattle.client_turns.proofs.LinkHub.{settled_counts, settled_failed}

-- one step, or none
pub one_cases : {S T : Type 0} (steps : Request → Reply → S → S → Type 0) (q : Request) (call : Call) (said : FarAnswer → Result T Refusal) (s : S) (result : Result T Refusal) (u : S) → MakesOne steps q call said s result u → (u ≡ s) ⊎ ((r : Reply) × steps q r s u)
one_cases steps q call said s _ _ (makes_unsent error is) = inl refl
one_cases steps q call said s _ _ (makes_none r way) = inl refl
one_cases steps q call said s _ _ (makes_lost r k u way step) = inr (k, step)
one_cases steps q call said s _ _ (makes_answered k u step) = inr (k, step)

question_once : {S : Type 0} (steps : Request → Reply → S → S → Type 0) (q : Request) (s : S) (result : Result Reply Refusal) (u : S) → IsQuestionMade steps q s result u → (u ≡ s) ⊎ ((r : Reply) × steps q r s u)
question_once steps q s _ _ (question_lost r u way may) = may_steps steps q s u may
question_once steps q s _ _ (question_told r u step) = inr (r, step)

module _ {R F : Type 0} (told lasts : Type 0) (stands : List ℕ → List Transaction → Type 0) (rules_in : R → MergeRules) (named_in : F → List ℕ → Option (List ℕ)) (x y : LinkedClient) (h g : HubState R F) (before after : Option (List Stamp)) (left : Bool) (t : Trouble) (l : Line) where
  abbrev All : ℕ → Request → Reply → HubEnd R F → HubEnd R F → Type 0
  All n q r s u = StepsThere told lasts stands rules_in named_in n q r s u

  abbrev machine : HubEnd R F → Machine
  machine e = machine_at e.hub

  abbrev start : HubEnd R F
  start = end_at h before (packs_list l) trouble.NoFault

  abbrev finish : HubEnd R F
  finish = end_at g after left t

  abbrev old : LinkAt (HubEnd R F)
  old = link_at start x.session x.desk x.client

  abbrev new : LinkAt (HubEnd R F)
  new = link_at finish y.session y.desk y.client

  abbrev rules : Rules
  rules = rules_of rules_in named_in h

  -- what may be seen in this line, behind no step or one of this request
  pub record SeesList (q : Request) : Type 0 where
    pub seen : (m : Machine) (bytes : List ℕ) → stands bytes m.list → IsListOf stands rules (Some (far x)) l m bytes
    pub moved : (m : Machine) (old new : List Event) → LeavesOnly Main (IsBeforeOrBehind stands rules m x.session q) old new → LeavesOnly Main (IsListOf stands rules (Some (far x)) l m) old new

  -- one step, or none
  abbrev StepsOnce : Request → Type 0
  StepsOnce q = (finish ≡ start) ⊎ ((r : Reply) × All x.session q r start finish)

  once_hub : (q : Request) (raw given : Answer) → SeesList q → (told → (v : views.Client) → Stands (machine_at h) x.session x.desk x.client v → StepsOnce q) → given ≡ settled raw t → IsLaterEnd lasts start finish
      → LeavesHub (told × MayStand h x) lasts stands rules (Some (far x)) l (outcome_of_answer given) h g
  once_hub q raw given sees once is later = subst (λ (z : Answer). LeavesHub (told × MayStand h x) lasts stands rules (Some (far x)) l (outcome_of_answer z) h g) (sym is) (record {
    resolver = later.resolver;
    refs = later.refs;
    later = later.later;
    cause = settled_counts (counts_of h.store) (counts_of g.store) raw t (later.counts (counts_of h.store) refl);
    broken = λ whole. later.broken whole ∙ sym (settled_failed raw t);
    side = λ on none. later.side on none;
    moments = λ on may whole m is leaves. by_once on may.0 whole m is leaves (once may.0 may.1.0 may.1.1);
  })
    where
      by_once : lasts → told → h.store.broken ≡ false → (m : Machine) → StandsForMachine h m → Leaves Main (λ bytes. stands bytes m.list) h.store.log → StepsOnce q → LeavesOnly Main (IsListOf stands rules (Some (far x)) l m) h.store.log g.store.log
      by_once on tells whole m is leaves (inl same) =
          subst (λ (e : HubEnd R F). LeavesOnly Main (IsListOf stands rules (Some (far x)) l m) h.store.log e.hub.store.log) (sym same) (here (λ image crash. sees.seen m image (leaves image crash)))
      by_once on tells whole m is leaves (inr (r, step)) = sees.moved m h.store.log g.store.log (step.step.any_moment on tells whole m is)

  -- a question
  pub question_hub : (q : Request) (raw given : Answer) → SeesList q → QuestionOver told All machine old q raw new → given ≡ settled raw t → IsLaterEnd lasts start finish → LeavesHub (told × MayStand h x) lasts stands rules (Some (far x)) l (outcome_of_answer given) h g
  question_hub q raw given sees o is later = once_hub q raw given sees (λ tells v stood. question_once (All x.session) q start o.result finish (o.leaves tells v stood).made) is later

  -- a new number
  pub new_hub : (result : Result ℕ Refusal) (given : Answer) → SeesList (request.NewOids 1) → NumberOver told All machine old result new → given ≡ settled (number_answer result) t → IsLaterEnd lasts start finish
      → LeavesHub (told × MayStand h x) lasts stands rules (Some (far x)) l (outcome_of_answer given) h g
  new_hub result given sees o is later = once_hub (request.NewOids 1) (number_answer result) given sees (λ tells v stood. one_cases (All x.session) (request.NewOids 1) _ _ start result finish (o.makes tells v stood)) is later

-- ---- what may be seen in each line

module _ {R F : Type 0} (told lasts : Type 0) (stands : List ℕ → List Transaction → Type 0) (rules_in : R → MergeRules) (named_in : F → List ℕ → Option (List ℕ)) (x y : LinkedClient) (h g : HubState R F) (before after : Option (List Stamp)) (left : Bool) (t : Trouble) where
  abbrev Sees : Line → Request → Type 0
  Sees l q = SeesList told lasts stands rules_in named_in x y h g before after left t l q

  pub new_sees : Sees line.New (request.NewOids 1)
  new_sees = record { seen = λ m bytes is. is; moved = λ m old new only. kept_moments stands (rules_of rules_in named_in h) m x.session (request.NewOids 1) old new (step_left (rules_of rules_in named_in h) m x.session (request.NewOids 1) 0) only }

  pub history_sees : (oid : ℕ) → Sees (line.History oid) (request.History oid)
  history_sees oid = record { seen = λ m bytes is. is; moved = λ m old new only. kept_moments stands (rules_of rules_in named_in h) m x.session (request.History oid) old new (step_left (rules_of rules_in named_in h) m x.session (request.History oid) 0) only }

  pub log_sees : Sees line.UndoLog request.UndoLog
  log_sees = record { seen = λ m bytes is. is; moved = λ m old new only. kept_moments stands (rules_of rules_in named_in h) m x.session request.UndoLog old new (step_left (rules_of rules_in named_in h) m x.session request.UndoLog 0) only }

  pub begin_sees : (tid : ℕ) (collects : Bool) → Sees (line.PackBegin tid collects) (request.PackBegin tid collects)
  begin_sees tid collects = record {
    seen = λ m bytes is. is;
    moved = λ m old new only. kept_moments stands (rules_of rules_in named_in h) m x.session (request.PackBegin tid collects) old new (step_left (rules_of rules_in named_in h) m x.session (request.PackBegin tid collects) 0) only;
  }

  pub pack_sees : (tid : ℕ) (collects : Bool) → Sees (line.Pack tid collects) (request.Pack tid collects)
  pack_sees tid collects = record { seen = λ m bytes is. inl is; moved = λ m old new only. only }

  pub turn_sees : Sees line.PackTurn request.PackTurn
  turn_sees = record { seen = λ m bytes is. inl is; moved = λ m old new only. only }
