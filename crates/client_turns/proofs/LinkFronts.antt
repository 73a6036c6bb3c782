-- Fronts of a session over its link, in its order behind other steps.
use Rattle.std.proofs.Common.{◌≡◌, ◌⊎◌, ℕ, zero, suc, Bool, true, false, not, List, [], ◌∷◌, length, Option, Some, None, refl, sym, ap, subst, ◌∙◌, inl, inr}
use Rattle.std.specs.Prelude.{slice_set}
use Rattle.std.specs.Option.{option_or}
use Rattle.zb_ids.specs.declared.stamp.Stamp.{Stamp}
use Rattle.zb_model.specs.declared.data.Transaction.{Transaction}
use Rattle.zb_model.specs.declared.news.News.{News}
use Rattle.zb_model.specs.declared.refusal.Refusal.{Refusal}
use Rattle.zb_model.specs.declared.refusal.Refusal.TheVariants as refusal
use Rattle.zb_model.specs.Rules.{MergeRules}
use Rattle.zb_answers.specs.declared.answer.Answer.{Answer}
use Rattle.zb_answers.specs.declared.answer.Answer.TheVariants as answer
use Rattle.zodb_core.specs.declared.reply.Reply.{Reply}
use Rattle.zodb_core.specs.declared.reply.Reply.TheVariants as reply
use Rattle.zodb_core.specs.declared.request.Request.{Request}
use Rattle.zodb_core.specs.declared.request.Request.TheVariants as request
use Rattle.zodb_core.specs.HubState.{HubState, rules_of}
use Rattle.zodb_core.specs.Machine.{Machine, MachineSession, MachineVote, Rules, holds_vote, is_open_in}
use Rattle.zodb_core.specs.Outcomes.{Answered, EndsFor, NoMemory, ReadingFailed, StepOutcome, StoreFailed, machine_left, outcome_of}
use Rattle.zodb_core.specs.Sound.{IsWellFormedRequest}
use Rattle.zodb_core.specs.Steps.{Stepped, finish_gives, finish_step, front_step, refuse_if, step_of, unless_early}
use Rattle.hub_carrier.specs.declared.trouble.Trouble.{Trouble}
use Rattle.hub_carrier.specs.declared.trouble.Trouble.TheVariants as trouble
use Rattle.hub_carrier.specs.Ends.{HubEnd, StepsThere, end_at, worse}
use Rattle.remote_loads.specs.Talking.{IsWayLost}
use Rattle.client_turns.specs.declared.errors.TurnError.{TurnError}
use Rattle.client_turns.specs.declared.errors.TurnError.TheVariants as error
use Rattle.client_turns.specs.Clients.{Moment}
use Rattle.client_turns.specs.Lines.{end_of, is_committed}
use Rattle.client_turns.specs.Linked.{StandsForHub}
use Rattle.client_turns.specs.Others.{KeepsOthers}
use Rattle.client_turns.specs.Settling.{settled}
use Rattle.client_turns.specs.Steps.{IsStepAt}
use Rattle.client_turns.proofs.Bare.{calm_lost}
use Rattle.client_turns.proofs.Ending.{rules_same}
use Rattle.client_turns.proofs.Others.{others_behind, others_same, others_step}
use Rattle.client_turns.proofs.One.{StepsTo, steps_to, within_on, writes_on}

-- ---- sessions stay open

open_set : (xs : List MachineSession) (n : ℕ) (s : MachineSession) → is_open_in xs n ≡ true → s.is_open ≡ true → is_open_in (slice_set xs n s) n ≡ true
open_set [] n s there is = absurd cc
open_set (x ∷ xs) zero s there is = is
open_set (x ∷ xs) (suc n) s there is = open_set xs n s there is

front_keeps : (m : Machine) (n : ℕ) (b : Bool) → is_open_in m.sessions n ≡ b → b ≡ true → is_open_in (unless_early (option_or (refuse_if (not b) refusal.NotOpen) None) m (front_step m n)).machine.sessions n ≡ true
front_keeps m n true is b = open_set m.sessions n (record { is_open = true; told = length m.journal }) is refl
front_keeps m n false is b = absurd cc

front_left : (rules : Rules) (m : Machine) (n stamp : ℕ) (o : StepOutcome) → (o ≡ StoreFailed → ⊥) → is_open_in m.sessions n ≡ true → is_open_in (machine_left rules m n request.Front stamp o).sessions n ≡ true
front_left rules m n stamp Answered failed is = front_keeps m n (is_open_in m.sessions n) refl is
front_left rules m n stamp ReadingFailed failed is = is
front_left rules m n stamp NoMemory failed is = is
front_left rules m n stamp StoreFailed failed is = absurd (failed refl)

-- behind a front
pub open_front : (rules : Rules) (m : Moment) (n : ℕ) (r : Reply) (now : Moment) → IsStepAt rules m n request.Front r now → (outcome_of r ≡ StoreFailed → ⊥) → is_open_in m.machine.sessions n ≡ true → is_open_in now.machine.sessions n ≡ true
open_front rules m n r now step failed is = ap (λ (x : Machine). is_open_in x.sessions n) step.made.left ∙ front_left rules m.machine n step.stamp (outcome_of r) failed is

gives_keep : (m : Machine) (n : ℕ) (writes : Option Transaction) → is_committed (finish_gives m n writes).reply ≡ true → (finish_gives m n writes).machine.sessions ≡ m.sessions
gives_keep m n None is = refl
gives_keep m n (Some t) is = refl

commit_keeps : (m : Machine) (n : ℕ) (b v : Bool) (vote : Option MachineVote) → is_committed (unless_early (option_or (refuse_if (not b) refusal.NotOpen) (refuse_if (not v) refusal.NotVoted)) m (finish_step m n vote)).reply ≡ true
    → (unless_early (option_or (refuse_if (not b) refusal.NotOpen) (refuse_if (not v) refusal.NotVoted)) m (finish_step m n vote)).machine.sessions ≡ m.sessions
commit_keeps m n false v vote is = absurd cc
commit_keeps m n true false vote is = absurd cc
commit_keeps m n true true None is = absurd cc
commit_keeps m n true true (Some v) is = gives_keep m n v.writes is

-- behind a commit
pub open_commit : (rules : Rules) (m : Moment) (n tid : ℕ) (now : Moment) → IsStepAt rules m n request.Finish (reply.Committed tid) now → is_open_in m.machine.sessions n ≡ true → is_open_in now.machine.sessions n ≡ true
open_commit rules m n tid now step is =
    let same : (record { reply = reply.Committed tid; machine = now.machine; ticks = step.ticks }) ≡ step_of rules m.machine n request.Finish step.stamp = step.made.cause in
    ap (λ (s : Stepped). is_open_in s.machine.sessions n) same
    ∙ ap (λ (xs : List MachineSession). is_open_in xs n) (commit_keeps m.machine n (is_open_in m.machine.sessions n) (holds_vote n m.machine.vote) m.machine.vote (sym (ap (λ (s : Stepped). is_committed s.reply) same) ∙ refl)) ∙ is

-- ---- what a front is answered in an open session

pub record IsFrontReply (r : Reply) : Type 0 where
  pub front : ℕ
  pub news : News
  pub switches : ℕ
  pub is : r ≡ reply.Front front news switches

front_says : (m : Machine) (n : ℕ) (b : Bool) → b ≡ true → IsFrontReply (unless_early (option_or (refuse_if (not b) refusal.NotOpen) None) m (front_step m n)).reply
front_says m n true is = record { front = _; news = _; switches = _; is = refl }
front_says m n false is = absurd cc

pub front_or_fault : (rules : Rules) (m : Moment) (n : ℕ) (r : Reply) (now : Moment) → IsStepAt rules m n request.Front r now → is_open_in m.machine.sessions n ≡ true → IsFrontReply r ⊎ (outcome_of r ≡ Answered → ⊥)
front_or_fault rules m n r now step is = by_outcome (outcome_of r) refl step.made.cause
  where
    by_outcome : (o : StepOutcome) → outcome_of r ≡ o → EndsFor rules m.machine n request.Front step.stamp (record { reply = r; machine = now.machine; ticks = step.ticks }) m.counts now.counts o → IsFrontReply r ⊎ (outcome_of r ≡ Answered → ⊥)
    by_outcome Answered said ends = inl (subst (λ (x : Reply). IsFrontReply x) (sym (ap (λ (s : Stepped). s.reply) ends)) (front_says m.machine n (is_open_in m.machine.sessions n) is))
    by_outcome ReadingFailed said ends = inr (λ e. other (sym said ∙ e))
      where
        other : ReadingFailed ≡ Answered → ⊥
        other e = cc
    by_outcome NoMemory said ends = inr (λ e. other (sym said ∙ e))
      where
        other : NoMemory ≡ Answered → ⊥
        other e = cc
    by_outcome StoreFailed said ends = inr (λ e. other (sym said ∙ e))
      where
        other : StoreFailed ≡ Answered → ⊥
        other e = cc

-- ---- what goes wrong

-- a step that neither reads nor changes the store moves nothing
pub still_calm : (r : Reply) (u v : Trouble) → v ≡ worse u (outcome_of r) → (outcome_of r ≡ ReadingFailed → ⊥) → (outcome_of r ≡ StoreFailed → ⊥) → u ≡ trouble.NoFault → v ≡ trouble.NoFault
still_calm r u v is unread unwritten calm = is ∙ ap (λ (z : Trouble). worse z (outcome_of r)) calm ∙ by_outcome (outcome_of r) refl
  where
    by_outcome : (o : StepOutcome) → outcome_of r ≡ o → worse trouble.NoFault o ≡ trouble.NoFault
    by_outcome Answered said = refl
    by_outcome ReadingFailed said = absurd (unread said)
    by_outcome NoMemory said = refl
    by_outcome StoreFailed said = absurd (unwritten said)

-- a lost answer of a step that reads nothing ends the run
pub lost_ends_run : (r : Reply) (way : Refusal) (t : Trouble) (a : Answer) → IsWayLost way → t ≡ worse trouble.NoFault (outcome_of r) → a ≡ settled (answer.Refused way) t → (outcome_of r ≡ ReadingFailed → ⊥) → end_of a ≡ None → ⊥
lost_ends_run r way t a lost is answers unread goes_on = by_outcome (outcome_of r) refl
  where
    some_none : (x : TurnError) → ◌≡◌ {A = Option TurnError} (Some x) None → ⊥
    some_none x e = absurd cc

    said : (o : StepOutcome) → outcome_of r ≡ o → a ≡ settled (answer.Refused way) (worse trouble.NoFault o)
    said o e = answers ∙ ap (λ (z : Trouble). settled (answer.Refused way) z) (is ∙ ap (λ (o : StepOutcome). worse trouble.NoFault o) e)

    memory : a ≡ answer.Refused refusal.Memory → ⊥
    memory e = some_none error.Memory (sym (ap end_of e) ∙ goes_on)

    store : a ≡ answer.Refused refusal.StoreFault → ⊥
    store e = some_none error.StoreFault (sym (ap end_of e) ∙ goes_on)

    by_outcome : (o : StepOutcome) → outcome_of r ≡ o → ⊥
    by_outcome Answered e = memory (said Answered e ∙ ap (λ (z : Refusal). answer.Refused z) (calm_lost way lost))
    by_outcome ReadingFailed e = unread e
    by_outcome NoMemory e = memory (said NoMemory e ∙ ap (λ (z : Refusal). answer.Refused z) (calm_lost way lost))
    by_outcome StoreFailed e = store (said StoreFailed e)

-- ---- steps behind one another

module _ {R F : Type 0} (told lasts : Type 0) (stands : List ℕ → List Transaction → Type 0) (rules_in : R → MergeRules) (named_in : F → List ℕ → Option (List ℕ)) (tells : told) (m : Moment) (h : HubState R F) (n : ℕ) where
  abbrev pub rules : Rules
  rules = rules_of rules_in named_in h

  abbrev Steps : Request → Reply → HubEnd R F → HubEnd R F → Type 0
  Steps q r s u = StepsThere told lasts stands rules_in named_in n q r s u

  -- a moment for which what stands there stands
  pub record Reached (u : HubEnd R F) : Type 0 where
    pub now : Moment
    pub stood : StandsForHub u.hub u.stamps now
    pub same : rules_of rules_in named_in u.hub ≡ rules
    pub clients : now.clients ≡ m.clients
    pub others : KeepsOthers n h u.hub

  abbrev pub reached : (before : Option (List Stamp)) (packs : Bool) (t : Trouble) → StandsForHub h before m → Reached (end_at h before packs t)
  reached before packs t is = record { now = m; stood = is; same = refl; clients = refl; others = others_same n h }

  pub reach : (q : Request) (r : Reply) (s u : HubEnd R F) → (p : Reached s) → Steps q r s u → IsWellFormedRequest q → (e : Reached u) × IsStepAt rules p.now n q r e.now
  reach q r s u p step formed =
      let to : StepsTo (rules_of rules_in named_in s.hub) p.now n q r u.hub u.stamps = steps_to told lasts stands rules_in named_in tells p.now n q r s.hub u.hub s.stamps u.stamps step.step p.stood.hub p.stood.counts p.stood.stamps in
      let e : Reached u = record {
        now = to.now;
        stood = record {
          hub = to.hub;
          vote = writes_on _ p.now n q r to.now to.holds p.stood.vote;
          within = within_on _ p.now n q r to.now to.holds p.stood.vote p.stood.within;
          counts = to.counts;
          stamps = to.stamps;
        };
        same = rules_same rules_in named_in s.hub u.hub step.step.safe.resolver step.step.safe.refs ∙ p.same;
        clients = to.holds.clients ∙ p.clients;
        others = others_behind n h s.hub u.hub p.others (others_step told lasts stands rules_in named_in tells n q r s.hub u.hub s.stamps u.stamps step.step formed);
      } in
      (e, subst (λ (x : Rules). IsStepAt x p.now n q r to.now) p.same to.holds)

  pub front_unread : (r : Reply) (s u : HubEnd R F) → Steps request.Front r s u → outcome_of r ≡ ReadingFailed → ⊥
  front_unread r s u step is = step.step.unread refl is

  pub front_unwritten : (r : Reply) (s u : HubEnd R F) → Steps request.Front r s u → outcome_of r ≡ StoreFailed → ⊥
  front_unwritten r s u step is = step.step.unwritten refl is

  pub finish_unread : (r : Reply) (s u : HubEnd R F) → Steps request.Finish r s u → outcome_of r ≡ ReadingFailed → ⊥
  finish_unread r s u step is = step.step.unread refl is
