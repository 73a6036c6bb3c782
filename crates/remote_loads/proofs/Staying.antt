-- Calls of one step whose answer is heard without a change, and what they leave of a client.
use Rattle.std.proofs.Common.{◌≡◌, inl, inr, ℕ, Some, Result, Ok, Err, refl, sym, ap, subst, ◌∙◌, arith}
use Rattle.std.specs.Prelude.{OnErr, OnOk}
use Rattle.zb_model.specs.declared.refusal.Refusal.{Refusal}
use Rattle.zb_model.specs.declared.refusal.Refusal.TheVariants as refusal
use Rattle.zodb_core.specs.declared.reply.Reply.{Reply}
use Rattle.zodb_core.specs.declared.reply.Reply.TheVariants as reply
use Rattle.zodb_core.specs.declared.request.Request.{Request}
use Rattle.zodb_core.specs.declared.request.Request.TheVariants as request
use Rattle.zodb_core.specs.Machine.{Machine}
use Rattle.zodb_core.specs.Outcomes.{StepOutcome, machine_left, outcome_of}
use Rattle.zodb_core.specs.Steps.{Stepped, step_of}
use Rattle.connection_view.specs.Views.{Client, unvoted}
use Rattle.zeo_messages.specs.declared.answer.Answer.{Answer}
use Rattle.zeo_messages.specs.declared.answer.Answer.TheVariants as answers
use Rattle.zeo_messages.specs.declared.call.Call.{Call}
use Rattle.zeo_messages.specs.declared.call.Call.TheVariants as calls
use Rattle.zeo_reading.specs.Reading.{AreReadBack}
use Rattle.zeo_desk.specs.declared.asked.Asked.TheVariants as asked
use Rattle.zeo_desk.specs.Desks.{DeskState}
use Rattle.zeo_serving.specs.Laws.{nothing_asked}
use Rattle.zeo_serving.specs.MayLaws.{abort_stays, answered_step, may_step}
use Rattle.zeo_serving.specs.Serving.{IsServed, MayBeServed}
use Rattle.zeo_serving.specs.ServingLaws.{own_keep}
use Rattle.zeo_serving.specs.VoteLaws.{votes_end}
use Rattle.zeo_client.specs.Hearing.{Held, IsAnswerHeard}
use Rattle.zeo_client.specs.Taking.{ClientState}
use Rattle.zeo_client.specs.Whole.{WholePiecesAreHeard}
use Rattle.remote_loads.specs.Answers.{done_answer, oid_answer}
use Rattle.remote_loads.specs.Carrying.{IsMachineStep}
use Rattle.remote_loads.specs.Leaving.{AbortLeaves, OidLeaves}
use Rattle.remote_loads.specs.Making.{IsMadeBy, answered_so, free_if_done, left_alone, made_by}
use Rattle.remote_loads.specs.Standing.{IsAtRest, Stands}
use Rattle.remote_loads.specs.Talking.{IsCalled, answer_sent, answer_given, answered, unheard, unmade, unsent}
use Rattle.remote_loads.specs.KnownLaws.{known_may}
use Rattle.remote_loads.proofs.Called.{NamesOne, asked_so}
use Rattle.remote_loads.proofs.Loading.{MayBeAt}
use Rattle.remote_loads.proofs.Loads.{makes_one}
use Rattle.remote_loads.proofs.Rows.{abort_row, by_reply, oid_row}
use Rattle.remote_loads.proofs.Sendings.{by_sent}

-- where each step keeps what holds of a client, and hearing an answer changes nothing, a call keeps it
pub called_stays : {S : Type 0} (steps : Request → Reply → S → S → Type 0) (request : Request) (call : Call) (P : S → Held → Type 0) → ((a : Answer) (old new : Held) → IsAnswerHeard (Some call) a old new → new ≡ old)
    → ((r : Reply) (s t : S) (h : Held) → steps request r s t → P s h → P t h) → (before now : S) (old new : Held) (result : Result Answer Refusal) → IsCalled steps request call before old result new now → P before old → P now new
called_stays steps request call P heard stays before _ _ _ _ (unsent e why) x = x
called_stays steps request call P heard stays before _ _ _ _ (unmade r way) x = x
called_stays steps request call P heard stays before _ old _ _ (unheard r reply new now way step (inl same)) x = subst (λ (h : Held). P now h) (sym same) (stays reply before now old step x)
called_stays steps request call P heard stays before _ old _ _ (unheard r reply new now way step (inr some)) x =
    subst (λ (h : Held). P now h) (sym (heard (answer_given request reply) old new some)) (stays reply before now old step x)
called_stays steps request call P heard stays before _ old _ _ (answered reply new now step some) x =
    subst (λ (h : Held). P now h) (sym (heard (answer_given request reply) old new some)) (stays reply before now old step x)

-- ---- numbers

oid_step : (m : Machine) (n : ℕ) (r : Reply) (now : Machine) (c : Client) (h : Held) → IsMachineStep m n (request.NewOids 1) r now → MayBeAt m n h c → MayBeAt now n h c
oid_step m n r now c h step may =
    known_may step.left now n h.standing h.cache.entries c step.known
    (may_step step.rules m n (request.NewOids 1) step.stamp (record { reply = r; machine = step.left; ticks = step.ticks }) step.before step.after h.standing h.standing h.cache.entries h.cache.entries c c step.made may (record {
      formed = tt;
      whole = λ sound x. own_keep step.rules m n (request.NewOids 1) step.stamp (outcome_of r) sound refl h.standing h.cache.entries c x;
      lost = λ is at sound x. x;
      front = may.front;
      switches = may.switches;
    }))

-- ---- aborts

abort_step : (m : Machine) (n : ℕ) (r : Reply) (now : Machine) (c : Client) (h : Held) → IsMachineStep m n request.Abort r now → MayBeAt m n h c → MayBeAt now n h c
abort_step m n r now c h step may =
    known_may step.left now n h.standing h.cache.entries c step.known
    (may_step step.rules m n request.Abort step.stamp (record { reply = r; machine = step.left; ticks = step.ticks }) step.before step.after h.standing h.standing h.cache.entries h.cache.entries c c step.made may (record {
      formed = tt;
      whole = λ sound x. abort_stays step.rules m n step.stamp (outcome_of r) sound h.standing h.cache.entries c x;
      lost = λ is at sound x. x;
      front = may.front;
      switches = may.switches;
    }))

-- where it is answered that the vote was dropped, the next commit of the client changes nothing
dropped_step : (m : Machine) (n : ℕ) (r : Reply) (now : Machine) (c : Client) (h : Held) → IsMachineStep m n request.Abort r now → r ≡ reply.Aborted → MayBeAt m n h c → MayBeServed now n (nothing_asked h.standing) h.cache.entries (unvoted c)
dropped_step m n r now c h step is may =
    known_may step.left now n (nothing_asked h.standing) h.cache.entries (unvoted c) step.known
    (may_step step.rules m n request.Abort step.stamp made step.before step.after h.standing (nothing_asked h.standing) h.cache.entries h.cache.entries c (unvoted c) step.made may (record {
      formed = tt;
      whole = λ sound x.
          subst (λ (o : StepOutcome). IsServed (machine_left step.rules m n request.Abort step.stamp o) n (nothing_asked h.standing) h.cache.entries (unvoted c)) (sym (ap outcome_of is))
          (votes_end step.rules m n request.Abort step.stamp sound said h.standing h.cache.entries c x);
      lost = λ refused at sound x. absurd (never (sym is ∙ refused));
      front = may.front;
      switches = may.switches;
    }))
  where
    made : Stepped
    made = record { reply = r; machine = step.left; ticks = step.ticks }

    said : (step_of step.rules m n request.Abort step.stamp).reply ≡ reply.Aborted
    said = sym (ap (λ (s : Stepped). s.reply) (answered_step step.rules m n request.Abort step.stamp (record { reply = r; machine = step.left; ticks = step.ticks }) step.before step.after reply.Aborted step.made is refl)) ∙ is

    never : reply.Aborted ≡ reply.Refused refusal.NotOpen → ⊥
    never same = absurd cc

module _ {S : Type 0} (steps : Request → Reply → S → S → Type 0) (machine : S → Machine) (n : ℕ) (stepped : (q : Request) (r : Reply) (s t : S) → steps q r s t → IsMachineStep (machine s) n q r (machine t)) (read_back : AreReadBack) (whole : WholePiecesAreHeard) where
  pub oid_leaves : (before now : S) (d left : DeskState) (old new : ClientState) (result : Result ℕ Refusal) → IsMadeBy steps before d old (calls.NewOids 1) oid_answer left_alone result new now left
      → (c : Client) → Stands (machine before) n d old c → OidLeaves steps machine n before c result new now left
  oid_leaves before _ d _ old _ _ (made_by result new now left made) c x =
      let names : NamesOne (calls.NewOids 1) (request.NewOids 1) = record { held = omega arith; row = refl; once = record { last = λ r. refl; answer = λ r. refl; long = λ k. refl }; names = λ k number. refl } in
      let called = asked_so steps whole (calls.NewOids 1) (request.NewOids 1) (λ reply s t step. oid_row (machine s) n reply (machine t) (stepped (request.NewOids 1) reply s t step)) names.once read_back names before d old x.rest result new now left made in
      record {
        stands = record {
          served = called_stays steps (request.NewOids 1) (calls.NewOids 1) (λ s h. MayBeAt (machine s) n h c) (λ a h k same. same)
              (λ r s t h step. oid_step (machine s) n r (machine t) c h (stepped (request.NewOids 1) r s t step)) before now old.held new.held result called.0 x.served;
          rest = called.1;
        };
        made = makes_one steps (request.NewOids 1) (calls.NewOids 1) oid_answer before now old.held new.held result called.0;
      }

  -- what holds of a client whose vote was dropped
  abbrev Freed : S → Held → Client → Type 0
  Freed s h c = MayBeServed (machine s) n (nothing_asked h.standing) h.cache.entries (unvoted c)

  done_called : (before now : S) (c : Client) (old new : Held) (result : Result Answer Refusal) → IsCalled steps request.Abort calls.TpcAbort before old result new now → MayBeAt (machine before) n old c
      → OnOk (answered_so done_answer result) (Freed now new c)
  done_called before _ c _ _ _ (unsent e why) may = tt
  done_called before _ c _ _ _ (unmade r way) may = tt
  done_called before _ c old _ _ (unheard r reply new now way step heard) may = tt
  done_called before _ c old _ _ (answered reply new now step heard) may =
      subst (λ (h : Held). OnOk (done_answer (answer_sent reply)) (Freed now h c)) (sym heard)
      (by_reply (λ r. reply ≡ r → OnOk (done_answer (answer_sent r)) (Freed now old c)) said.rules (machine before) n request.Abort said.stamp (record { reply = reply; machine = said.left; ticks = said.ticks }) said.before said.after said.made
      (λ none is. by_sent (λ a. OnOk (done_answer a) (Freed now old c)) asked.Other answers.Done (λ k. refl) (λ allowed short. dropped_step (machine before) n reply (machine now) c old said is may) (λ k. tt) tt)
      (λ why is. by_sent (λ a. OnOk (done_answer a) (Freed now old c)) asked.Other (answers.Refused why) (λ k. refl) (λ allowed short. tt) (λ k. tt) tt) refl)
    where
      said : IsMachineStep (machine before) n request.Abort reply (machine now)
      said = stepped request.Abort reply before now step

  ends : (now : S) (left : DeskState) (new : ClientState) (c : Client) (result : Result (Unit {0}) Refusal) → MayBeAt (machine now) n new.held c → IsAtRest left new → OnOk result (Freed now new.held c)
      → OnOk result (Stands (machine now) n left (free_if_done result new) (unvoted c)) × OnErr result (Stands (machine now) n left (free_if_done result new) c)
  ends now left new c (Ok done) may rest freed = (record { served = freed; rest = record { registered = rest.registered; end = rest.end; reading = rest.reading } }, tt)
  ends now left new c (Err r) may rest freed = (tt, record { served = may; rest = rest })

  pub abort_leaves : (before now : S) (d left : DeskState) (old new : ClientState) (result : Result (Unit {0}) Refusal) → IsMadeBy steps before d old calls.TpcAbort done_answer free_if_done result new now left
      → (c : Client) → Stands (machine before) n d old c → AbortLeaves steps machine n before c result new now left
  abort_leaves before _ d _ old _ _ (made_by result new now left made) c x =
      let names : NamesOne calls.TpcAbort request.Abort = record { held = tt; row = refl; once = record { last = λ r. refl; answer = λ r. refl; long = λ k. refl }; names = λ k number. refl } in
      let called = asked_so steps whole calls.TpcAbort request.Abort (λ reply s t step. abort_row (machine s) n reply (machine t) (stepped request.Abort reply s t step)) names.once read_back names before d old x.rest result new now left made in
      let may : MayBeAt (machine now) n new.held c = called_stays steps request.Abort calls.TpcAbort (λ s h. MayBeAt (machine s) n h c) (λ a h k same. same)
      (λ r s t h step. abort_step (machine s) n r (machine t) c h (stepped request.Abort r s t step)) before now old.held new.held result called.0 x.served in
      let both = ends now left new c (answered_so done_answer result) may called.1 (done_called before now c old.held new.held result called.0 x.served) in
      record { unvoted = both.0; same = both.1; made = makes_one steps request.Abort calls.TpcAbort done_answer before now old.held new.held result called.0 }
