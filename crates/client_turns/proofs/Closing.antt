-- What closing a session is answered fits a frame, and so it is answered to a client with a link too.
use Rattle.std.proofs.Common.{◌≡◌, ℕ, Bool, true, false, not, Option, None, refl, sym, ap, subst, ◌∙◌}
use Rattle.std.specs.Option.{option_or}
use Rattle.zb_model.specs.declared.refusal.Refusal.{Refusal}
use Rattle.zb_model.specs.declared.refusal.Refusal.TheVariants as refusal
use Rattle.zodb_core.specs.declared.reply.Reply.{Reply}
use Rattle.zodb_core.specs.declared.reply.Reply.TheVariants as reply
use Rattle.zodb_core.specs.declared.request.Request.TheVariants as request
use Rattle.zodb_core.specs.Machine.{Machine, Rules, is_open_in}
use Rattle.zodb_core.specs.Outcomes.{Answered, EndsFor, FaultCounts, NoMemory, ReadingFailed, StepOutcome, StoreFailed, outcome_of, outcome_of_refusal}
use Rattle.zodb_core.specs.Steps.{Stepped, refuse_if, replied, unless_early, without_session}
use Rattle.client_turns.specs.Clients.{Linked, Local, Moment, Standing}
use Rattle.client_turns.specs.Frames.{reply_excess}
use Rattle.client_turns.specs.Lines.{answer_of, asking_excess, step_answer, unless_long}
use Rattle.client_turns.specs.Steps.{IsStepAt}

refusal_short : (why : Refusal) → (outcome_of_refusal why ≡ Answered → ⊥) → reply_excess (reply.Refused why) ≡ None
refusal_short refusal.ReadFault failed = refl
refusal_short refusal.StoreFault failed = refl
refusal_short refusal.Memory failed = refl
refusal_short _ failed = absurd (failed refl)

fault_short : (r : Reply) → (outcome_of r ≡ Answered → ⊥) → reply_excess r ≡ None
fault_short (reply.Refused why) failed = refusal_short why failed
fault_short _ failed = absurd (failed refl)

closes_short : (m : Machine) (n : ℕ) (b : Bool) → reply_excess (unless_early (option_or (refuse_if (not b) refusal.NotOpen) None) m (replied (without_session m n) reply.Closed)).reply ≡ None
closes_short m n true = refl
closes_short m n false = refl

by_outcome : (rules : Rules) (m : Machine) (n stamp : ℕ) (made : Stepped) (before now : FaultCounts) (o : StepOutcome) → outcome_of made.reply ≡ o → EndsFor rules m n request.Close stamp made before now o → reply_excess made.reply ≡ None
by_outcome rules m n stamp made before now Answered is ends = subst (λ (s : Stepped). reply_excess s.reply ≡ None) (sym ends) (closes_short m n (is_open_in m.sessions n))
by_outcome rules m n stamp made before now ReadingFailed is ends = fault_short made.reply (λ answered. other (sym is ∙ answered))
  where
    other : ReadingFailed ≡ Answered → ⊥
    other e = absurd cc
by_outcome rules m n stamp made before now NoMemory is ends = fault_short made.reply (λ answered. other (sym is ∙ answered))
  where
    other : NoMemory ≡ Answered → ⊥
    other e = absurd cc
by_outcome rules m n stamp made before now StoreFailed is ends = fault_short made.reply (λ answered. other (sym is ∙ answered))
  where
    other : StoreFailed ≡ Answered → ⊥
    other e = absurd cc

pub close_short : (rules : Rules) (m : Moment) (n : ℕ) (r : Reply) (now : Moment) → IsStepAt rules m n request.Close r now → reply_excess r ≡ None
close_short rules m n r now step =
    by_outcome rules m.machine n step.stamp (record { reply = r; machine = now.machine; ticks = step.ticks }) m.counts now.counts (outcome_of r) refl step.made.cause

-- however the client stands
pub close_answer : (s : Standing) (r : Reply) → reply_excess r ≡ None → step_answer s false r ≡ answer_of r
close_answer Local r short = refl
close_answer (Linked known) r short = ap (λ (e : Option ℕ). unless_long e (answer_of r)) short

pub close_asks : (s : Standing) → asking_excess s request.Close ≡ None
close_asks Local = refl
close_asks (Linked known) = refl
