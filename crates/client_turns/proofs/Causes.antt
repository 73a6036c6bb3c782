-- What lines do to the counts of faults.
use Rattle.std.proofs.Common.{◌≡◌, ℕ, false, Option, Some, None, refl, sym, ap, subst, ◌∙◌}
use Rattle.zb_base.specs.Counts.{Rose}
use Rattle.zb_model.specs.declared.refusal.Refusal.{Refusal}
use Rattle.zb_model.specs.Stores.{StoreState}
use Rattle.zb_model.specs.declared.refusal.Refusal.TheVariants as refusal
use Rattle.zodb_core.specs.declared.reply.Reply.{Reply}
use Rattle.zodb_core.specs.declared.reply.Reply.TheVariants as reply
use Rattle.zb_answers.specs.declared.answer.Answer.{Answer}
use Rattle.zb_answers.specs.declared.answer.Answer.TheVariants as answer
use Rattle.zodb_core.specs.HubState.{IsCauseOf, is_store_failed}
use Rattle.zodb_core.specs.Outcomes.{Answered, FaultCounts, NoMemory, ReadingFailed, StepOutcome, StoreFailed, outcome_of, outcome_of_refusal}
use Rattle.client_turns.specs.declared.errors.TurnError.{TurnError}
use Rattle.client_turns.specs.declared.errors.TurnError.TheVariants as error
use Rattle.client_turns.specs.CountLaws.{whole_others}
use Rattle.client_turns.specs.Lines.{IsCountedBy, answer_of, end_in, end_of, outcome_of_answer, outcome_of_end, outcome_of_error}
use Rattle.client_turns.specs.Standing.{HasTurnCause}

-- ---- steps

-- what the hub says of the counts
pub counted_of : (before now : FaultCounts) (o : StepOutcome) → IsCauseOf before now o → (is_store_failed o ≡ false → now.others ≡ before.others) → IsCountedBy before now o
counted_of before now Answered cause others = cause
counted_of before now ReadingFailed cause others = (cause, others refl)
counted_of before now NoMemory cause others = cause
counted_of before now StoreFailed cause others = cause

-- a step in which nothing could fail
pub calm_step : (before now : FaultCounts) (o : StepOutcome) → IsCountedBy before now o → ¬ (o ≡ ReadingFailed) → ¬ (o ≡ StoreFailed) → now ≡ before
calm_step before now Answered counts read whole = counts
calm_step before now NoMemory counts read whole = counts
calm_step before now ReadingFailed counts read whole = absurd (read refl)
calm_step before now StoreFailed counts read whole = absurd (whole refl)

-- ---- endings

closed_so : (before now : FaultCounts) (r : Reply) → IsCountedBy before now (outcome_of r) → ¬ (outcome_of r ≡ ReadingFailed) → IsCountedBy before now (outcome_of_end (end_of (answer_of r)))
closed_so before now (reply.Refused why) counts read = by_refusal why counts read
  where
    by_refusal : (why : Refusal) → IsCountedBy before now (outcome_of_refusal why) → ¬ (outcome_of_refusal why ≡ ReadingFailed) → IsCountedBy before now (outcome_of_end (end_in why))
    by_refusal refusal.StoreFault counts read = counts
    by_refusal refusal.Memory counts read = counts
    by_refusal refusal.ReadFault counts read = absurd (read refl)
    by_refusal _ counts read = counts
closed_so before now (reply.Nothing oid switches) counts read = counts
closed_so before now _ counts read = counts

-- how the closing of a session ends the run, by its reply
pub closed_counts : (before now : FaultCounts) (r : Reply) (a : Answer) (ended : Option TurnError) → ended ≡ end_of a → a ≡ answer_of r → IsCountedBy before now (outcome_of r) → ¬ (outcome_of r ≡ ReadingFailed)
    → IsCountedBy before now (outcome_of_end ended)
closed_counts before now r a ended is answers counts read = subst (λ (e : Option TurnError). IsCountedBy before now (outcome_of_end e)) (sym (is ∙ ap end_of answers)) (closed_so before now r counts read)

ended_in : (why : Refusal) (e : TurnError) → end_in why ≡ Some e → outcome_of_refusal why ≡ outcome_of_error e
ended_in refusal.StoreFault error.StoreFault is = refl
ended_in refusal.StoreFault error.Memory is = absurd cc
ended_in refusal.Memory error.Memory is = refl
ended_in refusal.Memory error.StoreFault is = absurd cc
ended_in _ e is = absurd cc

pub ended_so : (a : Answer) (e : TurnError) → end_of a ≡ Some e → outcome_of_answer a ≡ outcome_of_error e
ended_so (answer.Refused why) e is = ended_in why e is
ended_so _ e is = absurd cc

-- a line that ends the run
pub ended_counts : (before now : FaultCounts) (a : Answer) (why : TurnError) → Some why ≡ end_of a → HasTurnCause before now a → IsCountedBy before now (outcome_of_error why)
ended_counts before now a why ends cause = subst (λ (o : StepOutcome). IsCountedBy before now o) (ended_so a why (sym ends)) cause

-- a closing that ends the run, behind a line that doesn't
pub closing_counts : (before mid now : FaultCounts) (a : Answer) (why : TurnError) (ended end : Option TurnError) → None ≡ ended → ended ≡ end_of a → HasTurnCause before mid a → end ≡ Some why → IsCountedBy mid now (outcome_of_end end) → ¬ (end ≡ Some error.Memory)
    → IsCountedBy before now (outcome_of_error why)
closing_counts before mid now a error.Memory ended end none is cause ends counts fed = absurd (fed ends)
closing_counts before mid now a error.StoreFault ended end none is cause ends counts fed =
    subst (λ (n : ℕ). Rose n now.others) (whole_others before mid a (sym (none ∙ is)) cause) (subst (λ (e : Option TurnError). IsCountedBy mid now (outcome_of_end e)) ends counts)

-- and one that doesn't
pub whole_counts : (before mid now : FaultCounts) (a : Answer) (end : Option TurnError) → HasTurnCause before mid a → end ≡ None → IsCountedBy mid now (outcome_of_end end) → HasTurnCause before now a
whole_counts before mid now a end cause none counts = subst (λ (k : FaultCounts). HasTurnCause before k a) (sym (subst (λ (e : Option TurnError). IsCountedBy mid now (outcome_of_end e)) none counts)) cause

-- where an answer doesn't end the run, and neither does a closing, the store hasn't failed
goes_whole : (why : Refusal) → end_in why ≡ None → is_store_failed (outcome_of_refusal why) ≡ false
goes_whole refusal.StoreFault none = absurd cc
goes_whole refusal.Memory none = absurd cc
goes_whole refusal.ReadFault none = refl
goes_whole _ none = refl

answer_whole : (a : Answer) → end_of a ≡ None → is_store_failed (outcome_of_answer a) ≡ false
answer_whole (answer.Refused why) none = goes_whole why none
answer_whole _ none = refl

pub stays_whole : (old mid new : StoreState) (a : Answer) (line end : Option TurnError) → line ≡ end_of a → None ≡ line
    → (old.broken ≡ false → mid.broken ≡ is_store_failed (outcome_of_answer a)) → (mid.broken ≡ false → new.broken ≡ is_store_failed (outcome_of_end end))
    → end ≡ None → old.broken ≡ false → new.broken ≡ false
stays_whole old mid new a line end is none first second ended whole =
    let between : mid.broken ≡ false = first whole ∙ answer_whole a (sym (none ∙ is)) in
    second between ∙ ap (λ (e : Option TurnError). is_store_failed (outcome_of_end e)) ended
