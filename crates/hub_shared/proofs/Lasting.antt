-- What a crash leaves of a history, and of one that is longer.
use Rattle.std.proofs.Common.{◌≡◌, ℕ, ◌⊎◌, inl, inr, Bool, true, false, List, [], ◌∷◌, ◌++◌, refl, ap, sym, ◌∙◌, subst, arith}
use Rattle.std.proofs.lemmas.List.{append-nil}
use Rattle.zb_base.specs.Counts.{Rose, rose_after}
use Rattle.zb_model.specs.declared.data.Transaction.{Transaction}
use Rattle.zb_volume.specs.declared.areas.Area.TheVariants.{Main}
use Rattle.zb_volume.specs.Calls.{Event}
use Rattle.zb_volume.specs.Moments.{Leaves, LeavesOnly}
use Rattle.zb_volume.specs.Runs.{joined, leaves_less}
use Rattle.zodb_core.specs.declared.reply.Reply.{Reply}
use Rattle.zodb_core.specs.History.{Entry, HistoryStep, Made}
use Rattle.zodb_core.specs.HubState.{HubState, IsBeforeOrBehind, IsCauseOf, StandsForMachine, StepsSafely, counts_of, is_store_failed}
use Rattle.zodb_core.specs.Machine.{Machine, Rules, machine_over}
use Rattle.zodb_core.specs.Outcomes.{Answered, AreLaterCounts, FaultCounts, NoMemory, ReadingFailed, StepOutcome, StoreFailed, outcome_of}
use Rattle.hub_shared.specs.Lasted.{nothing_lasted}
use Rattle.hub_shared.specs.Seats.{HasLasted, IsOfHistory, IsOfNext, machine_of}
use Rattle.hub_shared.proofs.Seats.{prefix_on}

-- what is of a history is of a longer one
pub of_more : (stands : List ℕ → List Transaction → Type 0) (rules : Rules) (list : List Transaction) (entries : List Entry) (e : Entry) (bytes : List ℕ) → IsOfHistory stands rules list entries bytes
    → IsOfHistory stands rules list (entries ++ e ∷ []) bytes
of_more stands rules list entries e bytes is = record { front = is.front; begins = prefix_on is.front entries (e ∷ []) is.begins; is = next is.is }
  where
    next : stands bytes (machine_of rules list is.front).list ⊎ IsOfNext stands rules list is.front entries bytes
        → stands bytes (machine_of rules list is.front).list ⊎ IsOfNext stands rules list is.front (entries ++ e ∷ []) bytes
    next (inl of_front) = inl of_front
    next (inr of_next) = inr (record { step = of_next.step; next = prefix_on (is.front ++ Made of_next.step ∷ []) entries (e ∷ []) of_next.next; leaves = of_next.leaves })

-- what a step leaves is of the history with that step
pub of_step : (stands : List ℕ → List Transaction → Type 0) (rules : Rules) (list : List Transaction) (entries : List Entry) (e : HistoryStep) (bytes : List ℕ)
    → IsBeforeOrBehind stands rules (machine_of rules list entries) e.session e.request bytes → IsOfHistory stands rules list (entries ++ Made e ∷ []) bytes
of_step stands rules list entries e bytes (inl before) = record { front = entries; begins = (Made e ∷ [], refl); is = inl before }
of_step stands rules list entries e bytes (inr behind) =
    record { front = entries; begins = (Made e ∷ [], refl); is = inr (record { step = e; next = ([], append-nil (entries ++ Made e ∷ [])); leaves = behind }) }

failed_rose : (before now : FaultCounts) (o : StepOutcome) → is_store_failed o ≡ true → IsCauseOf before now o → Rose before.others now.others
failed_rose before now Answered is cause = absurd cc
failed_rose before now ReadingFailed is cause = absurd cc
failed_rose before now NoMemory is cause = absurd cc
failed_rose before now StoreFailed is cause = cause

-- what a history has done, and then a step
pub step_lasted : {R F : Type 0} (lasts told : Type 0) (stands : List ℕ → List Transaction → Type 0) (now rules : Rules) (list : List Transaction) (counts : FaultCounts) (log : List Event) (was_broken : Bool)
    (entries : List Entry) (old new : HubState R F) (packs : Bool) (e : HistoryStep) (r : Reply)
    → HasLasted lasts told stands rules list counts log was_broken entries old → StepsSafely packs r old new → (old.store.broken ≡ true → new ≡ old)
    → now ≡ rules → (told → StandsForMachine old (machine_of rules list entries))
    → (lasts → told → old.store.broken ≡ false → (m : Machine) → StandsForMachine old m → LeavesOnly Main (IsBeforeOrBehind stands now m e.session e.request) old.store.log new.store.log)
    → HasLasted lasts told stands rules list counts log was_broken (entries ++ Made e ∷ []) new
step_lasted lasts told stands now rules list counts log was_broken entries old new packs e r lasted safe stays same is only = record {
  later = record { reads = omega (arith, lasted.later.reads, safe.later.reads); others = omega (arith, lasted.later.others, safe.later.others) };
  same = λ whole now. still old.store.broken refl whole now;
  broken = λ whole. by_store old.store.broken refl whole;
  moments = λ l t whole. along l t whole old.store.broken refl;
}
  where
    still : (b : Bool) → old.store.broken ≡ b → was_broken ≡ false → new.store.broken ≡ false → new.store.faults ≡ counts.others
    still true was whole now = absurd (let is = sym (ap (λ (h : HubState _ _). h.store.broken) (stays was) ∙ was) ∙ now in cc)
    still false was whole now = safe.others (sym (safe.broken was) ∙ now) ∙ lasted.same whole was

    by_store : (b : Bool) → old.store.broken ≡ b → was_broken ≡ false → new.store.broken ≡ true → Rose counts.others new.store.faults
    by_store true was whole broken = subst (λ (h : HubState _ _). Rose counts.others h.store.faults) (sym (stays was)) (lasted.broken whole was)
    by_store false was whole broken =
        rose_after counts.others old.store.faults new.store.faults lasted.later.others
        (failed_rose (counts_of old.store) (counts_of new.store) (outcome_of r) (sym (safe.broken was) ∙ broken) safe.cause)

    before : lasts → told → was_broken ≡ false → LeavesOnly Main (IsOfHistory stands rules list (entries ++ Made e ∷ [])) log old.store.log
    before l t whole = leaves_less Main (IsOfHistory stands rules list entries) (IsOfHistory stands rules list (entries ++ Made e ∷ [])) log old.store.log (of_more stands rules list entries (Made e)) (lasted.moments l t whole)

    along : lasts → told → was_broken ≡ false → (b : Bool) → old.store.broken ≡ b → LeavesOnly Main (IsOfHistory stands rules list (entries ++ Made e ∷ [])) log new.store.log
    along l t whole true was = subst (λ (h : HubState _ _). LeavesOnly Main (IsOfHistory stands rules list (entries ++ Made e ∷ [])) log h.store.log) (sym (stays was)) (before l t whole)
    along l t whole false was =
        let m = machine_of rules list entries in
        let made = subst (λ (x : Rules). LeavesOnly Main (IsBeforeOrBehind stands x m e.session e.request) old.store.log new.store.log) same (only l t was m (is t)) in
        joined (Leaves Main (IsOfHistory stands rules list (entries ++ Made e ∷ []))) log old.store.log new.store.log (before l t whole)
        (leaves_less Main (IsBeforeOrBehind stands rules m e.session e.request) (IsOfHistory stands rules list (entries ++ Made e ∷ [])) old.store.log new.store.log (of_step stands rules list entries e) made)

-- what a history has done, and then the opening of a session
pub opening_lasted : {R F : Type 0} (lasts told : Type 0) (stands : List ℕ → List Transaction → Type 0) (rules : Rules) (list : List Transaction) (counts : FaultCounts) (log : List Event) (was_broken : Bool)
    (entries : List Entry) (old new : HubState R F) (e : Entry)
    → HasLasted lasts told stands rules list counts log was_broken entries old → new.store ≡ old.store
    → HasLasted lasts told stands rules list counts log was_broken (entries ++ e ∷ []) new
opening_lasted lasts told stands rules list counts log was_broken entries old new e lasted same = record {
  later = subst (λ s. AreLaterCounts counts (counts_of s)) (sym same) lasted.later;
  same = subst (λ s. was_broken ≡ false → s.broken ≡ false → s.faults ≡ counts.others) (sym same) lasted.same;
  broken = subst (λ s. was_broken ≡ false → s.broken ≡ true → Rose counts.others s.faults) (sym same) lasted.broken;
  moments = λ l t whole. subst (λ s. LeavesOnly Main (IsOfHistory stands rules list (entries ++ e ∷ [])) log s.log) (sym same)
      (leaves_less Main (IsOfHistory stands rules list entries) (IsOfHistory stands rules list (entries ++ e ∷ [])) log old.store.log (of_more stands rules list entries e) (lasted.moments l t whole));
}

-- before its first entry, as it is named
pub new_lasted : {R F : Type 0} (lasts told : Type 0) (stands : List ℕ → List Transaction → Type 0) (rules : Rules) (list : List Transaction) (counts : FaultCounts) (log : List Event) (was_broken : Bool)
    (seen : List Entry) (hub : HubState R F) → seen ≡ [] → counts_of hub.store ≡ counts → hub.store.log ≡ log → hub.store.broken ≡ was_broken
    → (lasts → hub.store.broken ≡ false → Leaves Main (λ bytes. stands bytes hub.store.list) hub.store.log) → (told → StandsForMachine hub (machine_over list))
    → HasLasted lasts told stands rules list counts log was_broken seen hub
new_lasted lasts told stands rules list counts log was_broken seen hub none counts_are log_is broken_is leaves is =
    subst (λ (xs : List Entry). HasLasted lasts told stands rules list counts log was_broken xs hub) (sym none)
    (subst (λ (c : FaultCounts). HasLasted lasts told stands rules list c log was_broken [] hub) counts_are
    (subst (λ (l : List Event). HasLasted lasts told stands rules list (counts_of hub.store) l was_broken [] hub) log_is
    (subst (λ (b : Bool). HasLasted lasts told stands rules list (counts_of hub.store) hub.store.log b [] hub) broken_is (nothing_lasted lasts told stands rules list hub leaves is))))
