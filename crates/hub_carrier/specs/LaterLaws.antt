-- What went wrong is told by the counts and the store at each later moment. For the ghost members of the carrier.
use Rattle.std.proofs.Common.{◌≡◌, ℕ, false, Bool, List, Option, refl, sym, ap, subst, ◌∙◌, arith}
use Rattle.zb_base.specs.Counts.{Rose, rose_before}
use Rattle.zb_volume.specs.declared.areas.Area.TheVariants.{Side}
use Rattle.zb_volume.specs.Moments.{here}
use Rattle.zb_ids.specs.declared.stamp.Stamp.{Stamp}
use Rattle.zb_model.specs.declared.data.Transaction.{Transaction}
use Rattle.zb_model.specs.Rules.{MergeRules}
use Rattle.zb_model.specs.StayLaws.{stays_then}
use Rattle.zodb_core.specs.declared.reply.Reply.{Reply}
use Rattle.zodb_core.specs.declared.request.Request.{Request}
use Rattle.zodb_core.specs.HubState.{HubState, IsCauseOf, counts_of, is_store_failed}
use Rattle.zodb_core.specs.Outcomes.{Answered, AreLaterCounts, FaultCounts, NoMemory, ReadingFailed, StepOutcome, StoreFailed, outcome_of}
use Rattle.hub_carrier.specs.declared.trouble.Trouble.{Trouble}
use Rattle.hub_carrier.specs.declared.trouble.Trouble.TheVariants.{NoFault, ReadFault, StoreFault}
use Rattle.hub_carrier.specs.Ends.{HubEnd, StepsThere, end_at, worse}
use Rattle.hub_carrier.specs.Later.{IsLaterEnd, IsMovedBy, is_store_fault}

-- ---- counts

counts_later : (a b c : FaultCounts) → AreLaterCounts a b → AreLaterCounts b c → AreLaterCounts a c
counts_later a b c first second =
    let x = first.reads in
    let y = second.reads in
    let z = first.others in
    let w = second.others in
    record { reads = omega (arith, x, y); others = omega (arith, z, w) }

-- where one more step ended so, the counts say of both what they said of what was before it
moved : (start a b : FaultCounts) (x : Trouble) (o : StepOutcome) → AreLaterCounts a b → IsCauseOf a b o → (is_store_failed o ≡ false → b.others ≡ a.others) → IsMovedBy start a x → IsMovedBy start b (worse x o)
moved start a b NoFault Answered later cause others was = cause ∙ was
moved start a b NoFault ReadingFailed later cause others was =
    (subst (λ (k : FaultCounts). Rose k.reads b.reads) was cause, others refl ∙ ap (λ (k : FaultCounts). k.others) was)
moved start a b NoFault NoMemory later cause others was = cause ∙ was
moved start a b NoFault StoreFailed later cause others was = subst (λ (k : FaultCounts). Rose k.others b.others) was cause
moved start a b ReadFault Answered later cause others was = subst (λ (k : FaultCounts). IsMovedBy start k ReadFault) (sym cause) was
moved start a b ReadFault ReadingFailed later cause others was = (rose_before start.reads a.reads b.reads was.0 later.reads, others refl ∙ was.1)
moved start a b ReadFault NoMemory later cause others was = subst (λ (k : FaultCounts). IsMovedBy start k ReadFault) (sym cause) was
moved start a b ReadFault StoreFailed later cause others was = subst (λ (n : ℕ). Rose n b.others) was.1 cause
moved start a b StoreFault o later cause others was = rose_before start.others a.others b.others was later.others

fault_is : (x : Trouble) (o : StepOutcome) → is_store_fault x ≡ false → is_store_failed o ≡ is_store_fault (worse x o)
fault_is NoFault Answered none = refl
fault_is NoFault ReadingFailed none = refl
fault_is NoFault NoMemory none = refl
fault_is NoFault StoreFailed none = refl
fault_is ReadFault Answered none = refl
fault_is ReadFault ReadingFailed none = refl
fault_is ReadFault NoMemory none = refl
fault_is ReadFault StoreFailed none = refl
fault_is StoreFault o none = absurd cc

-- ---- moments

module _ {R F : Type 0} (lasts : Type 0) where
  pub at_once : (e : HubEnd R F) → IsLaterEnd lasts e e
  at_once e = record {
    packs = refl;
    resolver = refl;
    refs = refl;
    sessions = refl;
    later = record { reads = omega arith; others = omega arith };
    counts = λ start was. was;
    broken = λ is. is;
    side = λ last none. here refl;
  }

  pub later_on : (a b c : HubEnd R F) → IsLaterEnd lasts a b → IsLaterEnd lasts b c → IsLaterEnd lasts a c
  later_on a b c first second = record {
    packs = second.packs ∙ first.packs;
    resolver = second.resolver ∙ first.resolver;
    refs = second.refs ∙ first.refs;
    sessions = second.sessions ∙ first.sessions;
    later = counts_later (counts_of a.hub.store) (counts_of b.hub.store) (counts_of c.hub.store) first.later second.later;
    counts = λ start was. second.counts start (first.counts start was);
    broken = λ is. second.broken (first.broken is);
    side = λ last none. stays_then Side a.hub.store.log b.hub.store.log c.hub.store.log (first.side last none) (second.side last (first.packs ∙ none));
  }

  module _ (told : Type 0) (stands : List ℕ → List Transaction → Type 0) (rules : R → MergeRules) (named : F → List ℕ → Option (List ℕ)) (n : ℕ) (q : Request) (r : Reply) (a b : HubEnd R F) (there : StepsThere told lasts stands rules named n q r a b) where
    still_broken : (x : Trouble) → x ≡ a.trouble → a.hub.store.broken ≡ is_store_fault x → b.hub.store.broken ≡ is_store_fault (worse x (outcome_of r))
    still_broken NoFault same is = there.step.safe.broken is ∙ fault_is NoFault (outcome_of r) refl
    still_broken ReadFault same is = there.step.safe.broken is ∙ fault_is ReadFault (outcome_of r) refl
    still_broken StoreFault same is = ap (λ (k : HubState R F). k.store.broken) (there.step.failed is).1 ∙ is

    pub step_later : IsLaterEnd lasts a b
    step_later = record {
      packs = there.packs;
      resolver = there.step.safe.resolver;
      refs = there.step.safe.refs;
      sessions = there.step.safe.sessions;
      later = there.step.safe.later;
      counts = λ start was.
          subst (λ (x : Trouble). IsMovedBy start (counts_of b.hub.store) x) (sym there.trouble)
          (moved start (counts_of a.hub.store) (counts_of b.hub.store) a.trouble (outcome_of r) there.step.safe.later there.step.safe.cause there.step.safe.others was);
      broken = λ is. still_broken a.trouble refl is ∙ ap is_store_fault (sym there.trouble);
      side = λ last none. there.step.side last (there.allowed none);
    }

-- ---- for callers, who know the parts

pub end_is : {R F : Type 0} (h k : HubState R F) (s t : Option (List Stamp)) (p q : Bool) (x y : Trouble) → h ≡ k → s ≡ t → p ≡ q → x ≡ y → end_at h s p x ≡ end_at k t q y
end_is {R} {F} h k s t p q x y hub stamps packs trouble =
    ap (λ (i : HubState R F). end_at i s p x) hub ∙ (ap (λ (i : Option (List Stamp)). end_at k i p x) stamps ∙ (ap (λ (i : Bool). end_at k t i x) packs ∙ ap (λ (i : Trouble). end_at k t q i) trouble))

pub later_is : {R F : Type 0} (lasts : Type 0) (a b c d : HubEnd R F) → a ≡ c → b ≡ d → IsLaterEnd lasts a b → IsLaterEnd lasts c d
later_is {R} {F} lasts a b c d one two later = subst (λ (x : HubEnd R F). IsLaterEnd lasts c x) two (subst (λ (x : HubEnd R F). IsLaterEnd lasts x b) one later)
