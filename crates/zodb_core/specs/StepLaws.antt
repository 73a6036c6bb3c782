-- What holds of every step. For the proofs of those who follow the machine.
use Rattle.std.proofs.Common.{◌≡◌, ℕ, true, false, refl, sym, ◌∙◌}
use Rattle.std.proofs.lemmas.Bool.{true≢false}
use Rattle.zb_model.specs.declared.found.Found.{Found}
use Rattle.zb_model.specs.declared.found.Found.TheVariants as found
use Rattle.zodb_core.specs.declared.request.Request.{Request}
use Rattle.zodb_core.specs.Machine.{Machine, Rules}
use Rattle.zodb_core.specs.Outcomes.{Answered, is_pack, is_packed, outcome_of}
use Rattle.zodb_core.specs.StepCases.{StepCases, by_step}
use Rattle.zodb_core.specs.Steps.{Stepped, loaded, replied, step_of}

-- it is answered, fails no machine, and packs only where a request on a pack asks for it
abbrev IsPlain : Machine → Request → Stepped → Type 0
IsPlain m q s = (outcome_of s.reply ≡ Answered) × (s.machine.failed ≡ m.failed) × (is_pack q ≡ false → is_packed s.reply ≡ false)

plain_found : (m : Machine) (q : Request) (oid : ℕ) (f : Found) → IsPlain m q (replied m (loaded m oid f))
plain_found m q oid (found.Held serial bytes end) = (refl, refl, λ not. refl)
plain_found m q oid (found.Absent serial) = (refl, refl, λ not. refl)
plain_found m q oid found.Nothing = (refl, refl, λ not. refl)

plain_cases : (m : Machine) (n : ℕ) (q : Request) → StepCases (IsPlain m q) m n q
plain_cases m n q = record {
  refused = λ r is. (is.0, refl, λ not. refl);
  full = λ count. (refl, refl, λ not. refl);
  spent = (refl, refl, λ not. refl);
  told = (refl, refl, λ not. refl);
  found = plain_found m q;
  numbers = λ count. (refl, refl, λ not. refl);
  nothing = (refl, refl, λ not. refl);
  written = λ texts changes tid each later bounded. (refl, refl, λ not. refl);
  emptied = (refl, refl, λ not. refl);
  committed = λ v t is writes. (refl, refl, λ not. refl);
  dropped = (refl, refl, λ not. refl);
  listed = λ revisions. (refl, refl, λ not. refl);
  logged = λ lines. (refl, refl, λ not. refl);
  begun = λ is t collects none below. (refl, refl, λ not. refl);
  marking = λ is p count there. (refl, refl, λ not. refl);
  marked = λ is p keep there. (refl, refl, λ not. refl);
  copying = λ is p k copied count there copying. (refl, refl, λ not. refl);
  copied = λ is p k copied count there copying. (refl, refl, λ not. refl);
  lost = λ is r answers. (answers.0, refl, λ not. refl);
  packed = λ is t keep free below. (refl, refl, λ not. absurd (true≢false (sym is ∙ not)));
  last = (refl, refl, λ not. refl);
  since = λ tid changes. (refl, refl, λ not. refl);
  closed = (refl, refl, λ not. refl);
}

step_plain : (rules : Rules) (m : Machine) (n : ℕ) (q : Request) (stamp : ℕ) → IsPlain m q (step_of rules m n q stamp)
step_plain rules m n q stamp = by_step (IsPlain m q) rules m n q stamp (plain_cases m n q)

pub step_answered : (rules : Rules) (m : Machine) (n : ℕ) (q : Request) (stamp : ℕ) → outcome_of (step_of rules m n q stamp).reply ≡ Answered
step_answered rules m n q stamp = (step_plain rules m n q stamp).0

pub step_keeps_failed : (rules : Rules) (m : Machine) (n : ℕ) (q : Request) (stamp : ℕ) → (step_of rules m n q stamp).machine.failed ≡ m.failed
step_keeps_failed rules m n q stamp = (step_plain rules m n q stamp).1

pub step_unpacked : (rules : Rules) (m : Machine) (n : ℕ) (q : Request) (stamp : ℕ) → is_pack q ≡ false → is_packed (step_of rules m n q stamp).reply ≡ false
step_unpacked rules m n q stamp = (step_plain rules m n q stamp).2
