-- What a refused step leaves.
use Rattle.std.proofs.Common.{◌≡◌, ℕ, refl, sym, ap, ◌∙◌}
use Rattle.zb_model.specs.declared.found.Found.{Found}
use Rattle.zb_model.specs.declared.found.Found.TheVariants as found
use Rattle.zb_model.specs.declared.refusal.Refusal.{Refusal}
use Rattle.zb_model.specs.declared.refusal.Refusal.TheVariants as refusal
use Rattle.zodb_core.specs.declared.reply.Reply.TheVariants as reply
use Rattle.zodb_core.specs.declared.request.Request.{Request}
use Rattle.zodb_core.specs.DecisionLaws.{IsOrdinary, LosesPack}
use Rattle.zodb_core.specs.Entries.{answered_as}
use Rattle.zodb_core.specs.Laws.{RefusalsLeave, left_by_refusal}
use Rattle.zodb_core.specs.Machine.{Machine, Rules}
use Rattle.zodb_core.specs.Outcomes.{Answered, machine_left, outcome_of, outcome_of_refusal}
use Rattle.zodb_core.specs.StepCases.{StepCases, by_step}
use Rattle.zodb_core.specs.Steps.{Stepped, loaded, replied, step_of, without_pack}

ordinary_leaves : (q : Request) (m : Machine) (r : Refusal) → IsOrdinary r → m ≡ left_by_refusal q r m
ordinary_leaves q m (refusal.Unreadable oid tid) is = absurd cc
ordinary_leaves q m (refusal.Overtaken oid tid) is = absurd cc
ordinary_leaves q m refusal.ReadFault is = absurd cc
ordinary_leaves q m refusal.Memory is = absurd cc
ordinary_leaves q m refusal.StoreFault is = absurd cc
ordinary_leaves q m _ is = refl

loss_leaves : (q : Request) (m : Machine) (r : Refusal) → LosesPack r → without_pack m ≡ left_by_refusal q r m
loss_leaves q m (refusal.Unreadable oid tid) is = refl
loss_leaves q m (refusal.Overtaken oid tid) is = refl
loss_leaves q m _ is = absurd cc

-- where it is refused, this is left
abbrev LeavesIfRefused : Machine → Request → Stepped → Type 0
LeavesIfRefused m q s = (r : Refusal) → s.reply ≡ reply.Refused r → s.machine ≡ left_by_refusal q r m

as_refused : (q : Request) (m left : Machine) (r other : Refusal) → left ≡ left_by_refusal q r m → reply.Refused r ≡ reply.Refused other → left ≡ left_by_refusal q other m
as_refused q m left r other is same =
    let one : r ≡ other = cc in
    is ∙ ap (λ (x : Refusal). left_by_refusal q x m) one

found_leaves : (q : Request) (m : Machine) (oid : ℕ) (f : Found) → LeavesIfRefused m q (replied m (loaded m oid f))
found_leaves q m oid (found.Held serial bytes end) r is = absurd cc
found_leaves q m oid (found.Absent serial) r is = absurd cc
found_leaves q m oid found.Nothing r is = absurd cc

leaving_cases : (m : Machine) (n : ℕ) (q : Request) → StepCases (LeavesIfRefused m q) m n q
leaving_cases m n q = record {
  refused = λ r ordinary other is. as_refused q m m r other (ordinary_leaves q m r ordinary) is;
  full = λ count other is. as_refused q m m (refusal.JournalFull count) other refl is;
  spent = λ other is. as_refused q m m refusal.TidsSpent other refl is;
  told = λ r is. absurd cc;
  found = found_leaves q m;
  numbers = λ count r is. absurd cc;
  nothing = λ r is. absurd cc;
  written = λ texts changes tid each later bounded r is. absurd cc;
  emptied = λ r is. absurd cc;
  committed = λ v t is writes r e. absurd cc;
  dropped = λ r is. absurd cc;
  listed = λ revisions r is. absurd cc;
  logged = λ lines r is. absurd cc;
  begun = λ is t collects none below r e. absurd cc;
  marking = λ is p count there r e. absurd cc;
  marked = λ is p keep there r e. absurd cc;
  copying = λ is p k copied count there copying r e. absurd cc;
  copied = λ is p k copied count there copying r e. absurd cc;
  lost = λ is r loses other e. as_refused q m (without_pack m) r other (loss_leaves q m r loses) e;
  packed = λ is t keep free below r e. absurd cc;
  last = λ r is. absurd cc;
  since = λ tid changes r is. absurd cc;
  closed = λ r is. absurd cc;
}

-- by how it ended
ending_leaves : (rules : Rules) (m : Machine) (n : ℕ) (q : Request) (stamp : ℕ) (r : Refusal) → (outcome_of_refusal r ≡ Answered → (step_of rules m n q stamp).machine ≡ left_by_refusal q r m)
    → machine_left rules m n q stamp (outcome_of_refusal r) ≡ left_by_refusal q r m
ending_leaves rules m n q stamp refusal.ReadFault answers = refl
ending_leaves rules m n q stamp refusal.Memory answers = refl
ending_leaves rules m n q stamp refusal.StoreFault answers = refl
ending_leaves rules m n q stamp _ answers = answers refl

pub refusals_leave : RefusalsLeave
refusals_leave rules m n q stamp made before now r step is =
    let ends = ap outcome_of is in
    step.left ∙ ap (machine_left rules m n q stamp) ends
    ∙ ending_leaves rules m n q stamp r
    (λ answers. by_step (LeavesIfRefused m q) rules m n q stamp (leaving_cases m n q) r
    (sym (ap (λ (s : Stepped). s.reply) (answered_as rules m n q stamp made before now (outcome_of made.reply) (ends ∙ answers) step.cause)) ∙ is))
