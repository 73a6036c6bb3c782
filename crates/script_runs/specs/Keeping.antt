-- What a step leaves of the list, by its reply, and, unless the store fails, that it hasn't failed.
use Rattle.std.proofs.Common.{◌≡◌, ℕ, ◌<◌, Bool, true, false, List, Option, Some, refl, sym, ap, subst, ◌∙◌, ⊎_elim, true≢false}
use Rattle.std.specs.Prelude.{IfSome}
use Rattle.std.proofs.lemmas.Bool.{cases_Bool}
use Rattle.zb_model.specs.declared.data.Transaction.{Transaction}
use Rattle.zb_model.specs.declared.found.Found.{Found}
use Rattle.zb_model.specs.declared.found.Found.TheVariants as found
use Rattle.zb_model.specs.declared.refusal.Refusal.{Refusal}
use Rattle.zb_model.specs.declared.refusal.Refusal.TheVariants as refusal
use Rattle.zb_model.specs.Database.{newest_tid}
use Rattle.zodb_core.specs.declared.reply.Reply.{Reply}
use Rattle.zodb_core.specs.declared.reply.Reply.TheVariants as reply
use Rattle.zodb_core.specs.declared.request.Request.{Request}
use Rattle.zodb_core.specs.declared.request.Request.TheVariants as request
use Rattle.zodb_core.specs.Machine.{Machine, MachineVote, Rules}
use Rattle.zodb_core.specs.Outcomes.{Answered, EndsFor, FaultCounts, IsStepMade, NoMemory, ReadingFailed, StepOutcome, StoreFailed, is_pack, machine_left, outcome_of, outcome_of_refusal, unanswered}
use Rattle.zodb_core.specs.Sound.{IsPackedAsMarked}
use Rattle.zodb_core.specs.StepCases.{PackCases, StepCases, by_pack_step, by_step, by_unanswered}
use Rattle.zodb_core.specs.Steps.{Stepped, loaded, step_of}
use Rattle.zeo_serving.specs.MayLaws.{step_failed}
use Rattle.client_turns.specs.declared.errors.TurnError.TheVariants as turn_error
use Rattle.client_turns.specs.Lines.{answer_of, end_in, end_of}
use Rattle.client_turns.specs.Standing.{IsAhead}
use Rattle.script_runs.specs.Committed.{AnswerLeaves, IsCommittedTo}

-- ---- a step of the machine

-- a reply makes one list of another, as its answer does
abbrev pub ReplyLeaves : Rules → Reply → List Transaction → List Transaction → Type 0
ReplyLeaves rules (reply.Committed tid) list now = IsCommittedTo tid list now
ReplyLeaves rules (reply.Packed kept dropped) list now = IsPackedAsMarked rules.named list now
ReplyLeaves rules _ list now = now ≡ list

-- what a commit writes is later than the list
writes_later : (m : Machine) (v : MachineVote) (t : Transaction) → IsAhead m → m.vote ≡ Some v → v.writes ≡ Some t → newest_tid m.list < t.tid
writes_later m v t ahead is writes =
    let held : IsAhead (record m { vote = Some v }) = subst (λ (vote : Option MachineVote). IsAhead (record m { vote = vote })) is ahead in
    subst (λ (o : Option Transaction). IfSome o (λ w. newest_tid m.list < w.tid)) writes held.writes

found_left : (rules : Rules) (m : Machine) (oid : ℕ) (f : Found) → ReplyLeaves rules (loaded m oid f) m.list m.list
found_left rules m oid (found.Held serial bytes end) = refl
found_left rules m oid (found.Absent serial) = refl
found_left rules m oid found.Nothing = refl

abbrev StepLeaves : Rules → Machine → Stepped → Type 0
StepLeaves rules m s = ReplyLeaves rules s.reply m.list s.machine.list

plain_cases : (rules : Rules) (m : Machine) (n : ℕ) (q : Request) → IsAhead m → is_pack q ≡ false → StepCases (StepLeaves rules m) m n q
plain_cases rules m n q ahead none = record {
  refused = λ r is. refl;
  full = λ count. refl;
  spent = refl;
  told = refl;
  found = found_left rules m;
  numbers = λ count. refl;
  nothing = refl;
  written = λ texts changes tid once later bound. refl;
  emptied = refl;
  committed = λ v t is writes. record { transaction = t; tid_is = refl; later = writes_later m v t ahead is writes; behind = refl };
  dropped = refl;
  listed = λ revisions. refl;
  logged = λ lines. refl;
  begun = λ is t collects free below. refl;
  marking = λ is p count there. refl;
  marked = λ is p keep there. refl;
  copying = λ is p k copied count there copying. refl;
  copied = λ is p k copied count there copying. refl;
  lost = λ is r answers. refl;
  packed = λ is t keep free below. absurd (true≢false (sym is ∙ none));
  last = refl;
  since = λ tid changes. refl;
  closed = refl;
}

pack_cases : (rules : Rules) (m : Machine) (n : ℕ) (q : Request) → IsAhead m → PackCases (StepLeaves rules m) rules.named m n q
pack_cases rules m n q ahead = record {
  refused = λ r is. refl;
  begun = λ t collects free below. refl;
  marking = λ p count there. refl;
  marked = λ p there none. refl;
  copying = λ p k copied count there copying. refl;
  copied = λ p k copied count there copying. refl;
  lost = λ r answers. refl;
  packed = λ g goal free below. record { tid = g.tid; collects = g.collects; below = below ahead.within; is = refl };
}

step_leaves : (rules : Rules) (m : Machine) (n : ℕ) (q : Request) (stamp : ℕ) → IsAhead m → StepLeaves rules m (step_of rules m n q stamp)
step_leaves rules m n q stamp ahead =
    ⊎_elim (λ (pack : is_pack q ≡ true). by_pack_step (StepLeaves rules m) rules m n q stamp pack (pack_cases rules m n q ahead))
    (λ (none : is_pack q ≡ false). by_step (StepLeaves rules m) rules m n q stamp (plain_cases rules m n q ahead none))
    (cases_Bool (is_pack q))

abbrev KeepsStore : Machine → Stepped → Type 0
KeepsStore m s = s.machine.failed ≡ m.failed

-- ---- a step that was made

pub record MadeKeeps (rules : Rules) (m : Machine) (r : Reply) (left : Machine) : Type 0 where
  pub leaves : IsAhead m → ReplyLeaves rules r m.list left.list
  pub failed : ¬ (outcome_of r ≡ StoreFailed) → left.failed ≡ m.failed
  pub memory : outcome_of r ≡ NoMemory → left.list ≡ m.list

-- a reply that something went wrong leaves the list
unanswered_left : (rules : Rules) (r : Reply) (list now : List Transaction) → ¬ (outcome_of r ≡ Answered) → now ≡ list → ReplyLeaves rules r list now
unanswered_left rules (reply.Committed tid) list now other same = absurd (other refl)
unanswered_left rules (reply.Packed kept dropped) list now other same = absurd (other refl)
unanswered_left rules _ list now other same = same

-- and the machine but for its pack
same_list : (q : Request) (m left : Machine) (is : left ≡ unanswered q m) → left.list ≡ m.list
same_list q m left is = ap (λ (x : Machine). x.list) is ∙ by_unanswered (λ x. x.list ≡ m.list) q m refl refl

same_store : (q : Request) (m left : Machine) (is : left ≡ unanswered q m) → left.failed ≡ m.failed
same_store q m left is = ap (λ (x : Machine). x.failed) is ∙ by_unanswered (λ x. x.failed ≡ m.failed) q m refl refl

ends_keeps : (rules : Rules) (m : Machine) (n : ℕ) (q : Request) (stamp : ℕ) (r : Reply) (left : Machine) (ticks : Bool) (before now : FaultCounts) (o : StepOutcome) → outcome_of r ≡ o
    → EndsFor rules m n q stamp (record { reply = r; machine = left; ticks = ticks }) before now o → left ≡ machine_left rules m n q stamp o → MadeKeeps rules m r left
ends_keeps rules m n q stamp r left ticks before now Answered is cause same = record {
  leaves = λ ahead. subst (StepLeaves rules m) (sym cause) (step_leaves rules m n q stamp ahead);
  failed = λ other. subst (KeepsStore m) (sym cause) (step_failed rules m n q stamp);
  memory = λ none. absurd cc;
}
ends_keeps rules m n q stamp r left ticks before now ReadingFailed is cause same =
    record { leaves = λ ahead. unanswered_left rules r m.list left.list (λ answered. absurd cc) (same_list q m left same); failed = λ other. same_store q m left same; memory = λ none. same_list q m left same }
ends_keeps rules m n q stamp r left ticks before now NoMemory is cause same =
    record { leaves = λ ahead. unanswered_left rules r m.list left.list (λ answered. absurd cc) (same_list q m left same); failed = λ other. same_store q m left same; memory = λ none. same_list q m left same }
ends_keeps rules m n q stamp r left ticks before now StoreFailed is cause same = record {
  leaves = λ ahead. unanswered_left rules r m.list left.list (λ answered. absurd cc) (ap (λ (x : Machine). x.list) same);
  failed = λ other. absurd (other is);
  memory = λ none. absurd cc;
}

pub made_keeps : (rules : Rules) (m : Machine) (n : ℕ) (q : Request) (stamp : ℕ) (r : Reply) (left : Machine) (ticks : Bool) (before now : FaultCounts)
    → IsStepMade rules m n q stamp (record { reply = r; machine = left; ticks = ticks }) before now → MadeKeeps rules m r left
made_keeps rules m n q stamp r left ticks before now made = ends_keeps rules m n q stamp r left ticks before now (outcome_of r) refl made.cause made.left

-- ---- replies

ends_in : (why : Refusal) → outcome_of_refusal why ≡ StoreFailed → end_in why ≡ Some turn_error.StoreFault
ends_in refusal.StoreFault is = refl
ends_in refusal.Memory is = absurd cc
ends_in refusal.ReadFault is = absurd cc
ends_in _ is = absurd cc

pub fails_so : (r : Reply) → outcome_of r ≡ StoreFailed → end_of (answer_of r) ≡ Some turn_error.StoreFault
fails_so (reply.Refused why) is = ends_in why is
fails_so (reply.Nothing oid switches) is = absurd cc
fails_so _ is = absurd cc

-- an answer that is a reply says of the list what that says
pub leaves_so : (rules : Rules) (r : Reply) (list now : List Transaction) → ReplyLeaves rules r list now → AnswerLeaves rules (answer_of r) list now
leaves_so rules (reply.Committed tid) list now leaves = leaves
leaves_so rules (reply.Packed kept dropped) list now leaves = leaves
leaves_so rules _ list now leaves = leaves

-- a Front step never meets a store fault, and a Close never want of memory
pub front_whole : (rules : Rules) (m : Machine) (n stamp : ℕ) (r : Reply) (left : Machine) (ticks : Bool) (before now : FaultCounts)
    → IsStepMade rules m n request.Front stamp (record { reply = r; machine = left; ticks = ticks }) before now → ¬ (outcome_of r ≡ StoreFailed)
front_whole rules m n stamp r left ticks before now made is =
    let cause = subst (EndsFor rules m n request.Front stamp (record { reply = r; machine = left; ticks = ticks }) before now) is made.cause in
    let one : false ≡ true = cause.0.one in
    absurd cc

pub close_fed : (rules : Rules) (m : Machine) (n stamp : ℕ) (r : Reply) (left : Machine) (ticks : Bool) (before now : FaultCounts)
    → IsStepMade rules m n request.Close stamp (record { reply = r; machine = left; ticks = ticks }) before now → ¬ (outcome_of r ≡ NoMemory)
close_fed rules m n stamp r left ticks before now made is =
    let cause = subst (EndsFor rules m n request.Close stamp (record { reply = r; machine = left; ticks = ticks }) before now) is made.cause in
    let one : false ≡ true = cause.one in
    absurd cc
