-- What calls on trees leave of a moment. For the proofs of those who follow turns.
use Rattle.std.proofs.Common.{◌≡◌, ℕ, ◌+◌, Bool, true, false, List, [], ◌∷◌, Option, Some, None, Result, Ok, Err, refl, sym, ap, subst, ◌∙◌, arith, inl, inr}
use Rattle.std.specs.Prelude.{if◌then◌else◌}
use Rattle.zb_model.specs.declared.pending.PendingStore.{PendingStore}
use Rattle.zb_model.specs.declared.refusal.Refusal.{Refusal}
use Rattle.zb_model.specs.declared.refusal.Refusal.TheVariants as refusal
use Rattle.zb_answers.specs.declared.answer.Answer.{Answer}
use Rattle.zb_answers.specs.declared.answer.Answer.TheVariants as answer
use Rattle.zb_script.specs.declared.tree_call.TreeCall.{TreeCall}
use Rattle.commit_phases.specs.Pending.{stores_after}
use Rattle.tree_attempts.specs.declared.attempt.Made.{Made}
use Rattle.tree_attempts.specs.declared.operation.TreeAnswer.{TreeAnswer}
use Rattle.tree_attempts.specs.declared.operation.TreeAnswer.TheVariants as answered
use Rattle.tree_attempts.specs.declared.operation.TreeOperation.{TreeOperation}
use Rattle.tree_attempts.specs.Calls.{IsRefused}
use Rattle.tree_attempts.specs.CallLaws.{refused_as}
use Rattle.zodb_core.specs.declared.reply.Reply.{Reply}
use Rattle.zodb_core.specs.declared.reply.Reply.TheVariants as reply
use Rattle.zodb_core.specs.declared.request.Request.TheVariants as request
use Rattle.zodb_core.specs.Machine.{Machine, Rules}
use Rattle.zodb_core.specs.Outcomes.{Answered, EndsFor, FaultCounts, NoMemory, ReadingFailed, StepOutcome, StoreFailed, machine_left, outcome_of, outcome_of_refusal}
use Rattle.zodb_core.specs.Steps.{Stepped, early_refusal, oids_step, step_of, unless_early}
use Rattle.client_turns.specs.Clients.{Changes, Client, Moment, OpenTransaction}
use Rattle.client_turns.specs.Lines.{Changed, IsCountedBy, outcome_of_answer, outcome_of_result}
use Rattle.client_turns.specs.Steps.{IsStepAt}
use Rattle.client_turns.specs.Trees.{CallEnds, Draws, IsRaised, IsTreeEnd, IsTreeLine, IsUncalled, all_stored, answer_told, by_draw, by_want, by_read, by_tree, operation_of, puts_stored, stores_put}

-- ---- machines

pub raised_same : (m now : Machine) → now ≡ m → IsRaised m now
raised_same m now is = record { greatest = m.greatest; is = is; up = omega arith }

pub raised_twice : (m b now : Machine) → IsRaised m b → IsRaised b now → IsRaised m now
raised_twice m b now one two = record {
  greatest = two.greatest;
  is = two.is ∙ ap (λ (x : Machine). record x { greatest = two.greatest }) one.is;
  up = omega (arith, one.up, two.up, ap (λ (x : Machine). x.greatest) one.is);
}

false_true : false ≡ true → ⊥
false_true e = absurd cc

early_raised : (o : Option Refusal) (m : Machine) → IsRaised m (unless_early o m (oids_step m 1)).machine
early_raised None m = record { greatest = m.greatest + 1; is = refl; up = omega arith }
early_raised (Some r) m = record { greatest = m.greatest; is = refl; up = omega arith }

left_raised : (rules : Rules) (m : Machine) (n stamp : ℕ) (made : Stepped) (before now : FaultCounts) (o : StepOutcome) → EndsFor rules m n (request.NewOids 1) stamp made before now o
    → IsRaised m (machine_left rules m n (request.NewOids 1) stamp o)
left_raised rules m n stamp made before now Answered ends = early_raised (early_refusal m n (request.NewOids 1)) m
left_raised rules m n stamp made before now ReadingFailed ends = raised_same m m refl
left_raised rules m n stamp made before now NoMemory ends = raised_same m m refl
left_raised rules m n stamp made before now StoreFailed ends = absurd (false_true ends.0.one)

-- a step that draws, whatever it is answered
pub new_raised : (rules : Rules) (m : Moment) (n : ℕ) (r : Reply) (now : Moment) → IsStepAt rules m n (request.NewOids 1) r now → IsRaised m.machine now.machine
new_raised rules m n r now step =
    subst (IsRaised m.machine) (sym step.made.left)
    (left_raised rules m.machine n step.stamp (record { reply = r; machine = now.machine; ticks = step.ticks }) m.counts now.counts (outcome_of r) step.made.cause)

-- nothing can fail in it
draw_answers : (rules : Rules) (m : Machine) (n stamp : ℕ) (made : Stepped) (before now : FaultCounts) (o : StepOutcome) → EndsFor rules m n (request.NewOids 1) stamp made before now o → o ≡ Answered
draw_answers rules m n stamp made before now Answered ends = refl
draw_answers rules m n stamp made before now ReadingFailed ends = absurd (false_true ends.0.one)
draw_answers rules m n stamp made before now NoMemory ends = absurd (false_true ends.one)
draw_answers rules m n stamp made before now StoreFailed ends = absurd (false_true ends.0.one)

pub new_answered : (rules : Rules) (m : Moment) (n : ℕ) (r : Reply) (now : Moment) → IsStepAt rules m n (request.NewOids 1) r now → outcome_of r ≡ Answered
new_answered rules m n r now step = draw_answers rules m.machine n step.stamp (record { reply = r; machine = now.machine; ticks = step.ticks }) m.counts now.counts (outcome_of r) step.made.cause

pub new_calm : (rules : Rules) (m : Moment) (n : ℕ) (r : Reply) (now : Moment) → IsStepAt rules m n (request.NewOids 1) r now → now.counts ≡ m.counts
new_calm rules m n r now step = subst (IsCountedBy m.counts now.counts) (new_answered rules m n r now step) step.counts

-- and its reply is the machine's
pub new_reply : (rules : Rules) (m : Moment) (n : ℕ) (r : Reply) (now : Moment) → (step : IsStepAt rules m n (request.NewOids 1) r now) → (step_of rules m.machine n (request.NewOids 1) step.stamp).reply ≡ r
new_reply rules m n r now step = sym (ap (λ (s : Stepped). s.reply) made)
  where
    made : (record { reply = r; machine = now.machine; ticks = step.ticks }) ≡ step_of rules m.machine n (request.NewOids 1) step.stamp
    made = subst (EndsFor rules m.machine n (request.NewOids 1) step.stamp (record { reply = r; machine = now.machine; ticks = step.ticks }) m.counts now.counts) (new_answered rules m n r now step) step.made.cause

-- ---- draws

-- a moment that draws led to
pub record IsDrawnTo (m now : Moment) : Type 0 where
  pub machine : IsRaised m.machine now.machine
  pub counts : now.counts ≡ m.counts
  pub clients : now.clients ≡ m.clients

pub drawn_same : (m now : Moment) → now ≡ m → IsDrawnTo m now
drawn_same m now is = record { machine = raised_same m.machine now.machine (ap (λ (x : Moment). x.machine) is); counts = ap (λ (x : Moment). x.counts) is; clients = ap (λ (x : Moment). x.clients) is }

pub drawn_twice : (m b now : Moment) → IsDrawnTo m b → IsDrawnTo b now → IsDrawnTo m now
drawn_twice m b now one two = record {
  machine = raised_twice m.machine b.machine now.machine one.machine two.machine;
  counts = two.counts ∙ one.counts;
  clients = two.clients ∙ one.clients;
}

pub new_drawn : (rules : Rules) (m : Moment) (n : ℕ) (r : Reply) (now : Moment) → IsStepAt rules m n (request.NewOids 1) r now → IsDrawnTo m now
new_drawn rules m n r now step = record { machine = new_raised rules m n r now step; counts = new_calm rules m n r now step; clients = step.clients }

pub draws_drawn : (m : Moment) (n : ℕ) (oids : List ℕ) (now : Moment) → Draws m n oids now → IsDrawnTo m now
draws_drawn m n [] now draws = drawn_same m now draws
draws_drawn m n (oid ∷ oids) now (next, (rules, step), rest) = drawn_twice m next now (new_drawn rules m n (reply.Oids oid 1) next step) (draws_drawn next n oids now rest)

-- ---- calls

-- what a call leaves of a moment, and what it does to the counts
pub record LeavesCall (m : Moment) (o : StepOutcome) (now : Moment) : Type 0 where
  pub machine : IsRaised m.machine now.machine
  pub counts : IsCountedBy m.counts now.counts o
  pub clients : now.clients ≡ m.clients

drawn_leaves : (m now : Moment) (o : StepOutcome) → o ≡ Answered → IsDrawnTo m now → LeavesCall m o now
drawn_leaves m now o is drawn = record { machine = drawn.machine; counts = subst (IsCountedBy m.counts now.counts) (sym is) drawn.counts; clients = drawn.clients }

pub refused_answers : (objects : _) (root : ℕ) (op : TreeOperation) (why : Refusal) → IsRefused objects root op why → outcome_of_refusal why ≡ Answered
refused_answers objects root op why is = refused_as (λ w. outcome_of_refusal w ≡ Answered) objects root op why (λ oid. refl) (λ oid. refl) refl is

read_leaves : (m b now : Moment) (o : StepOutcome) → IsDrawnTo m b → now ≡ record b { counts = now.counts } → IsCountedBy b.counts now.counts o → LeavesCall m o now
read_leaves m b now o drawn rest counts = record {
  machine = raised_twice m.machine b.machine now.machine drawn.machine (raised_same b.machine now.machine (ap (λ (x : Moment). x.machine) rest));
  counts = subst (λ (k : FaultCounts). IsCountedBy k now.counts o) drawn.counts counts;
  clients = ap (λ (x : Moment). x.clients) rest ∙ drawn.clients;
}

uncalled_leaves : (m : Moment) (n : ℕ) (t : OpenTransaction) (root : ℕ) (op : TreeOperation) (why : Refusal) (now : Moment) → IsUncalled m n t root op why now → LeavesCall m (outcome_of_refusal why) now
uncalled_leaves m n t root op why now (by_tree objects sees refused whole same) = drawn_leaves m now (outcome_of_refusal why) (refused_answers objects root op why refused) (drawn_same m now same)
uncalled_leaves m n t root op why now (by_read oid asked read found) = read_leaves m m now (outcome_of_refusal why) (drawn_same m m refl) read.rest read.counts
uncalled_leaves m n t root op why now (by_draw numbers behind lacks draws (rules, step)) =
    drawn_leaves m now (outcome_of_refusal why) (new_answered rules behind n (reply.Refused why) now step) (drawn_twice m behind now (draws_drawn m n numbers behind draws) (new_drawn rules behind n (reply.Refused why) now step))
uncalled_leaves m n t root op why now (by_want numbers may draws is) =
    let drawn : IsDrawnTo m now = draws_drawn m n numbers now draws in
    record { machine = drawn.machine; counts = subst (λ (w : Refusal). IsCountedBy m.counts now.counts (outcome_of_refusal w)) (sym is) drawn.counts; clients = drawn.clients }

pub call_leaves : (m : Moment) (n : ℕ) (t : OpenTransaction) (root : ℕ) (op : TreeOperation) (result : Result Made Refusal) (now : Moment) → CallEnds m n t root op result now → LeavesCall m (outcome_of_result result) now
call_leaves m n t root op (Ok made) now ends = drawn_leaves m now Answered refl (draws_drawn m n ends.numbers now ends.draws)
call_leaves m n t root op (Err why) now ends = uncalled_leaves m n t root op why now ends

-- ---- answers

pub told_quiet : (x : TreeAnswer) → outcome_of_answer (answer_told x) ≡ Answered
told_quiet (answered.Value None) = refl
told_quiet (answered.Value (Some value)) = refl
told_quiet answered.Set = refl
told_quiet (answered.Removed true) = refl
told_quiet (answered.Removed false) = refl
told_quiet (answered.Items list is_set) = refl

-- what holds of each answer of a call, of Voted and of TooLong, holds of the answer to what is put
pub stored_answer : (P : Answer → Type 0) (t : Changes) (a : Answer) (puts : List PendingStore) → P a → P (answer.Refused refusal.Voted) → ((n : ℕ) → P (answer.Refused (refusal.TooLong n))) → P (all_stored t a puts).answer
stored_answer P t a [] given voted long = given
stored_answer P t a (p ∷ puts) given voted long = by_vote t.is_voted (stores_after t.pending.stores (p ∷ puts))
  where
    by_length : (r : Result (List PendingStore) ℕ) → P (puts_stored t a r).answer
    by_length (Ok stores) = given
    by_length (Err n) = long n

    by_vote : (b : Bool) (r : Result (List PendingStore) ℕ) → P (if b then (let w : Changed = record { answer = answer.Refused refusal.Voted; changes = t } in w) else puts_stored t a r).answer
    by_vote true r = voted
    by_vote false r = by_length r

pub stored_quiet : (t : Changes) (x : TreeAnswer) (puts : List PendingStore) → outcome_of_answer (all_stored t (answer_told x) puts).answer ≡ Answered
stored_quiet t x puts = stored_answer (λ a. outcome_of_answer a ≡ Answered) t (answer_told x) puts (told_quiet x) refl (λ n. refl)

-- ---- lines

end_counts : (m b now : Moment) (at : ℕ) (c : Client) (t : OpenTransaction) (result : Result Made Refusal) (a : Answer) → LeavesCall m (outcome_of_result result) b → IsTreeEnd b at c t result a now → IsCountedBy m.counts now.counts (outcome_of_answer a)
end_counts m b now at c t (Ok made) a leaves (inl change) =
    subst (λ (k : FaultCounts). IsCountedBy m.counts k (outcome_of_answer a)) (sym (ap (λ (x : Moment). x.counts) change.1))
    (subst (IsCountedBy m.counts b.counts) (sym (ap outcome_of_answer change.0 ∙ stored_quiet t.changes made.answer (stores_put made.puts))) leaves.counts)
end_counts m b now at c t (Ok made) a leaves (inr starved) =
    subst (λ (k : FaultCounts). IsCountedBy m.counts k (outcome_of_answer a)) (sym (ap (λ (x : Moment). x.counts) starved.1))
    (subst (λ (x : Answer). IsCountedBy m.counts b.counts (outcome_of_answer x)) (sym starved.0) leaves.counts)
end_counts m b now at c t (Err why) a leaves refused =
    subst (λ (k : FaultCounts). IsCountedBy m.counts k (outcome_of_answer a)) (sym (ap (λ (x : Moment). x.counts) refused.1))
    (subst (λ (x : Answer). IsCountedBy m.counts b.counts (outcome_of_answer x)) (sym refused.0) leaves.counts)

-- the machine behind a line of a tree is that behind its call
pub end_machine : (b now : Moment) (at : ℕ) (c : Client) (t : OpenTransaction) (result : Result Made Refusal) (a : Answer) → IsTreeEnd b at c t result a now → now.machine ≡ b.machine
end_machine b now at c t (Ok made) a (inl change) = ap (λ (x : Moment). x.machine) change.1
end_machine b now at c t (Ok made) a (inr starved) = ap (λ (x : Moment). x.machine) starved.1
end_machine b now at c t (Err why) a refused = ap (λ (x : Moment). x.machine) refused.1

-- a line of a tree leaves the machine with no lower greatest number, and else as it was
pub tree_raised : (m : Moment) (at : ℕ) (c : Client) (t : OpenTransaction) (root : ℕ) (call : TreeCall) (a : Answer) (now : Moment) → IsTreeLine m at c t root call a now → IsRaised m.machine now.machine
tree_raised m at c t root call a now is =
    let leaves : LeavesCall m (outcome_of_result is.result) is.behind = call_leaves m c.session t root (operation_of call) is.result is.behind is.ends in
    subst (IsRaised m.machine) (sym (end_machine is.behind now at c t is.result a is.end)) leaves.machine

-- and the counts as its answer says
pub tree_counts : (m : Moment) (at : ℕ) (c : Client) (t : OpenTransaction) (root : ℕ) (call : TreeCall) (a : Answer) (now : Moment) → IsTreeLine m at c t root call a now → IsCountedBy m.counts now.counts (outcome_of_answer a)
tree_counts m at c t root call a now is = end_counts m is.behind now at c t is.result a (call_leaves m c.session t root (operation_of call) is.result is.behind is.ends) is.end

-- what holds of each answer of a tree's line
pub tree_answer : (P : Answer → Type 0) (m : Moment) (at : ℕ) (c : Client) (t : OpenTransaction) (root : ℕ) (call : TreeCall) (a : Answer) (now : Moment) → ((x : TreeAnswer) → P (answer_told x)) → ((why : Refusal) → P (answer.Refused why))
    → IsTreeLine m at c t root call a now → P a
tree_answer P m at c t root call a now told refused is = by_end is.result is.end
  where
    by_end : (result : Result Made Refusal) → IsTreeEnd is.behind at c t result a now → P a
    by_end (Ok made) (inl change) = subst P (sym change.0) (stored_answer P t.changes (answer_told made.answer) (stores_put made.puts) (told made.answer) (refused refusal.Voted) (λ n. refused (refusal.TooLong n)))
    by_end (Ok made) (inr starved) = subst P (sym starved.0) (refused refusal.Memory)
    by_end (Err why) end = subst P (sym end.0) (refused why)
