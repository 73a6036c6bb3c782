-- Numbers that rise, and those that calls on trees draw.
use Rattle.std.proofs.Common.{◌≡◌, ℕ, ◌+◌, ◌<◌, ◌≤◌, List, [], ◌∷◌, ◌++◌, Option, Some, None, Result, Ok, Err, refl, ap, arith}
use Rattle.std.specs.List.{AllByRecursion, AllPairs}
use Rattle.std.proofs.lemmas.List.Elements.{All-from_recursion}
use Rattle.std.proofs.lemmas.List.Kept.{AllPairs-cons}
use Rattle.zb_model.specs.declared.refusal.Refusal.{Refusal}
use Rattle.zb_answers.specs.declared.answer.Answer.{Answer}
use Rattle.zb_script.specs.declared.line.Line.TheVariants as line
use Rattle.zb_script.specs.declared.tree_call.TreeCall.{TreeCall}
use Rattle.tree_attempts.specs.declared.attempt.Made.{Made}
use Rattle.tree_attempts.specs.declared.operation.TreeOperation.{TreeOperation}
use Rattle.zodb_core.specs.declared.reply.Reply.TheVariants as reply
use Rattle.zodb_core.specs.declared.request.Request.TheVariants as request
use Rattle.zodb_core.specs.Machine.{Machine, Rules}
use Rattle.client_turns.specs.Clients.{Client, Moment, OpenTransaction}
use Rattle.client_turns.specs.DrawLaws.{end_machine, new_raised}
use Rattle.client_turns.specs.Numbers.{drawn_at, drawn_by_call, drawn_uncalled, drawn_unless, drawn_within}
use Rattle.client_turns.specs.Refusing.{connection_refusal}
use Rattle.client_turns.specs.Trees.{CallEnds, Draws, IsDrawn, IsRaised, IsTreeLine, IsUncalled, by_draw, by_read, by_tree, by_want, operation_of}
use Rattle.client_turns.specs.Turns.{IsLineOf, IsLineUnless, IsOwnLine}
use Rattle.client_turns.proofs.Giving.{oids_given}
use Rattle.client_turns.specs.TurnLaws.{outside_machine}

-- ---- numbers that rise

-- numbers rise from above one bound up to another
abbrev pub Rises : ℕ → ℕ → List ℕ → Type 0
Rises low high [] = low ≤ high
Rises low high (n ∷ numbers) = (low < n) × Rises n high numbers

pub rises_from : (lower low high : ℕ) (numbers : List ℕ) → lower ≤ low → Rises low high numbers → Rises lower high numbers
rises_from lower low high [] up rises = omega (arith, up, rises)
rises_from lower low high (n ∷ numbers) up rises = (omega (arith, up, rises.0), rises.1)

pub rises_to : (low high higher : ℕ) (numbers : List ℕ) → high ≤ higher → Rises low high numbers → Rises low higher numbers
rises_to low high higher [] up rises = omega (arith, up, rises)
rises_to low high higher (n ∷ numbers) up rises = (rises.0, rises_to n high higher numbers up rises.1)

pub rises_joined : (low middle high : ℕ) (front rest : List ℕ) → Rises low middle front → Rises middle high rest → Rises low high (front ++ rest)
rises_joined low middle high [] rest first then = rises_from low middle high rest first then
rises_joined low middle high (n ∷ front) rest first then = (first.0, rises_joined n middle high front rest first.1 then)

pub all_above : (low high : ℕ) (numbers : List ℕ) → Rises low high numbers → AllByRecursion (λ n. low < n) numbers
all_above low high [] rises = tt
all_above low high (n ∷ numbers) rises = (rises.0, all_above low high numbers (rises_from low n high numbers (omega (arith, rises.0)) rises.1))

pub rising_pairs : (low high : ℕ) (numbers : List ℕ) → Rises low high numbers → AllPairs (λ earlier later. earlier < later) numbers
rising_pairs low high [] rises = λ i j d before within. absurd (omega arith)
rising_pairs low high (n ∷ numbers) rises =
    AllPairs-cons (λ (x y : ℕ). x < y) n numbers (All-from_recursion (λ (g : ℕ). n < g) numbers (all_above n high numbers rises.1)) (rising_pairs n high numbers rises.1)

-- ---- what is drawn

pub drawn_number : (m : Moment) (n oid : ℕ) (now : Moment) → IsDrawn m n oid now → (oid ≡ m.machine.greatest + 1) × (oid ≤ now.machine.greatest)
drawn_number m n oid now (rules, step) = oids_given rules m.machine n (request.NewOids 1) step.stamp oid 1 now.machine step.ticks oid refl step.made.cause refl

pub draws_rise : (m : Moment) (n : ℕ) (oids : List ℕ) (now : Moment) → Draws m n oids now → Rises m.machine.greatest now.machine.greatest oids
draws_rise m n [] now draws = omega (arith, ap (λ (x : Moment). x.machine.greatest) draws)
draws_rise m n (oid ∷ oids) now (next, drawn, rest) =
    let is : (oid ≡ m.machine.greatest + 1) × (oid ≤ next.machine.greatest) = drawn_number m n oid next drawn in
    (omega (arith, is.0), rises_from oid next.machine.greatest now.machine.greatest oids is.1 (draws_rise next n oids now rest))

raised_up : (m now : Machine) → IsRaised m now → m.greatest ≤ now.greatest
raised_up m now raised = omega (arith, raised.up, ap (λ (x : Machine). x.greatest) raised.is)

same_up : (m now : Moment) → now ≡ m → m.machine.greatest ≤ now.machine.greatest
same_up m now is = omega (arith, ap (λ (x : Moment). x.machine.greatest) is)

uncalled_rises : (m : Moment) (n : ℕ) (t : OpenTransaction) (root : ℕ) (op : TreeOperation) (why : Refusal) (now : Moment) → (is : IsUncalled m n t root op why now) → Rises m.machine.greatest now.machine.greatest (drawn_uncalled is)
uncalled_rises m n t root op why now (by_tree objects sees refused whole same) = same_up m now same
uncalled_rises m n t root op why now (by_read oid asked read found) = omega (arith, ap (λ (x : Moment). x.machine.greatest) read.rest)
uncalled_rises m n t root op why now (by_draw numbers behind lacks draws (rules, step)) =
    rises_to m.machine.greatest behind.machine.greatest now.machine.greatest numbers (raised_up behind.machine now.machine (new_raised rules behind n (reply.Refused why) now step)) (draws_rise m n numbers behind draws)
uncalled_rises m n t root op why now (by_want numbers may draws is) = draws_rise m n numbers now draws

call_rises : (m : Moment) (n : ℕ) (t : OpenTransaction) (root : ℕ) (op : TreeOperation) (result : Result Made Refusal) (now : Moment) → (ends : CallEnds m n t root op result now) → Rises m.machine.greatest now.machine.greatest (drawn_by_call m n t root op result now ends)
call_rises m n t root op (Ok made) now ends = draws_rise m n ends.numbers now ends.draws
call_rises m n t root op (Err why) now ends = uncalled_rises m n t root op why now ends

-- ---- a line of a tree

within_rises : (m now : Moment) (at : ℕ) (c : Client) (t : OpenTransaction) (root : ℕ) (call : TreeCall) (a : Answer) → (is : IsTreeLine m at c t root call a now) → Rises m.machine.greatest now.machine.greatest (drawn_by_call m c.session t root (operation_of call) is.result is.behind is.ends)
within_rises m now at c t root call a is =
    rises_to m.machine.greatest is.behind.machine.greatest now.machine.greatest (drawn_by_call m c.session t root (operation_of call) is.result is.behind is.ends) (omega (arith, ap (λ (x : Machine). x.greatest) (end_machine is.behind now at c t is.result a is.end)))
    (call_rises m c.session t root (operation_of call) is.result is.behind is.ends)

own_rises : (m now : Moment) (at : ℕ) (c : Client) (t : Option OpenTransaction) (root : ℕ) (call : TreeCall) (a : Answer) → (is : IsOwnLine m at c t (line.Tree root call) a now) → Rises m.machine.greatest now.machine.greatest (drawn_within m at c t root call a now is)
own_rises m now at c None root call a is = omega (arith, ap (λ (x : Machine). x.greatest) (outside_machine m now at c c.standing a is))
own_rises m now at c (Some t) root call a is = within_rises m now at c t root call a is

unless_rises : (rules : Rules) (m now : Moment) (at : ℕ) (c : Client) (why : Option Refusal) (root : ℕ) (call : TreeCall) (a : Answer) → (is : IsLineUnless rules m at c (line.Tree root call) why a now)
    → Rises m.machine.greatest now.machine.greatest (drawn_unless rules m at c why root call a now is)
unless_rises rules m now at c (Some why) root call a is = same_up m now is.1
unless_rises rules m now at c None root call a is = own_rises m now at c c.transaction root call a is

pub at_rises : (rules : Rules) (m now : Moment) (at : Option ℕ) (root : ℕ) (call : TreeCall) (a : Answer) → (is : IsLineOf rules m at (line.Tree root call) a now) → Rises m.machine.greatest now.machine.greatest (drawn_at rules m at root call a now is)
at_rises rules m now None root call a is = same_up m now is.1
at_rises rules m now (Some at) root call a is = unless_rises rules m now at is.0 (connection_refusal m.machine is.0 (line.Tree root call)) root call a is.2
