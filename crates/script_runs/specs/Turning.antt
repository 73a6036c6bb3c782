-- What a turn leaves of the list, and a run.
use Rattle.std.proofs.Common.{Bool, List, None, Option, Some, [], ap, append-nil, append_assoc, false, length, ltb, refl, subst, suc, sym, true, zero, ℕ, ◌++◌, ◌∙◌, ◌∷◌, ◌≡◌}
use Rattle.std.specs.Prelude.{Result, Ok, Err, slice_get, ◌||◌}
use Rattle.zb_model.specs.declared.data.Content.TheVariants.{Held}
use Rattle.zb_model.specs.declared.data.Transaction.{Transaction}
use Rattle.zb_model.specs.declared.pending.PendingStore.{PendingStore}
use Rattle.zb_model.specs.declared.refusal.Refusal.{Refusal}
use Rattle.zb_model.specs.declared.refusal.Refusal.TheVariants as refusal
use Rattle.zb_answers.specs.declared.answer.Answer.{Answer}
use Rattle.zb_answers.specs.declared.answer.Answer.TheVariants as answer
use Rattle.zb_script.specs.declared.line.Line.{Line}
use Rattle.zb_script.specs.declared.line.Line.TheVariants as line
use Rattle.zb_script.specs.declared.line.Turn.{Turn}
use Rattle.zb_script.specs.declared.tree_call.TreeCall.{TreeCall}
use Rattle.commit_phases.specs.Pending.{PendingChanges, excess_with, pending_of}
use Rattle.tree_attempts.specs.declared.operation.TreeAnswer.{TreeAnswer}
use Rattle.tree_attempts.specs.declared.operation.TreeAnswer.TheVariants as answered
use Rattle.zodb_core.specs.declared.reply.Reply.{Reply}
use Rattle.zodb_core.specs.declared.reply.Reply.TheVariants as reply
use Rattle.zodb_core.specs.declared.request.Request.{Request}
use Rattle.zodb_core.specs.declared.request.Request.TheVariants as request
use Rattle.zodb_core.specs.Machine.{Machine, Rules, session_limit, with_session}
use Rattle.zodb_core.specs.Outcomes.{Answered, StoreFailed}
use Rattle.client_turns.specs.declared.errors.TurnError.{TurnError}
use Rattle.client_turns.specs.declared.errors.TurnError.TheVariants as turn_error
use Rattle.client_turns.specs.Clients.{Changes, Client, Linked, Local, Moment, OpenTransaction, Standing, changes_of, first_moment, place_of_client}
use Rattle.client_turns.specs.Lines.{Changed, answer_of, answer_to, answering_excess, asking_excess, data_of, deleted, end_of, is_committed, is_delivery, object_of, put, request_of, rolled_back, rolled_to, saved, step_answer, store_unless, stored}
use Rattle.client_turns.specs.DrawLaws.{tree_answer, tree_raised}
use Rattle.client_turns.specs.Trees.{IsRaised, IsTreeLine, answer_told}
use Rattle.client_turns.specs.TurnLaws.{IsOpeningAnswer, Opens, as_opened, as_refused, by_name, first_ahead, out_ahead, starved_so, step_at_left, step_cases, told_end, turn_whole}
use Rattle.client_turns.specs.Output.{FlaggedTurn, Out, TurnAnswer}
use Rattle.client_turns.specs.Refusing.{connection_refusal}
use Rattle.client_turns.specs.Standing.{IsAhead}
use Rattle.client_turns.specs.Steps.{IsChange, IsRefusedAt, IsStepAt}
use Rattle.client_turns.specs.Turns.{IsBroken, IsClosed, IsClosing, IsClosingAt, IsGet, IsLine, IsLineOf, IsLineTaken, IsCutLine, IsLineUnless, IsOutside, IsOwnLine, IsPut, IsReadLine, IsStepLine, IsStepUnless, IsTold, IsTurn, IsWithin, by_closing, by_line, by_link, by_memory, by_opening, by_step, fronts_behind, opened, opened_if}
use Rattle.connection_view.specs.Connections.{waiting_read}
use Rattle.side_by_side.specs.Runs.{CameBy}
use Rattle.script_runs.specs.Committed.{AnswerLeaves, AnswersLeave, BeginsWith, CommittedStays, EndsWith, HasCommitted, IsCommittedTo, IsLeftSince, has_packed, is_packed}
use Rattle.script_runs.specs.Keeping.{MadeKeeps, close_fed, fails_so, front_whole, leaves_so, made_keeps}

-- ---- steps at a moment

step_at : (rules : Rules) (m : Moment) (n : ℕ) (q : Request) (r : Reply) (now : Moment) → IsStepAt rules m n q r now → MadeKeeps rules m.machine r now.machine
step_at rules m n q r now step = made_keeps rules m.machine n q step.stamp r now.machine step.ticks m.counts now.counts step.made

-- a moment with the same list, over a store that failed as little
pub record Keeps (m now : Moment) : Type 0 where
  pub list : now.machine.list ≡ m.machine.list
  pub failed : now.machine.failed ≡ m.machine.failed

keeps_same : (m now : Moment) → now ≡ m → Keeps m now
keeps_same m now is = record { list = ap (λ (x : Moment). x.machine.list) is; failed = ap (λ (x : Moment). x.machine.failed) is }

told_keeps : (rules : Rules) (count : ℕ) (m : Moment) (n : ℕ) (now : Moment) → IsTold rules count m n now → Keeps m now
told_keeps rules zero m n now told = keeps_same m now told
told_keeps rules (suc count) m n now (r, next, step, rest) =
    let on = told_keeps rules count next n now rest in record {
      list = on.list ∙ step_at_left rules m n request.Front r next step;
      failed = on.failed ∙ (step_at rules m n request.Front r next step).failed (front_whole rules m.machine n step.stamp r next.machine step.ticks m.counts next.counts step.made);
    }

-- ---- lines

-- what a line keeps, by its answer
pub record LineKeeps (rules : Rules) (m : Moment) (a : Answer) (now : Moment) : Type 0 where
  pub leaves : IsAhead m.machine → AnswerLeaves rules a m.machine.list now.machine.list
  pub failed : ¬ (end_of a ≡ Some turn_error.StoreFault) → now.machine.failed ≡ m.machine.failed

-- an answer tells of no commit and of no pack
abbrev IsPlain : Answer → Type 0
IsPlain (answer.Committed tid) = ⊥
IsPlain (answer.Packed kept dropped) = ⊥
IsPlain _ = Unit {0}

plain_left : (rules : Rules) (a : Answer) (list now : List Transaction) → IsPlain a → now ≡ list → AnswerLeaves rules a list now
plain_left rules (answer.Committed tid) list now plain same = absurd plain
plain_left rules (answer.Packed kept dropped) list now plain same = absurd plain
plain_left rules _ list now plain same = same

-- a line that leaves the machine as it is
same_line : (rules : Rules) (m : Moment) (a b : Answer) (now : Moment) → a ≡ b → IsPlain b → now.machine ≡ m.machine → LineKeeps rules m a now
same_line rules m a b now is plain same = record {
  leaves = λ ahead. subst (λ (x : Answer). AnswerLeaves rules x m.machine.list now.machine.list) (sym is) (plain_left rules b m.machine.list now.machine.list plain (ap (λ (x : Machine). x.list) same));
  failed = λ other. ap (λ (x : Machine). x.failed) same;
}

opened_plain : (m : Moment) (name : List ℕ) (s : Standing) (b : Bool) → IsPlain (opened_if b m name s).answer
opened_plain m name s true = tt
opened_plain m name s false = tt

opened_keeps : (m : Moment) (name : List ℕ) (s : Standing) (b : Bool) → Keeps m (opened_if b m name s).moment
opened_keeps m name s true = record { list = refl; failed = refl }
opened_keeps m name s false = record { list = refl; failed = refl }

open_keeps : (rules : Rules) (m : Moment) (name : List ℕ) (a : Answer) (now : Moment) → Opens rules m name a now → LineKeeps rules m a now
open_keeps rules m name a now is =
    let n = length m.machine.sessions in
    let room = ltb n session_limit in
    let first = opened_keeps m name is.standing room in
    let on = told_keeps rules is.count (opened m name is.standing).moment n now is.fronts in
    record {
      leaves = λ ahead. subst (λ (x : Answer). AnswerLeaves rules x m.machine.list now.machine.list) (sym (said room is.answer).1) (plain_left rules (said room is.answer).0 m.machine.list now.machine.list (said room is.answer).2 (on.list ∙ first.list));
      failed = λ other. on.failed ∙ first.failed;
    }
  where
    said : (room : Bool) → IsOpeningAnswer rules (opened m name is.standing) (length m.machine.sessions) a now → (x : Answer) × (a ≡ x) × IsPlain x
    said room (as_opened same) = ((opened m name is.standing).answer, same, opened_plain m name is.standing (ltb (length m.machine.sessions) session_limit))
    said room (as_refused why same refused) = (answer.Refused why, same, tt)

-- a delivery says of the list what its step says
told_so : (rules : Rules) (d : Bool) (r : Reply) (list now : List Transaction) → AnswerLeaves rules (answer_of r) list now → AnswerLeaves rules (answer_to d r) list now
told_so rules false r list now leaves = leaves
told_so rules true (reply.Front front news switches) list now leaves = leaves
told_so rules true _ list now leaves = leaves

-- an answer that may be too long is none of a commit or of a pack
long_so : (rules : Rules) (s : Standing) (r : Reply) (n : ℕ) (list now : List Transaction) → answering_excess s r ≡ Some n → AnswerLeaves rules (answer_of r) list now → now ≡ list
long_so rules Local r n list now long leaves = absurd cc
long_so rules (Linked known) (reply.Committed tid) n list now long leaves = absurd cc
long_so rules (Linked known) (reply.Packed kept dropped) n list now long leaves = absurd cc
long_so rules (Linked known) _ n list now long leaves = leaves

answered_so : (rules : Rules) (s : Standing) (d : Bool) (r : Reply) (list now : List Transaction) → AnswerLeaves rules (answer_of r) list now → AnswerLeaves rules (step_answer s d r) list now
answered_so rules s d r list now leaves = step_cases (λ a. AnswerLeaves rules a list now) s d r (λ n long. long_so rules s r n list now long leaves) (told_so rules d r list now leaves)

step_line : (rules : Rules) (m : Moment) (at : ℕ) (c : Client) (d : Bool) (q : Request) (a : Answer) (now : Moment) → IsStepLine rules m at c d q a now → LineKeeps rules m a now
step_line rules m at c d q a now l =
    let keeps = step_at rules m c.session q l.reply l.behind l.step in
    let told = told_keeps rules (fronts_behind (is_committed l.reply) c.standing) l.behind c.session l.told l.front in
    let machine : now.machine ≡ l.told.machine = ap (λ (x : Moment). x.machine) l.left in
    let list : now.machine.list ≡ l.behind.machine.list = ap (λ (x : Machine). x.list) machine ∙ told.list in record {
      leaves = λ ahead.
          subst (λ (x : Answer). AnswerLeaves rules x m.machine.list now.machine.list) (sym l.answer)
          (answered_so rules c.standing d l.reply m.machine.list now.machine.list
          (subst (AnswerLeaves rules (answer_of l.reply) m.machine.list) (sym list) (leaves_so rules l.reply m.machine.list l.behind.machine.list (keeps.leaves ahead))));
      failed = λ other. ap (λ (x : Machine). x.failed) machine ∙ told.failed ∙ keeps.failed (λ lost. other (ap end_of l.answer ∙ told_end c.standing d l.reply ∙ fails_so l.reply lost));
    }

-- ---- lines that are no step

refused_line : (rules : Rules) (m : Moment) (why : Refusal) (a : Answer) (now : Moment) → IsRefusedAt m why a now → LineKeeps rules m a now
refused_line rules m why a now (is, same) = same_line rules m a (answer.Refused why) now is tt (ap (λ (x : Moment). x.machine) same)

plain_data : (r : Result (ℕ × List ℕ) Refusal) → IsPlain (data_of r)
plain_data (Ok got) = tt
plain_data (Err why) = tt

plain_object : (r : Result (ℕ × List ℕ) Refusal) → IsPlain (object_of r)
plain_object (Ok got) = tt
plain_object (Err why) = tt

plain_store : (t : Changes) (p : PendingStore) (excess : Option ℕ) → IsPlain (store_unless t p excess).answer
plain_store t p None = tt
plain_store t p (Some n) = tt

plain_stored : (t : Changes) (p : PendingStore) → IsPlain (stored t p).answer
plain_stored t p = plain_store t p (excess_with t.pending.stores p)

plain_put : (t : Changes) (oid : ℕ) (bytes : List ℕ) (r : Result (ℕ × List ℕ) Refusal) → IsPlain (put t oid bytes r).answer
plain_put t oid bytes (Ok got) = plain_stored t (record { oid = oid; base = got.0; content = Held bytes })
plain_put t oid bytes (Err (refusal.Missing o false)) = plain_stored t (record { oid = oid; base = 0; content = Held bytes })
plain_put t oid bytes (Err (refusal.Missing o true)) = tt
plain_put t oid bytes (Err _) = tt

change_line : (rules : Rules) (m : Moment) (at : ℕ) (c : Client) (t : OpenTransaction) (w : Changed) (a : Answer) (now : Moment) → IsPlain w.answer → IsChange m at c t w a now → LineKeeps rules m a now
change_line rules m at c t w a now plain (is, left) = same_line rules m a w.answer now is plain (ap (λ (x : Moment). x.machine) left)

read_line : (rules : Rules) (m : Moment) (v : OpenTransaction) (oid : ℕ) (answer_to : Result (ℕ × List ℕ) Refusal → Answer) (a : Answer) (now : Moment) → ((r : Result (ℕ × List ℕ) Refusal) → IsPlain (answer_to r)) → IsReadLine m v oid answer_to a now → LineKeeps rules m a now
read_line rules m v oid answer_to a now plain (r, read, is) = same_line rules m a (answer_to r) now is (plain r) (ap (λ (x : Moment). x.machine) read.rest)

get_line : (rules : Rules) (m : Moment) (v : OpenTransaction) (oid : ℕ) (p : Option PendingStore) (a : Answer) (now : Moment) → IsGet m v oid p a now → LineKeeps rules m a now
get_line rules m v oid (Some p) a now (is, same) = same_line rules m a (object_of (waiting_read oid p)) now is (plain_object (waiting_read oid p)) (ap (λ (x : Moment). x.machine) same)
get_line rules m v oid None a now l = read_line rules m v oid object_of a now plain_object l

put_line : (rules : Rules) (m : Moment) (at : ℕ) (c : Client) (t : OpenTransaction) (oid : ℕ) (bytes : List ℕ) (p : Option PendingStore) (a : Answer) (now : Moment) → IsPut m at c t oid bytes p a now → LineKeeps rules m a now
put_line rules m at c t oid bytes (Some p) a now l =
    let waits : PendingStore = record { oid = oid; base = p.base; content = Held bytes } in
    change_line rules m at c t (stored t.changes waits) a now (plain_stored t.changes waits) l
put_line rules m at c t oid bytes None a now (r, behind, read, (is, left)) =
    same_line rules m a (put t.changes oid bytes r).answer now is (plain_put t.changes oid bytes r) (ap (λ (x : Moment). x.machine) left ∙ ap (λ (x : Moment). x.machine) read.rest)

plain_rolled : (t : Changes) (number : ℕ) (o : Option PendingChanges) → IsPlain (rolled_to t number o).answer
plain_rolled t number None = tt
plain_rolled t number (Some pending) = tt

plain_told : (x : TreeAnswer) → IsPlain (answer_told x)
plain_told (answered.Value None) = tt
plain_told (answered.Value (Some value)) = tt
plain_told answered.Set = tt
plain_told (answered.Removed true) = tt
plain_told (answered.Removed false) = tt
plain_told (answered.Items list is_set) = tt

-- a line of a tree leaves all but the greatest number
tree_line : (rules : Rules) (m : Moment) (at : ℕ) (c : Client) (t : OpenTransaction) (root : ℕ) (call : TreeCall) (a : Answer) (now : Moment) → IsTreeLine m at c t root call a now → LineKeeps rules m a now
tree_line rules m at c t root call a now l =
    let raised : IsRaised m.machine now.machine = tree_raised m at c t root call a now l in
    let list : now.machine.list ≡ m.machine.list = ap (λ (x : Machine). x.list) raised.is in
    record {
      leaves = λ ahead. plain_left rules a m.machine.list now.machine.list (tree_answer IsPlain m at c t root call a now plain_told (λ why. tt) l) list;
      failed = λ other. ap (λ (x : Machine). x.failed) raised.is;
    }

within_line : (rules : Rules) (m : Moment) (at : ℕ) (c : Client) (t : OpenTransaction) (l : Line) (a : Answer) (now : Moment) → IsWithin m at c t l a now → LineKeeps rules m a now
within_line rules m at c t (line.Load oid) a now l = read_line rules m t oid data_of a now plain_data l
within_line rules m at c t (line.Get oid) a now l = get_line rules m t oid (pending_of t.changes.pending.stores oid) a now l
within_line rules m at c t (line.Store oid base bytes) a now l =
    let waits : PendingStore = record { oid = oid; base = base; content = Held bytes } in
    change_line rules m at c t (stored t.changes waits) a now (plain_stored t.changes waits) l
within_line rules m at c t (line.Put oid bytes) a now l = put_line rules m at c t oid bytes (pending_of t.changes.pending.stores oid) a now l
within_line rules m at c t (line.Check oid serial) a now (is, left) = same_line rules m a answer.Checked now is tt (ap (λ (x : Moment). x.machine) left)
within_line rules m at c t (line.Delete oid base) a now l = change_line rules m at c t (deleted t.changes oid base) a now tt l
within_line rules m at c t line.Savepoint a now (is, left) = same_line rules m a (saved t.changes).answer now is tt (ap (λ (x : Moment). x.machine) left)
within_line rules m at c t (line.Rollback number) a now (is, left) = same_line rules m a (rolled_back t.changes number).answer now is (plain_rolled t.changes number (slice_get t.changes.savepoints number)) (ap (λ (x : Moment). x.machine) left)
within_line rules m at c t (line.Tree root call) a now l = tree_line rules m at c t root call a now l
within_line rules m at c t _ a now l = refused_line rules m refusal.NoTransaction a now l

outside_line : (rules : Rules) (m : Moment) (at : ℕ) (c : Client) (s : Standing) (a : Answer) (now : Moment) → IsOutside m at c s a now → LineKeeps rules m a now
outside_line rules m at c Local a now is = refused_line rules m refusal.NoTransaction a now is
outside_line rules m at c (Linked known) a now (is, left) = same_line rules m a (answer.Begun known.front) now is tt (ap (λ (x : Moment). x.machine) left)

own_line : (rules : Rules) (m : Moment) (at : ℕ) (c : Client) (t : Option OpenTransaction) (l : Line) (a : Answer) (now : Moment) → IsOwnLine m at c t l a now → LineKeeps rules m a now
own_line rules m at c None l a now own = outside_line rules m at c c.standing a now own
own_line rules m at c (Some t) l a now own = within_line rules m at c t l a now own

long_line : (rules : Rules) (m : Moment) (at : ℕ) (c : Client) (d : Bool) (q : Request) (e : Option ℕ) (a : Answer) (now : Moment) → IsStepUnless rules m at c d q e a now → LineKeeps rules m a now
long_line rules m at c d q None a now is = step_line rules m at c d q a now is
long_line rules m at c d q (Some n) a now is = refused_line rules m (refusal.TooLong n) a now is

taken_line : (rules : Rules) (m : Moment) (at : ℕ) (c : Client) (l : Line) (q : Option Request) (a : Answer) (now : Moment) → IsLineTaken rules m at c l q a now → LineKeeps rules m a now
taken_line rules m at c l (Some q) a now taken = long_line rules m at c (is_delivery l) q (asking_excess c.standing q) a now taken
taken_line rules m at c l None a now taken = own_line rules m at c c.transaction l a now taken

unless_line : (rules : Rules) (m : Moment) (at : ℕ) (c : Client) (l : Line) (why : Option Refusal) (a : Answer) (now : Moment) → IsLineUnless rules m at c l why a now → LineKeeps rules m a now
unless_line rules m at c l (Some why) a now unless = refused_line rules m why a now unless
unless_line rules m at c l None a now unless = taken_line rules m at c l (request_of c.standing (changes_of c) l) a now unless

line_of : (rules : Rules) (m : Moment) (at : Option ℕ) (l : Line) (a : Answer) (now : Moment) → IsLineOf rules m at l a now → LineKeeps rules m a now
line_of rules m None l a now is = refused_line rules m refusal.NotOpen a now is
line_of rules m (Some at) l a now (c, there, unless) = unless_line rules m at c l (connection_refusal m.machine c l) a now unless

pub line_keeps : (rules : Rules) (m : Moment) (name : List ℕ) (l : Line) (a : Answer) (now : Moment) → IsLine rules m name l a now → LineKeeps rules m a now
line_keeps rules m name l a now is = by_name rules m now name l a (LineKeeps rules m a now) (open_keeps rules m name a now) (line_of rules m (place_of_client name m.clients) l a now) is

-- ---- turns

closed_at : (rules : Rules) (m : Moment) (at : ℕ) (r : Reply) (now : Moment) → IsClosingAt rules m at r now → ¬ (end_of (answer_of r) ≡ Some turn_error.StoreFault) → Keeps m now
closed_at rules m at r now (c, there, step) other = record {
  list = step_at_left rules m c.session request.Close r now step;
  failed = (step_at rules m c.session request.Close r now step).failed (λ lost. other (fails_so r lost));
}

closed_keeps : (rules : Rules) (m : Moment) (at : Option ℕ) (now : Moment) → IsClosed rules m at now → Keeps m now
closed_keeps rules m None now same = keeps_same m now same
closed_keeps rules m (Some at) now (r, closing, whole) = closed_at rules m at r now closing (λ lost. absurd cc)

closing_keeps : (rules : Rules) (m : Moment) (name : List ℕ) (last : Bool) (now : Moment) → IsClosing rules m name last now → Keeps m now
closing_keeps rules m name false now same = keeps_same m now same
closing_keeps rules m name true now closed = closed_keeps rules m (place_of_client name m.clients) now closed

-- what an answered turn keeps
pub record TurnKeeps (rules : Rules) (m : Moment) (a : Answer) (now : Moment) : Type 0 where
  pub leaves : IsAhead m.machine → AnswerLeaves rules a m.machine.list now.machine.list
  pub failed : now.machine.failed ≡ m.machine.failed
  pub ahead : IsAhead m.machine → IsAhead now.machine

pub turn_keeps : (rules : Rules) (m : Moment) (t : Turn) (last : Bool) (a : Answer) (now : Moment) → IsTurn rules m t last (Ok a) now → TurnKeeps rules m a now
turn_keeps rules m t last a now is =
    let l = line_keeps rules m t.client t.line a is.behind is.line in
    let closing = closing_keeps rules is.behind t.client last now is.closing in record {
      leaves = λ ahead. subst (AnswerLeaves rules a m.machine.list) (sym closing.list) (l.leaves ahead);
      failed = closing.failed ∙ l.failed (λ lost. absurd cc);
      ahead = (turn_whole rules m now t last a is).ahead;
    }

never_starved : (rules : Rules) (m : Moment) (at : ℕ) (r : Reply) (now : Moment) → IsClosingAt rules m at r now → ¬ (end_of (answer_of r) ≡ Some turn_error.Memory)
never_starved rules m at r now (c, there, step) none = close_fed rules m.machine c.session step.stamp r now.machine step.ticks m.counts now.counts step.made (starved_so r none)

-- and one that broke off for want of memory
cut_keeps : (rules : Rules) (m : Moment) (name : List ℕ) (l : Line) (now : Moment) → IsCutLine rules m name l now → now.machine.failed ≡ m.machine.failed
cut_keeps rules m name l now (by_step at c place there is) =
    (told_keeps rules is.cut.count is.cut.behind c.session now is.cut.fronts).failed
    ∙ (step_at rules m c.session is.request is.cut.reply is.cut.behind is.cut.step).failed (λ lost. never is.cut.reply (sym is.cut.answered ∙ lost))
  where
    never : (r : Reply) → Answered ≡ StoreFailed → ⊥
    never r e = absurd cc
cut_keeps rules m name l now (by_opening opens is) = (told_keeps rules is.count (record m { machine = with_session m.machine }) (length m.machine.sessions) now is.fronts).failed

broken_by : (rules : Rules) (m : Moment) (t : Turn) (last : Bool) (why : TurnError) (now : Moment) → why ≡ turn_error.Memory → IsBroken rules m t last why now → now.machine.failed ≡ m.machine.failed
broken_by rules m t last why now is (by_line a l ends) =
    let keeps = line_keeps rules m t.client t.line a now l in
    let none : end_of a ≡ Some turn_error.Memory = ends ∙ ap Some is in
    keeps.failed (λ lost. absurd cc)
broken_by rules m t last why now is (by_closing a behind at r closes l whole place closing ends) =
    absurd (never_starved rules behind at r now closing (ends ∙ ap Some is))
broken_by rules m t last why now is (by_memory memory same) = ap (λ (x : Moment). x.machine.failed) same
broken_by rules m t last why now is (by_link memory cut) = cut_keeps rules m t.client t.line now cut

pub broken_keeps : (rules : Rules) (m : Moment) (t : Turn) (last : Bool) (now : Moment) → IsTurn rules m t last (Err turn_error.Memory) now → now.machine.failed ≡ m.machine.failed
broken_keeps rules m t last now is = broken_by rules m t last turn_error.Memory now refl is

-- ---- runs

pub out_failed : (rules : Rules) (m : Moment) (turns : List FlaggedTurn) (answers : List TurnAnswer) (now : Moment) → Out rules m turns answers now → now.machine.failed ≡ m.machine.failed
out_failed rules m [] [] now out = ap (λ (x : Moment). x.machine.failed) out
out_failed rules m [] (o ∷ answers) now out = absurd out
out_failed rules m (t ∷ turns) [] now out = absurd out
out_failed rules m (t ∷ turns) (o ∷ answers) now (next, named, turn, rest) =
    out_failed rules next turns answers now rest ∙ (turn_keeps rules m t.turn t.is_last o.answer next turn).failed

-- the list behind turns is what their answers leave
out_left : (rules : Rules) (m : Moment) (turns : List FlaggedTurn) (answers : List TurnAnswer) (now : Moment) → IsAhead m.machine → Out rules m turns answers now → AnswersLeave rules answers m.machine.list now.machine.list
out_left rules m [] [] now ahead out = ap (λ (x : Moment). x.machine.list) out
out_left rules m [] (o ∷ answers) now ahead out = absurd out
out_left rules m (t ∷ turns) [] now ahead out = absurd out
out_left rules m (t ∷ turns) (o ∷ answers) now ahead (next, named, turn, rest) =
    let keeps = turn_keeps rules m t.turn t.is_last o.answer next turn in
    (next.machine.list, keeps.leaves ahead, out_left rules next turns answers now (keeps.ahead ahead) rest)

-- a run came by the moment behind each front of its answers
out_split : (rules : Rules) (m : Moment) (turns : List FlaggedTurn) (given more : List TurnAnswer) (now : Moment) → Out rules m turns (given ++ more) now → CameBy rules m turns given more now
out_split rules m turns [] more now out = record { front = []; rest = turns; parts = refl; at = m; before = refl; after = out }
out_split rules m [] (o ∷ given) more now out = absurd out
out_split rules m (t ∷ turns) (o ∷ given) more now (next, named, turn, rest) =
    let came = out_split rules next turns given more now rest in
    record {
      front = t ∷ came.front;
      rest = came.rest;
      parts = ap (λ (ts : List FlaggedTurn). t ∷ ts) came.parts;
      at = came.at;
      before = (next, named, turn, came.before);
      after = came.after;
    }

-- where no answer says that the list was packed, it begins with the one before
begins_same : (list now : List Transaction) → now ≡ list → BeginsWith now list
begins_same list now same = record { more = []; parts = same ∙ sym (append-nil list) }

begins_on : (a b c : List Transaction) → BeginsWith b a → BeginsWith c b → BeginsWith c a
begins_on a b c first second = record {
  more = first.more ++ second.more;
  parts = second.parts ∙ ap (λ (l : List Transaction). l ++ second.more) first.parts ∙ append_assoc a first.more second.more;
}

answer_begins : (rules : Rules) (a : Answer) (list now : List Transaction) → is_packed a ≡ false → AnswerLeaves rules a list now → BeginsWith now list
answer_begins rules (answer.Committed tid) list now none left = record { more = left.transaction ∷ []; parts = left.behind }
answer_begins rules (answer.Packed kept dropped) list now none left = absurd cc
answer_begins rules _ list now none left = begins_same list now left

neither : (b c : Bool) → (b || c) ≡ false → (b ≡ false) × (c ≡ false)
neither true c none = absurd cc
neither false c none = (refl, none)

answers_begin : (rules : Rules) (answers : List TurnAnswer) (list now : List Transaction) → AnswersLeave rules answers list now → has_packed answers ≡ false → BeginsWith now list
answers_begin rules [] list now left none = begins_same list now left
answers_begin rules (o ∷ answers) list now (mid, first, rest) none =
    let both = neither (is_packed o.answer) (has_packed answers) none in
    begins_on list mid now (answer_begins rules o.answer list mid both.0 first) (answers_begin rules answers mid now rest both.1)

left_since : (rules : Rules) (m : Moment) (turns : List FlaggedTurn) (answers given more : List TurnAnswer) (now : Moment) → IsAhead m.machine → Out rules m turns answers now → answers ≡ given ++ more
    → IsLeftSince rules m turns given more now
left_since rules m turns answers given more now ahead out parts =
    let came = out_split rules m turns given more now (subst (λ (os : List TurnAnswer). Out rules m turns os now) parts out) in
    let left = out_left rules came.at came.rest more now (out_ahead rules m came.at came.front given came.before ahead) came.after in
    record { came = came; left = left; whole = answers_begin rules more came.at.machine.list now.machine.list left }

-- ---- what was answered as committed

-- a commit that is answered last is of the newest transaction
last_newest : (rules : Rules) (given : List TurnAnswer) (o : TurnAnswer) (tid : ℕ) (list now : List Transaction) → o.answer ≡ answer.Committed tid → AnswersLeave rules (given ++ o ∷ []) list now → EndsWith now tid
last_newest rules [] o tid list now is (mid, left, same) =
    let committed : IsCommittedTo tid list mid = subst (λ (a : Answer). AnswerLeaves rules a list mid) is left in
    record { earlier = list; transaction = committed.transaction; parts = same ∙ committed.behind; tid_is = committed.tid_is }
last_newest rules (g ∷ given) o tid list now is (mid, left, rest) = last_newest rules given o tid mid now is rest

pub out_committed : (rules : Rules) (m : Moment) (turns : List FlaggedTurn) (answers : List TurnAnswer) (now : Moment) → IsAhead m.machine → Out rules m turns answers now → HasCommitted rules m turns answers now
out_committed rules m turns answers now ahead out given more o tid parts is =
    let since = left_since rules m turns answers (given ++ o ∷ []) more now ahead out (parts ∙ sym (append_assoc given (o ∷ []) more)) in
    record {
      since = since;
      newest = last_newest rules given o tid m.machine.list since.came.at.machine.list is (out_left rules m since.came.front (given ++ o ∷ []) since.came.at ahead since.came.before);
    }

pub committed_stays : CommittedStays
committed_stays rules list stamps counts turns answers now out =
    let m = first_moment list stamps counts in record {
      committed = out_committed rules m turns answers now (first_ahead list stamps counts) out;
      left = λ given more parts. left_since rules m turns answers given more now (first_ahead list stamps counts) out parts;
    }
