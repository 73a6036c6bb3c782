-- What turns leave of the counts of faults. For the proofs of those who follow turns.
use Rattle.std.proofs.Common.{Bool, Err, List, None, Ok, Option, Result, Some, [], ap, false, length, nat_lt, not, refl, subst, suc, sym, true, zero, ℕ, ◌||◌, ◌∙◌, ◌∷◌, ◌≡◌}
use Rattle.std.specs.Prelude.{IfOk, IsErrOf, slice_get}
use Rattle.zb_model.specs.declared.data.Content.TheVariants.{Held, Absent}
use Rattle.zb_model.specs.declared.data.Content.{Content}
use Rattle.zb_model.specs.declared.pending.PendingStore.{PendingStore}
use Rattle.zb_model.specs.declared.refusal.Refusal.{Refusal}
use Rattle.zb_model.specs.declared.refusal.Refusal.TheVariants as refusal
use Rattle.zb_answers.specs.declared.answer.Answer.{Answer}
use Rattle.zb_answers.specs.declared.answer.Answer.TheVariants as answer
use Rattle.zb_script.specs.declared.line.Line.{Line}
use Rattle.zb_script.specs.declared.line.Line.TheVariants as line
use Rattle.zb_script.specs.declared.line.Turn.{Turn}
use Rattle.commit_phases.specs.Pending.{PendingChanges, excess_with, pending_of}
use Rattle.zodb_core.specs.declared.reply.Reply.{Reply}
use Rattle.zodb_core.specs.declared.reply.Reply.TheVariants as reply
use Rattle.zodb_core.specs.declared.request.Request.{Request}
use Rattle.zodb_core.specs.declared.request.Request.TheVariants as request
use Rattle.zodb_core.specs.DecisionLaws.{AnswersIfSome, answers_or}
use Rattle.zodb_core.specs.Machine.{Machine, Rules, is_open_in, session_limit, with_session}
use Rattle.zodb_core.specs.Outcomes.{Answered, EndsFor, FaultCounts, NoMemory, ReadingFailed, StepOutcome, StoreFailed, outcome_of, outcome_of_refusal}
use Rattle.zodb_core.specs.Steps.{Stepped, refuse_if}
use Rattle.connection_view.specs.Connections.{waiting_as, waiting_read}
use Rattle.client_turns.specs.declared.errors.TurnError.{TurnError}
use Rattle.client_turns.specs.declared.errors.TurnError.TheVariants as error
use Rattle.client_turns.specs.Clients.{Changes, Client, Linked, Local, Moment, OpenTransaction, Standing, changes_of, place_of_client}
use Rattle.client_turns.specs.Lines.{Changed, IsCountedBy, answer_of, answer_to, asking_excess, data_of, end_in, end_of, is_committed, is_delivery, object_of, outcome_of_answer, outcome_of_read, outcome_of_turn, put, request_of, rolled_back, rolled_to, saved, step_answer, store_unless, stored}
use Rattle.client_turns.specs.Output.{FlaggedTurn, Out, TurnAnswer, has_read_fault, is_read_fault}
use Rattle.client_turns.specs.Refusing.{connection_refusal, line_refusal, mixed, pending_count, refusal_within, transaction_refusal}
use Rattle.client_turns.specs.Steps.{IsChange, IsStepAt}
use Rattle.client_turns.specs.Turns.{IsAnswered, IsBroken, IsClosed, IsClosing, IsGet, IsLine, IsLineOf, IsLineTaken, IsCutLine, IsCutOff, IsLineUnless, IsOutside, IsOwnLine, IsPut, IsStepLine, IsStepUnless, IsTold, IsWithin, by_closing, by_line, by_link, by_memory, by_opening, by_step, fronts_behind, opened, opened_if}
use Rattle.client_turns.specs.DrawLaws.{tree_counts}
use Rattle.client_turns.specs.TurnLaws.{IsOpeningAnswer, Opens, as_opened, as_refused, by_name, step_cases, excess_answered, reply_fine, starved_so}

-- ---- steps beside a line

false_true : false ≡ true → ⊥
false_true e = absurd cc

-- a front moves no count
calm_front : (rules : Rules) (m : Machine) (n stamp : ℕ) (made : Stepped) (before now : FaultCounts) (o : StepOutcome) → EndsFor rules m n request.Front stamp made before now o → IsCountedBy before now o → now ≡ before
calm_front rules m n stamp made before now Answered ends cause = cause
calm_front rules m n stamp made before now NoMemory ends cause = cause
calm_front rules m n stamp made before now ReadingFailed ends cause = absurd (false_true ends.0.one)
calm_front rules m n stamp made before now StoreFailed ends cause = absurd (false_true ends.0.one)

told_calm : (rules : Rules) (b t : Moment) (n count : ℕ) → IsTold rules count b n t → t.counts ≡ b.counts
told_calm rules b t n zero told = ap (λ (x : Moment). x.counts) told
told_calm rules b t n (suc count) (r, next, step, rest) =
    told_calm rules next t n count rest ∙ calm_front rules b.machine n step.stamp _ b.counts next.counts (outcome_of r) step.made.cause step.counts

-- a closing that doesn't end the run moves none
calm_close : (rules : Rules) (m : Machine) (n stamp : ℕ) (made : Stepped) (before now : FaultCounts) (o : StepOutcome) → EndsFor rules m n request.Close stamp made before now o → IsCountedBy before now o → ¬ (o ≡ StoreFailed) → now ≡ before
calm_close rules m n stamp made before now Answered ends cause fine = cause
calm_close rules m n stamp made before now NoMemory ends cause fine = cause
calm_close rules m n stamp made before now ReadingFailed ends cause fine = absurd (false_true ends.0.one)
calm_close rules m n stamp made before now StoreFailed ends cause fine = absurd (fine refl)

close_at : (rules : Rules) (m : Moment) (n : ℕ) (r : Reply) (now : Moment) → IsStepAt rules m n request.Close r now → end_of (answer_of r) ≡ None → now.counts ≡ m.counts
close_at rules m n r now step ends = calm_close rules m.machine n step.stamp _ m.counts now.counts (outcome_of r) step.made.cause step.counts (reply_fine r ends)

-- and none ends the run for want of memory
fed_close : (rules : Rules) (m : Machine) (n stamp : ℕ) (made : Stepped) (before now : FaultCounts) (o : StepOutcome) → EndsFor rules m n request.Close stamp made before now o → o ≡ NoMemory → ⊥
fed_close rules m n stamp made before now NoMemory ends is = false_true ends.one
fed_close rules m n stamp made before now Answered ends is = absurd cc
fed_close rules m n stamp made before now ReadingFailed ends is = absurd cc
fed_close rules m n stamp made before now StoreFailed ends is = absurd cc

close_fed : (rules : Rules) (m : Moment) (n : ℕ) (r : Reply) (now : Moment) → IsStepAt rules m n request.Close r now → end_of (answer_of r) ≡ Some error.Memory → ⊥
close_fed rules m n r now step ends = fed_close rules m.machine n step.stamp _ m.counts now.counts (outcome_of r) step.made.cause (starved_so r ends)

-- ---- what is refused by a connection

refused_if : (b : Bool) (r : Refusal) → AnswersIfSome (Some r) → AnswersIfSome (refuse_if b r)
refused_if true r is = is
refused_if false r is = tt

transaction_answers : (t : Changes) (l : Line) → AnswersIfSome (transaction_refusal t l)
transaction_answers t (line.Store oid base bytes) = refused_if t.is_voted refusal.Voted (refl, refl, refl, refl)
transaction_answers t (line.Put oid bytes) = refused_if t.is_voted refusal.Voted (refl, refl, refl, refl)
transaction_answers t (line.Check oid serial) = refused_if t.is_voted refusal.Voted (refl, refl, refl, refl)
transaction_answers t (line.Delete oid base) = refused_if t.is_voted refusal.Voted (refl, refl, refl, refl)
transaction_answers t line.Savepoint = refused_if t.is_voted refusal.Voted (refl, refl, refl, refl)
transaction_answers t (line.Rollback number) = refused_if t.is_voted refusal.Voted (refl, refl, refl, refl)
transaction_answers t (line.Vote user description) = refused_if t.is_voted refusal.Voted (refl, refl, refl, refl)
transaction_answers t (line.Undo user description tids) =
    answers_or (refuse_if t.is_voted refusal.Voted) (mixed t.pending) (refused_if t.is_voted refusal.Voted (refl, refl, refl, refl)) (refused_if (nat_lt 0 (pending_count t.pending)) (refusal.Mixed (pending_count t.pending)) (refl, refl, refl, refl))
transaction_answers t _ = tt

within_answers : (t : Option Changes) (l : Line) → AnswersIfSome (refusal_within t l)
within_answers None l = (refl, refl, refl, refl)
within_answers (Some t) l = transaction_answers t l

line_answers : (t : Option Changes) (l : Line) → AnswersIfSome (line_refusal t l)
line_answers t (line.Open remote) = tt
line_answers None line.Begin = tt
line_answers (Some t) line.Begin = (refl, refl, refl, refl)
line_answers t line.New = tt
line_answers t line.Deliver = tt
line_answers t (line.History oid) = tt
line_answers t line.UndoLog = tt
line_answers t (line.Pack tid collect) = tt
line_answers t (line.PackBegin tid collect) = tt
line_answers t line.PackTurn = tt
line_answers t line.Close = tt
line_answers t w = within_answers t w

connection_answers : (m : Machine) (c : Client) (l : Line) → AnswersIfSome (connection_refusal m c l)
connection_answers m c l =
    answers_or (refuse_if (not (is_open_in m.sessions c.session)) refusal.NotOpen) (line_refusal (changes_of c) l) (refused_if (not (is_open_in m.sessions c.session)) refusal.NotOpen (refl, refl, refl, refl)) (line_answers (changes_of c) l)

-- ---- a line

-- what a line did to the counts, by its answer
abbrev pub CountsBy : Moment → Answer → Moment → Type 0
CountsBy m a now = IsCountedBy m.counts now.counts (outcome_of_answer a)

-- an answer that tells of no fault, where no count has moved
calm_by : (m : Moment) (a b : Answer) (now : Moment) → a ≡ b → outcome_of_answer b ≡ Answered → now.counts ≡ m.counts → CountsBy m a now
calm_by m a b now is answered same = subst (λ (o : StepOutcome). IsCountedBy m.counts now.counts o) (sym (ap outcome_of_answer is ∙ answered)) same

refused_by : (m : Moment) (why : Refusal) (a : Answer) (now : Moment) → outcome_of_refusal why ≡ Answered → (a ≡ answer.Refused why) × (now ≡ m) → CountsBy m a now
refused_by m why a now answered is = calm_by m a (answer.Refused why) now is.0 answered (ap (λ (x : Moment). x.counts) is.1)

pub answer_outcome : (r : Reply) → outcome_of_answer (answer_of r) ≡ outcome_of r
answer_outcome (reply.Front front news switches) = refl
answer_outcome _ = refl

delivered_outcome : (d : Bool) (r : Reply) → outcome_of_answer (answer_to d r) ≡ outcome_of r
delivered_outcome false r = answer_outcome r
delivered_outcome true (reply.Front front news switches) = refl
delivered_outcome true r = answer_outcome r

told_outcome : (s : Standing) (d : Bool) (r : Reply) → outcome_of_answer (step_answer s d r) ≡ outcome_of r
told_outcome s d r = step_cases (λ a. outcome_of_answer a ≡ outcome_of r) s d r (λ n is. sym (excess_answered s r n is).0) (delivered_outcome d r)

step_by : (rules : Rules) (m now : Moment) (at : ℕ) (c : Client) (d : Bool) (q : Request) (a : Answer) → IsStepLine rules m at c d q a now → CountsBy m a now
step_by rules m now at c d q a is =
    subst (λ (k : FaultCounts). IsCountedBy m.counts k (outcome_of_answer a)) (sym (ap (λ (x : Moment). x.counts) is.left ∙ told_calm rules is.behind is.told c.session (fronts_behind (is_committed is.reply) c.standing) is.front))
    (subst (λ (o : StepOutcome). IsCountedBy m.counts is.behind.counts o) (sym (ap outcome_of_answer is.answer ∙ told_outcome c.standing d is.reply)) is.step.counts)

data_outcome : (r : Result (ℕ × List ℕ) Refusal) → outcome_of_answer (data_of r) ≡ outcome_of_read r
data_outcome (Ok got) = refl
data_outcome (Err why) = refl

pub object_outcome : (r : Result (ℕ × List ℕ) Refusal) → outcome_of_answer (object_of r) ≡ outcome_of_read r
object_outcome (Ok got) = refl
object_outcome (Err why) = refl

store_outcome : (t : Changes) (p : PendingStore) (excess : Option ℕ) → outcome_of_answer (store_unless t p excess).answer ≡ Answered
store_outcome t p None = refl
store_outcome t p (Some n) = refl

put_outcome : (t : Changes) (oid : ℕ) (bytes : List ℕ) (r : Result (ℕ × List ℕ) Refusal) → outcome_of_answer (put t oid bytes r).answer ≡ outcome_of_read r
put_outcome t oid bytes (Ok got) = store_outcome t (record { oid = oid; base = got.0; content = Held bytes }) (excess_with t.pending.stores (record { oid = oid; base = got.0; content = Held bytes }))
put_outcome t oid bytes (Err (refusal.Missing o false)) = store_outcome t (record { oid = oid; base = 0; content = Held bytes }) (excess_with t.pending.stores (record { oid = oid; base = 0; content = Held bytes }))
put_outcome t oid bytes (Err (refusal.Missing o true)) = refl
put_outcome t oid bytes (Err _) = refl

-- an answer that tells how a read ended
read_by : (m : Moment) (a b : Answer) (r : Result (ℕ × List ℕ) Refusal) (now : Moment) → a ≡ b → outcome_of_answer b ≡ outcome_of_read r → IsCountedBy m.counts now.counts (outcome_of_read r) → CountsBy m a now
read_by m a b r now is tells counts = subst (λ (o : StepOutcome). IsCountedBy m.counts now.counts o) (sym (ap outcome_of_answer is ∙ tells)) counts

pub waiting_outcome : (oid base : ℕ) (content : Content) → outcome_of_read (waiting_as oid base content) ≡ Answered
waiting_outcome oid base (Held bytes) = refl
waiting_outcome oid base Absent = refl

get_by : (m now : Moment) (v : OpenTransaction) (oid : ℕ) (o : Option PendingStore) (a : Answer) → IsGet m v oid o a now → CountsBy m a now
get_by m now v oid (Some p) a is = calm_by m a _ now is.0 (object_outcome (waiting_read oid p) ∙ waiting_outcome oid p.base p.content) (ap (λ (x : Moment). x.counts) is.1)
get_by m now v oid None a is = read_by m a (object_of is.0) is.0 now is.2 (object_outcome is.0) is.1.counts

change_by : (m now : Moment) (at : ℕ) (c : Client) (t : OpenTransaction) (w : Changed) (a : Answer) → outcome_of_answer w.answer ≡ Answered → IsChange m at c t w a now → CountsBy m a now
change_by m now at c t w a answered is = calm_by m a w.answer now is.0 answered (ap (λ (x : Moment). x.counts) is.1)

put_by : (m now : Moment) (at : ℕ) (c : Client) (t : OpenTransaction) (oid : ℕ) (bytes : List ℕ) (o : Option PendingStore) (a : Answer) → IsPut m at c t oid bytes o a now → CountsBy m a now
put_by m now at c t oid bytes (Some p) a is =
    change_by m now at c t (stored t.changes (record { oid = oid; base = p.base; content = Held bytes })) a
    (store_outcome t.changes (record { oid = oid; base = p.base; content = Held bytes }) (excess_with t.changes.pending.stores (record { oid = oid; base = p.base; content = Held bytes }))) is
put_by m now at c t oid bytes None a is =
    read_by m a (put t.changes oid bytes is.0).answer is.0 now is.3.0 (put_outcome t.changes oid bytes is.0)
    (subst (λ (k : FaultCounts). IsCountedBy m.counts k (outcome_of_read is.0)) (sym (ap (λ (x : Moment). x.counts) is.3.1)) is.2.counts)

rolled_outcome : (t : Changes) (number : ℕ) (o : Option PendingChanges) → outcome_of_answer (rolled_to t number o).answer ≡ Answered
rolled_outcome t number None = refl
rolled_outcome t number (Some pending) = refl

within_by : (m now : Moment) (at : ℕ) (c : Client) (t : OpenTransaction) (l : Line) (a : Answer) → IsWithin m at c t l a now → CountsBy m a now
within_by m now at c t (line.Load oid) a is = read_by m a (data_of is.0) is.0 now is.2 (data_outcome is.0) is.1.counts
within_by m now at c t (line.Get oid) a is = get_by m now t oid (pending_of t.changes.pending.stores oid) a is
within_by m now at c t (line.Store oid base bytes) a is =
    change_by m now at c t (stored t.changes (record { oid = oid; base = base; content = Held bytes })) a
    (store_outcome t.changes (record { oid = oid; base = base; content = Held bytes }) (excess_with t.changes.pending.stores (record { oid = oid; base = base; content = Held bytes }))) is
within_by m now at c t (line.Put oid bytes) a is = put_by m now at c t oid bytes (pending_of t.changes.pending.stores oid) a is
within_by m now at c t (line.Check oid serial) a is = calm_by m a answer.Checked now is.0 refl (ap (λ (x : Moment). x.counts) is.1)
within_by m now at c t (line.Delete oid base) a is = calm_by m a answer.Deleted now is.0 refl (ap (λ (x : Moment). x.counts) is.1)
within_by m now at c t line.Savepoint a is = calm_by m a (saved t.changes).answer now is.0 refl (ap (λ (x : Moment). x.counts) is.1)
within_by m now at c t (line.Rollback number) a is = calm_by m a (rolled_back t.changes number).answer now is.0 (rolled_outcome t.changes number (slice_get t.changes.savepoints number)) (ap (λ (x : Moment). x.counts) is.1)
within_by m now at c t (line.Tree root call) a is = tree_counts m at c t root call a now is
within_by m now at c t _ a is = refused_by m refusal.NoTransaction a now refl is

outside_by : (m now : Moment) (at : ℕ) (c : Client) (s : Standing) (a : Answer) → IsOutside m at c s a now → CountsBy m a now
outside_by m now at c Local a is = refused_by m refusal.NoTransaction a now refl is
outside_by m now at c (Linked known) a is = calm_by m a (answer.Begun known.front) now is.0 refl (ap (λ (x : Moment). x.counts) is.1)

own_by : (m now : Moment) (at : ℕ) (c : Client) (t : Option OpenTransaction) (l : Line) (a : Answer) → IsOwnLine m at c t l a now → CountsBy m a now
own_by m now at c None l a is = outside_by m now at c c.standing a is
own_by m now at c (Some t) l a is = within_by m now at c t l a is

unless_long_by : (rules : Rules) (m now : Moment) (at : ℕ) (c : Client) (d : Bool) (q : Request) (e : Option ℕ) (a : Answer) → IsStepUnless rules m at c d q e a now → CountsBy m a now
unless_long_by rules m now at c d q None a is = step_by rules m now at c d q a is
unless_long_by rules m now at c d q (Some n) a is = refused_by m (refusal.TooLong n) a now refl is

taken_by : (rules : Rules) (m now : Moment) (at : ℕ) (c : Client) (l : Line) (q : Option Request) (a : Answer) → IsLineTaken rules m at c l q a now → CountsBy m a now
taken_by rules m now at c l (Some q) a is = unless_long_by rules m now at c (is_delivery l) q (asking_excess c.standing q) a is
taken_by rules m now at c l None a is = own_by m now at c c.transaction l a is

unless_by : (rules : Rules) (m now : Moment) (at : ℕ) (c : Client) (l : Line) (r : Option Refusal) (a : Answer) → AnswersIfSome r → IsLineUnless rules m at c l r a now → CountsBy m a now
unless_by rules m now at c l (Some why) a answers is = refused_by m why a now answers.0 is
unless_by rules m now at c l None a answers is = taken_by rules m now at c l (request_of c.standing (changes_of c) l) a is

line_of_by : (rules : Rules) (m now : Moment) (at : Option ℕ) (l : Line) (a : Answer) → IsLineOf rules m at l a now → CountsBy m a now
line_of_by rules m now None l a is = refused_by m refusal.NotOpen a now refl is
line_of_by rules m now (Some at) l a is = unless_by rules m now at is.0 l (connection_refusal m.machine is.0 l) a (connection_answers m.machine is.0 l) is.2

-- an opening moves none
opened_calm : (m : Moment) (name : List ℕ) (s : Standing) (b : Bool) → (opened_if b m name s).moment.counts ≡ m.counts
opened_calm m name s true = refl
opened_calm m name s false = refl

opened_answers : (m : Moment) (name : List ℕ) (s : Standing) (b : Bool) → outcome_of_answer (opened_if b m name s).answer ≡ Answered
opened_answers m name s true = refl
opened_answers m name s false = refl

opening_by : (rules : Rules) (m now : Moment) (name : List ℕ) (a : Answer) → Opens rules m name a now → CountsBy m a now
opening_by rules m now name a is = by_answer is.answer
  where
    n : ℕ
    n = length m.machine.sessions

    calm : (opened m name is.standing).moment.counts ≡ m.counts
    calm = opened_calm m name is.standing (nat_lt n session_limit)

    by_answer : IsOpeningAnswer rules (opened m name is.standing) n a now → CountsBy m a now
    by_answer (as_opened same) =
        calm_by m a (opened m name is.standing).answer now same (opened_answers m name is.standing (nat_lt n session_limit)) (told_calm rules (opened m name is.standing).moment now n is.count is.fronts ∙ calm)
    by_answer (as_refused why same refused) =
        subst (λ (x : Answer). CountsBy m x now) (sym same)
        (subst (λ (k : FaultCounts). IsCountedBy k now.counts (outcome_of_refusal why)) (told_calm rules (opened m name is.standing).moment refused.behind n 1 refused.first ∙ calm) refused.step.counts)

pub line_by : (rules : Rules) (m now : Moment) (name : List ℕ) (l : Line) (a : Answer) → IsLine rules m name l a now → CountsBy m a now
line_by rules m now name l a is = by_name rules m now name l a (CountsBy m a now) (opening_by rules m now name a) (line_of_by rules m now (place_of_client name m.clients) l a) is

-- ---- a turn

closed_calm : (rules : Rules) (m now : Moment) (at : Option ℕ) → IsClosed rules m at now → now.counts ≡ m.counts
closed_calm rules m now None is = ap (λ (x : Moment). x.counts) is
closed_calm rules m now (Some at) is = close_at rules m is.1.0.session is.0 now is.1.2 is.2

closing_calm : (rules : Rules) (m now : Moment) (name : List ℕ) (last : Bool) → IsClosing rules m name last now → now.counts ≡ m.counts
closing_calm rules m now name false is = ap (λ (x : Moment). x.counts) is
closing_calm rules m now name true is = closed_calm rules m now (place_of_client name m.clients) is

-- an answered turn moved no count, unless it says that reading failed, and then that of failed reads rose
pub turn_by : (rules : Rules) (m now : Moment) (t : Turn) (last : Bool) (a : Answer) → IsAnswered rules m t last a now → CountsBy m a now
turn_by rules m now t last a is =
    subst (λ (k : FaultCounts). IsCountedBy m.counts k (outcome_of_answer a)) (sym (closing_calm rules is.behind now t.client last is.closing)) (line_by rules m is.behind t.client t.line a is.line)

starved_outcome : (why : Refusal) → end_in why ≡ Some error.Memory → outcome_of_refusal why ≡ NoMemory
starved_outcome refusal.Memory ends = refl
starved_outcome refusal.StoreFault ends = absurd cc
starved_outcome _ ends = absurd cc

starved_by : (m : Moment) (a : Answer) (now : Moment) → end_of a ≡ Some error.Memory → CountsBy m a now → now.counts ≡ m.counts
starved_by m (answer.Refused why) now ends counts = subst (λ (o : StepOutcome). IsCountedBy m.counts now.counts o) (starved_outcome why ends) counts
starved_by m _ now ends counts = absurd cc

-- what is lost over a link moved no count
cut_off_calm : (rules : Rules) (m now : Moment) (c : Client) (q : Request) → IsCutOff rules m c q now → now.counts ≡ m.counts
cut_off_calm rules m now c q is =
    told_calm rules is.behind now c.session is.count is.fronts ∙ subst (IsCountedBy m.counts is.behind.counts) is.answered is.step.counts

cut_calm : (rules : Rules) (m now : Moment) (name : List ℕ) (l : Line) → IsCutLine rules m name l now → now.counts ≡ m.counts
cut_calm rules m now name l (by_step at c place there is) = cut_off_calm rules m now c is.request is.cut
cut_calm rules m now name l (by_opening opens is) = told_calm rules (record m { machine = with_session m.machine }) now (length m.machine.sessions) is.count is.fronts

broken_so : (rules : Rules) (m now : Moment) (t : Turn) (last : Bool) (why : TurnError) → why ≡ error.Memory → IsBroken rules m t last why now → now.counts ≡ m.counts
broken_so rules m now t last why is (by_line a l ends) = starved_by m a now (ends ∙ ap Some is) (line_by rules m now t.client t.line a l)
broken_so rules m now t last why is (by_closing a behind at r closes l whole place closing ends) = absurd (close_fed rules behind closing.0.session r now closing.2 (ends ∙ ap Some is))
broken_so rules m now t last why is (by_memory memory same) = ap (λ (x : Moment). x.counts) same
broken_so rules m now t last why is (by_link memory cut) = cut_calm rules m now t.client t.line cut

-- a turn that broke off for want of memory moved none
pub broken_calm : (rules : Rules) (m now : Moment) (t : Turn) (last : Bool) → IsBroken rules m t last error.Memory now → now.counts ≡ m.counts
broken_calm rules m now t last is = broken_so rules m now t last error.Memory refl is

-- ---- turns one after another

calm_answer : (m : Moment) (a : Answer) (now : Moment) → is_read_fault a ≡ false → end_of a ≡ None → CountsBy m a now → now.counts ≡ m.counts
calm_answer m (answer.Refused why) now fine whole counts = by_refusal why fine whole counts
  where
    by_refusal : (why : Refusal) → is_read_fault (answer.Refused why) ≡ false → end_in why ≡ None → IsCountedBy m.counts now.counts (outcome_of_refusal why) → now.counts ≡ m.counts
    by_refusal refusal.ReadFault fine whole counts = absurd cc
    by_refusal refusal.StoreFault fine whole counts = absurd cc
    by_refusal refusal.Memory fine whole counts = counts
    by_refusal _ fine whole counts = counts
calm_answer m _ now fine whole counts = counts

first_fine : (a b : Bool) → a || b ≡ false → (a ≡ false) × (b ≡ false)
first_fine true b none = absurd cc
first_fine false b none = (refl, none)

-- answered turns moved no count, where none says that reading failed
pub out_calm : (rules : Rules) (m : Moment) (turns : List FlaggedTurn) (answers : List TurnAnswer) (now : Moment) → Out rules m turns answers now → has_read_fault answers ≡ false → now.counts ≡ m.counts
out_calm rules m [] [] now out fine = ap (λ (x : Moment). x.counts) out
out_calm rules m [] (o ∷ answers) now out fine = absurd out
out_calm rules m (t ∷ turns) [] now out fine = absurd out
out_calm rules m (t ∷ turns) (o ∷ answers) now (next, named, turn, rest) fine =
    let both = first_fine (is_read_fault o.answer) (has_read_fault answers) fine in
    out_calm rules next turns answers now rest both.1 ∙ calm_answer m o.answer next both.0 turn.whole (turn_by rules m next t.turn t.is_last o.answer turn)

-- an answer with which the run goes on left the count of other faults as it was
pub whole_others : (before now : FaultCounts) (a : Answer) → end_of a ≡ None → IsCountedBy before now (outcome_of_answer a) → now.others ≡ before.others
whole_others before now (answer.Refused why) whole counts = by_refusal why whole counts
  where
    by_refusal : (why : Refusal) → end_in why ≡ None → IsCountedBy before now (outcome_of_refusal why) → now.others ≡ before.others
    by_refusal refusal.ReadFault whole counts = counts.1
    by_refusal refusal.StoreFault whole counts = absurd cc
    by_refusal refusal.Memory whole counts = absurd cc
    by_refusal _ whole counts = ap (λ (k : FaultCounts). k.others) counts
whole_others before now _ whole counts = ap (λ (k : FaultCounts). k.others) counts

-- and so did a turn, unless the store failed in it
pub turn_others : (before now : FaultCounts) (r : Result Answer TurnError) → IfOk r (λ a. end_of a ≡ None) → IsCountedBy before now (outcome_of_turn r) → ¬ IsErrOf r error.StoreFault → now.others ≡ before.others
turn_others before now (Ok a) whole counts other = whole_others before now a whole counts
turn_others before now (Err error.Memory) whole counts other = ap (λ (k : FaultCounts). k.others) counts
turn_others before now (Err error.StoreFault) whole counts other = absurd (other refl)

pub out_others : (rules : Rules) (m : Moment) (turns : List FlaggedTurn) (answers : List TurnAnswer) (now : Moment) → Out rules m turns answers now → now.counts.others ≡ m.counts.others
out_others rules m [] [] now out = ap (λ (x : Moment). x.counts.others) out
out_others rules m [] (o ∷ answers) now out = absurd out
out_others rules m (t ∷ turns) [] now out = absurd out
out_others rules m (t ∷ turns) (o ∷ answers) now (next, named, turn, rest) =
    out_others rules next turns answers now rest ∙ whole_others m.counts next.counts o.answer turn.whole (turn_by rules m next t.turn t.is_last o.answer turn)
