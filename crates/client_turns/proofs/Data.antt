-- A read answers the revision below its view's front.
use Rattle.std.proofs.Common.{◌≡◌, ℕ, ◌+◌, ◌-◌, ◌^◌, ◌<◌, Bool, true, false, List, [], ◌∷◌, filter, length, Option, Some, None, Result, Ok, Err, cond, ltb, refl, sym, ap, subst, ◌∙◌, arith, nat_lt, ⊎_elim}
use Rattle.std.specs.List.{last_or}
use Rattle.std.specs.Option.{option_and_then}
use Rattle.std.specs.Prelude.{IfSome, slice_get}
use Rattle.std.proofs.lemmas.Bool.{cases_Bool, ltb-true}
use Rattle.std.proofs.lemmas.Option.{same_Some}
use Rattle.zb_ids.specs.Tids.{tid_after}
use Rattle.zb_model.specs.declared.data.Change.{Change}
use Rattle.zb_model.specs.declared.data.Content.{Content}
use Rattle.zb_model.specs.declared.data.Content.TheVariants.{Absent, Held}
use Rattle.zb_model.specs.declared.data.Transaction.{Transaction}
use Rattle.zb_model.specs.declared.pending.PendingStore.{PendingStore}
use Rattle.zb_model.specs.declared.refusal.Refusal.{Refusal}
use Rattle.zb_model.specs.declared.refusal.Refusal.TheVariants as refusal
use Rattle.zb_model.specs.Database.{ObjectRevision, is_below, newest_tid, revision_below, revisions}
use Rattle.zb_answers.specs.declared.answer.Answer.{Answer}
use Rattle.zb_answers.specs.declared.answer.Answer.TheVariants as answer
use Rattle.zb_script.specs.declared.line.Line.{Line}
use Rattle.zb_script.specs.declared.line.Line.TheVariants as line
use Rattle.zb_script.specs.declared.line.Turn.{Turn}
use Rattle.commit_phases.specs.Decision.{vote_decision}
use Rattle.commit_phases.specs.Pending.{PendingChanges, excess_with, pending_of}
use Rattle.tree_attempts.specs.declared.operation.TreeAnswer.{TreeAnswer}
use Rattle.tree_attempts.specs.declared.operation.TreeAnswer.TheVariants as answered
use Rattle.zodb_core.specs.declared.reply.Reply.{Reply}
use Rattle.zodb_core.specs.declared.reply.Reply.TheVariants as reply
use Rattle.zodb_core.specs.declared.request.Request.{Request}
use Rattle.zodb_core.specs.declared.request.Request.TheVariants as request
use Rattle.zodb_core.specs.declared.texts.Texts.{Texts}
use Rattle.zodb_core.specs.Machine.{Machine, MachineVote, Rules, session_limit}
use Rattle.zodb_core.specs.Outcomes.{EndsFor, FaultCounts, is_pack, outcome_of}
use Rattle.zodb_core.specs.StepCases.{PackCases, by_pack_step}
use Rattle.zodb_core.specs.Steps.{Stepped, changes_in_journal, early_refusal, finish_gives, finish_step, journal_limit, replied_refusal, request_step, step_of, transaction_with, unless_early, vote_at, vote_counted, vote_step, with_vote}
use Rattle.connection_view.specs.Connections.{waiting_read}
use Rattle.client_turns.specs.Clients.{Changes, Client, Linked, Local, Moment, OpenTransaction, Standing, changes_of, place_of_client}
use Rattle.client_turns.specs.Frames.{HasFitted}
use Rattle.client_turns.specs.Laws.{IsHeldBelow, IsReadBelow}
use Rattle.client_turns.specs.Lines.{answer_of, answer_to, asking_excess, data_of, is_delivery, object_of, put, request_of, rolled_to, step_answer, store_unless}
use Rattle.client_turns.specs.Reads.{EndsReading}
use Rattle.client_turns.specs.Refusing.{connection_refusal}
use Rattle.client_turns.specs.DrawLaws.{tree_answer}
use Rattle.client_turns.specs.Trees.{answer_told}
use Rattle.client_turns.specs.TurnLaws.{IsOpeningAnswer, Opens, as_opened, as_refused, by_name, read_current, request_cases, step_cases}
use Rattle.client_turns.specs.Turns.{IsGet, IsLineOf, IsLineTaken, IsLineUnless, IsOutside, IsOwnLine, IsPut, IsStepLine, IsStepUnless, IsTurn, IsWithin, opened, opened_if}
use Rattle.connection_view.specs.Views.{View, read_as, read_from}

-- ---- no line's request loads

abbrev pub is_loaded : Reply → Bool
is_loaded (reply.Loaded serial bytes end upto) = true
is_loaded (reply.Nothing oid switches) = true
is_loaded _ = false

abbrev Unread : Stepped → Type 0
Unread s = is_loaded s.reply ≡ false

at_unread : (m : Machine) (n : ℕ) (texts : Texts) (changes : List Change) (tid : ℕ) → Unread (vote_at m n texts changes tid)
at_unread m n texts changes tid = by_cases (nat_lt tid (2 ^ 64 - 1))
  where
    by_cases : (b : Bool) → Unread (cond b (record { reply = reply.Voted; machine = with_vote m n (Some (transaction_with tid texts changes)); ticks = true }) (record { reply = reply.Refused refusal.TidsSpent; machine = m; ticks = true }))
    by_cases true = refl
    by_cases false = refl

counted_unread : (m : Machine) (n : ℕ) (texts : Texts) (changes : List Change) (stamp count : ℕ) → Unread (vote_counted m n texts changes stamp count)
counted_unread m n texts changes stamp count = by_cases (nat_lt journal_limit count) (at_unread m n texts changes (tid_after (newest_tid m.list) stamp))
  where
    by_cases : (b : Bool) → Unread (vote_at m n texts changes (tid_after (newest_tid m.list) stamp))
        → Unread (cond b (replied_refusal m (refusal.JournalFull count)) (vote_at m n texts changes (tid_after (newest_tid m.list) stamp)))
    by_cases true rest = refl
    by_cases false rest = rest

vote_unread : (m : Machine) (n : ℕ) (texts : Texts) (stamp : ℕ) (decided : Result (List Change) Refusal) → Unread (vote_step m n texts stamp decided)
vote_unread m n texts stamp (Err r) = refl
vote_unread m n texts stamp (Ok []) = refl
vote_unread m n texts stamp (Ok (c ∷ changes)) = counted_unread m n texts (c ∷ changes) stamp (changes_in_journal m.journal + length (c ∷ changes))

finish_unread : (m : Machine) (n : ℕ) (vote : Option MachineVote) → Unread (finish_step m n vote)
finish_unread m n None = refl
finish_unread m n (Some v) = by_writes v.writes
  where
    by_writes : (w : Option Transaction) → Unread (finish_gives m n w)
    by_writes None = refl
    by_writes (Some t) = refl

pack_unread : (named : List ℕ → Option (List ℕ)) (m : Machine) (n : ℕ) (q : Request) → PackCases Unread named m n q
pack_unread named m n q = record {
  refused = λ r answers. refl;
  begun = λ t collects none below. refl;
  marking = λ p count there. refl;
  marked = λ p there none. refl;
  copying = λ p k copied count there copying. refl;
  copied = λ p k copied count there copying. refl;
  lost = λ r answers. refl;
  packed = λ g goal free below. refl;
}

abbrev pub AsksNoLoad : Request → Type 0
AsksNoLoad (request.LoadBefore oid front) = ⊥
AsksNoLoad _ = Unit {0}

request_unread : (rules : Rules) (m : Machine) (n : ℕ) (q : Request) (stamp : ℕ) → AsksNoLoad q → is_pack q ≡ false → Unread (request_step rules m n q stamp)
request_unread rules m n (request.LoadBefore oid front) stamp not unpacked = absurd not
request_unread rules m n (request.Vote user description extension pending) stamp not unpacked =
    vote_unread m n (record { user = user; description = description; extension = extension }) stamp (vote_decision rules.merging m.list pending)
request_unread rules m n (request.Undo user description tids) stamp not unpacked =
    vote_unread m n (record { user = user; description = description; extension = [] }) stamp _
request_unread rules m n request.Finish stamp not unpacked = finish_unread m n m.vote
request_unread rules m n (request.Pack tid collects) stamp not unpacked = absurd cc
request_unread rules m n (request.PackBegin tid collects) stamp not unpacked = absurd cc
request_unread rules m n request.PackTurn stamp not unpacked = absurd cc
request_unread rules m n _ stamp not unpacked = refl

unless_unread : (early : Option Refusal) (m : Machine) (made : Stepped) → Unread made → Unread (unless_early early m made)
unless_unread None m made unread = unread
unless_unread (Some r) m made unread = refl

pub step_unread : (rules : Rules) (m : Machine) (n : ℕ) (q : Request) (stamp : ℕ) → AsksNoLoad q → Unread (step_of rules m n q stamp)
step_unread rules m n q stamp not =
    ⊎_elim (λ (pack : is_pack q ≡ true). by_pack_step Unread rules m n q stamp pack (pack_unread rules.named m n q))
    (λ (unpacked : is_pack q ≡ false). unless_unread (early_refusal m n q) m (request_step rules m n q stamp) (request_unread rules m n q stamp not unpacked))
    (cases_Bool (is_pack q))

-- ---- data

abbrev is_data : Answer → Bool
is_data (answer.Data serial bytes) = true
is_data _ = false

reply_data : (rules : Rules) (m : Machine) (n : ℕ) (q : Request) (stamp : ℕ) (r : Reply) (left : Machine) (ticks : Bool) (a b : FaultCounts) → AsksNoLoad q
    → EndsFor rules m n q stamp (record { reply = r; machine = left; ticks = ticks }) a b (outcome_of r) → is_data (answer_of r) ≡ false
reply_data rules m n q stamp (reply.Loaded serial bytes end upto) left ticks a b not made =
    ap (λ (s : Stepped). is_loaded s.reply) made ∙ step_unread rules m n q stamp not
reply_data rules m n q stamp _ left ticks a b not made = refl

pub asks_no_load : (s : Standing) (ch : Option Changes) (l : Line) (q : Request) → request_of s ch l ≡ Some q → AsksNoLoad q
asks_no_load s ch l q is = request_cases AsksNoLoad s ch l q tt tt (λ user description. tt) (λ user description tids. tt) tt tt (λ oid. tt) tt (λ tid collect. tt) (λ tid collect. tt) tt tt is

store_data : (t : Changes) (p : PendingStore) (o : Option ℕ) → is_data (store_unless t p o).answer ≡ false
store_data t p None = refl
store_data t p (Some n) = refl

rolled_data : (t : Changes) (number : ℕ) (o : Option PendingChanges) → is_data (rolled_to t number o).answer ≡ false
rolled_data t number None = refl
rolled_data t number (Some pending) = refl

told_data : (x : TreeAnswer) → is_data (answer_told x) ≡ false
told_data (answered.Value None) = refl
told_data (answered.Value (Some value)) = refl
told_data answered.Set = refl
told_data (answered.Removed true) = refl
told_data (answered.Removed false) = refl
told_data (answered.Items list is_set) = refl

object_data : (r : Result (ℕ × List ℕ) Refusal) → is_data (object_of r) ≡ false
object_data (Ok got) = refl
object_data (Err why) = refl

get_data : (m now : Moment) (v : OpenTransaction) (oid : ℕ) (o : Option PendingStore) (a : Answer) → IsGet m v oid o a now → is_data a ≡ false
get_data m now v oid None a is = ap is_data is.2 ∙ object_data is.0
get_data m now v oid (Some p) a is = ap is_data is.0 ∙ object_data (waiting_read oid p)

put_data : (t : Changes) (oid : ℕ) (bytes : List ℕ) (read : Result (ℕ × List ℕ) Refusal) → is_data (put t oid bytes read).answer ≡ false
put_data t oid bytes (Ok got) = store_data t (record { oid = oid; base = got.0; content = Held bytes }) (excess_with t.pending.stores (record { oid = oid; base = got.0; content = Held bytes }))
put_data t oid bytes (Err (refusal.Missing a0 false)) = store_data t (record { oid = oid; base = 0; content = Held bytes }) (excess_with t.pending.stores (record { oid = oid; base = 0; content = Held bytes }))
put_data t oid bytes (Err _) = refl

putting_data : (m now : Moment) (at : ℕ) (c : Client) (t : OpenTransaction) (oid : ℕ) (bytes : List ℕ) (o : Option PendingStore) (a : Answer) → IsPut m at c t oid bytes o a now → is_data a ≡ false
putting_data m now at c t oid bytes None a is = ap is_data is.3.0 ∙ put_data t.changes oid bytes is.0
putting_data m now at c t oid bytes (Some p) a is =
    ap is_data is.0 ∙ store_data t.changes (record { oid = oid; base = p.base; content = Held bytes }) (excess_with t.changes.pending.stores (record { oid = oid; base = p.base; content = Held bytes }))

-- ---- the revision

last_true : (front : ℕ) (d : Option ObjectRevision) (rs : List ObjectRevision) (r : ObjectRevision) → IfSome d (λ x. x.serial < front) → last_or d (filter (is_below front) rs) ≡ Some r → r.serial < front
last_true front None [] r first is = absurd cc
last_true front (Some x) [] r first is = omega (arith, first, ap (λ (y : ObjectRevision). y.serial) (same_Some x r is))
last_true front d (x ∷ rs) r first is = by_cases (ltb x.serial front) refl (last_true front (Some x) rs r) (last_true front d rs r first) is
  where
    by_cases : (b : Bool) → ltb x.serial front ≡ b → (x.serial < front → last_or (Some x) (filter (is_below front) rs) ≡ Some r → r.serial < front) → (last_or d (filter (is_below front) rs) ≡ Some r → r.serial < front)
        → last_or d (cond b (x ∷ filter (is_below front) rs) (filter (is_below front) rs)) ≡ Some r → r.serial < front
    by_cases true e taken left there = taken (ltb-true x.serial front e) there
    by_cases false e taken left there = left there

-- the revision that was read, of the one that there is
got_is : (r : ObjectRevision) (c : Content) (got : ℕ × List ℕ) → r.content ≡ c → read_as r.serial c ≡ Some got → r ≡ record { serial = got.0; content = Held got.1 }
got_is r Absent got content is = absurd cc
got_is r (Held bytes) got content is =
    let same : (r.serial, bytes) ≡ got = same_Some (r.serial, bytes) got is in
    ap (λ (c : Content). record r { content = c }) content ∙ ap (λ (g : ℕ × List ℕ). record { serial = g.0; content = Held g.1 }) same

pub held_is : (oid front : ℕ) (list : List Transaction) (o : Option ObjectRevision) (got : ℕ × List ℕ) → revision_below oid front list ≡ o → option_and_then read_from o ≡ Some got → IsHeldBelow oid front list got.0 got.1
held_is oid front list None got there is = absurd cc
held_is oid front list (Some r) got there is =
    let revision : r ≡ record { serial = got.0; content = Held got.1 } = got_is r r.content got refl is in
    record {
      below = omega (arith, last_true front None (revisions oid list) r tt there, ap (λ (x : ObjectRevision). x.serial) revision);
      revision = there ∙ ap (λ (x : ObjectRevision). Some x) revision;
    }

below_read : (far : Bool) (m : Machine) (v : View) (oid serial : ℕ) (bytes : List ℕ) (a b : FaultCounts) (result : Result (ℕ × List ℕ) Refusal) → EndsReading far m v oid a b result → answer.Data serial bytes ≡ data_of result → IsHeldBelow oid v.front v.list serial bytes
below_read far m v oid serial bytes a b (Err why) ends is = absurd cc
below_read far m v oid serial bytes a b (Ok got) ends is =
    let held : IsHeldBelow oid v.front v.list got.0 got.1 = held_is oid v.front v.list (revision_below oid v.front v.list) got refl (read_current far m v oid a b got ends) in
    let serials : serial ≡ got.0 = ap serial_in is in
    let texts : bytes ≡ got.1 = ap bytes_in is in
    subst (λ (x : ℕ). IsHeldBelow oid v.front v.list x bytes) (sym serials) (subst (λ (x : List ℕ). IsHeldBelow oid v.front v.list got.0 x) (sym texts) held)
  where
    serial_in : Answer → ℕ
    serial_in (answer.Data s b) = s
    serial_in _ = 0

    bytes_in : Answer → List ℕ
    bytes_in (answer.Data s b) = b
    bytes_in _ = []

-- ---- lines

-- of a line that reads in an open transaction
pub record ReadsWithin (t : OpenTransaction) (l : Line) (serial : ℕ) (bytes : List ℕ) : Type 0 where
  pub oid : ℕ
  pub line : l ≡ line.Load oid
  pub held : IsHeldBelow oid t.view.front t.view.list serial bytes
  pub whole : t.framed ≡ true → HasFitted (serial, bytes)

-- what was read over a link has fitted a frame
whole_read : (far : Bool) (m : Machine) (v : View) (oid serial : ℕ) (bytes : List ℕ) (a b : FaultCounts) (result : Result (ℕ × List ℕ) Refusal) → EndsReading far m v oid a b result → answer.Data serial bytes ≡ data_of result → far ≡ true → HasFitted (serial, bytes)
whole_read far m v oid serial bytes a b (Err why) ends is framed = absurd cc
whole_read false m v oid serial bytes a b (Ok got) ends is framed = absurd cc
whole_read true m v oid serial bytes a b (Ok got) ends is framed =
    let same : got ≡ (serial, bytes) = ap data_in (sym is) in
    subst HasFitted same ends.1
  where
    data_in : Answer → ℕ × List ℕ
    data_in (answer.Data s b) = (s, b)
    data_in _ = (0, [])

not_data : (X : Type 0) (a : Answer) → is_data a ≡ true → is_data a ≡ false → X
not_data X a is not = absurd cc

within_reads : (m now : Moment) (at : ℕ) (c : Client) (t : OpenTransaction) (l : Line) (serial : ℕ) (bytes : List ℕ) → IsWithin m at c t l (answer.Data serial bytes) now → ReadsWithin t l serial bytes
within_reads m now at c t (line.Load oid) serial bytes is =
    record { oid = oid; line = refl; held = below_read t.framed m.machine t.view oid serial bytes m.counts now.counts is.0 is.1.ends is.2; whole = whole_read t.framed m.machine t.view oid serial bytes m.counts now.counts is.0 is.1.ends is.2 }
within_reads m now at c t (line.Get oid) serial bytes is =
    not_data (ReadsWithin t (line.Get oid) serial bytes) (answer.Data serial bytes) refl (get_data m now t oid (pending_of t.changes.pending.stores oid) (answer.Data serial bytes) is)
within_reads m now at c t (line.Store oid base new) serial bytes is =
    not_data (ReadsWithin t (line.Store oid base new) serial bytes) (answer.Data serial bytes) refl
    (ap is_data is.0 ∙ store_data t.changes (record { oid = oid; base = base; content = Held new }) (excess_with t.changes.pending.stores (record { oid = oid; base = base; content = Held new })))
within_reads m now at c t (line.Put oid new) serial bytes is =
    not_data (ReadsWithin t (line.Put oid new) serial bytes) (answer.Data serial bytes) refl (putting_data m now at c t oid new (pending_of t.changes.pending.stores oid) (answer.Data serial bytes) is)
within_reads m now at c t (line.Rollback number) serial bytes is =
    not_data (ReadsWithin t (line.Rollback number) serial bytes) (answer.Data serial bytes) refl (ap is_data is.0 ∙ rolled_data t.changes number (slice_get t.changes.savepoints number))
within_reads m now at c t (line.Tree root call) serial bytes is =
    not_data (ReadsWithin t (line.Tree root call) serial bytes) (answer.Data serial bytes) refl (tree_answer (λ a. is_data a ≡ false) m at c t root call (answer.Data serial bytes) now told_data (λ why. refl) is)
within_reads m now at c t w serial bytes is = not_data (ReadsWithin t w serial bytes) (answer.Data serial bytes) refl (ap is_data is.0)

-- what a client's line reads
pub record ReadsAs (c : Client) (l : Line) (serial : ℕ) (bytes : List ℕ) : Type 0 where
  pub transaction : OpenTransaction
  pub begun : c.transaction ≡ Some transaction
  pub reads : ReadsWithin transaction l serial bytes

outside_reads : (m now : Moment) (at : ℕ) (c : Client) (s : Standing) (l : Line) (serial : ℕ) (bytes : List ℕ) → IsOutside m at c s (answer.Data serial bytes) now → ReadsAs c l serial bytes
outside_reads m now at c Local l serial bytes is = not_data (ReadsAs c l serial bytes) (answer.Data serial bytes) refl (ap is_data is.0)
outside_reads m now at c (Linked known) l serial bytes is = not_data (ReadsAs c l serial bytes) (answer.Data serial bytes) refl (ap is_data is.0)

own_reads : (m now : Moment) (at : ℕ) (c : Client) (t : Option OpenTransaction) (l : Line) (serial : ℕ) (bytes : List ℕ) → c.transaction ≡ t → IsOwnLine m at c t l (answer.Data serial bytes) now → ReadsAs c l serial bytes
own_reads m now at c None l serial bytes begun is = outside_reads m now at c c.standing l serial bytes is
own_reads m now at c (Some t) l serial bytes begun is = record { transaction = t; begun = begun; reads = within_reads m now at c t l serial bytes is }

delivered_data : (d : Bool) (r : Reply) → is_data (answer_to d r) ≡ is_data (answer_of r)
delivered_data false r = refl
delivered_data true (reply.Front front news switches) = refl
delivered_data true _ = refl

step_data : (s : Standing) (d : Bool) (r : Reply) → is_data (answer_of r) ≡ false → is_data (step_answer s d r) ≡ false
step_data s d r not = step_cases (λ a. is_data a ≡ false) s d r (λ n long. refl) (delivered_data d r ∙ not)

step_reads : (rules : Rules) (m now : Moment) (at : ℕ) (c : Client) (d : Bool) (q : Request) (l : Line) (serial : ℕ) (bytes : List ℕ) → AsksNoLoad q → IsStepLine rules m at c d q (answer.Data serial bytes) now → ReadsAs c l serial bytes
step_reads rules m now at c d q l serial bytes not is =
    not_data (ReadsAs c l serial bytes) (answer.Data serial bytes) refl
    (ap is_data is.answer ∙ step_data c.standing d is.reply (reply_data rules m.machine c.session q is.step.stamp is.reply is.behind.machine is.step.ticks m.counts is.behind.counts not is.step.made.cause))

long_reads : (rules : Rules) (m now : Moment) (at : ℕ) (c : Client) (d : Bool) (q : Request) (e : Option ℕ) (l : Line) (serial : ℕ) (bytes : List ℕ) → AsksNoLoad q → IsStepUnless rules m at c d q e (answer.Data serial bytes) now → ReadsAs c l serial bytes
long_reads rules m now at c d q None l serial bytes not is = step_reads rules m now at c d q l serial bytes not is
long_reads rules m now at c d q (Some n) l serial bytes not is = not_data (ReadsAs c l serial bytes) (answer.Data serial bytes) refl (ap is_data is.0)

taken_reads : (rules : Rules) (m now : Moment) (at : ℕ) (c : Client) (l : Line) (q : Option Request) (serial : ℕ) (bytes : List ℕ) → request_of c.standing (changes_of c) l ≡ q → IsLineTaken rules m at c l q (answer.Data serial bytes) now → ReadsAs c l serial bytes
taken_reads rules m now at c l (Some q) serial bytes asks is = long_reads rules m now at c (is_delivery l) q (asking_excess c.standing q) l serial bytes (asks_no_load c.standing (changes_of c) l q asks) is
taken_reads rules m now at c l None serial bytes asks is = own_reads m now at c c.transaction l serial bytes refl is

unless_reads : (rules : Rules) (m now : Moment) (at : ℕ) (c : Client) (l : Line) (r : Option Refusal) (serial : ℕ) (bytes : List ℕ) → IsLineUnless rules m at c l r (answer.Data serial bytes) now → ReadsAs c l serial bytes
unless_reads rules m now at c l (Some why) serial bytes is = not_data (ReadsAs c l serial bytes) (answer.Data serial bytes) refl (ap is_data is.0)
unless_reads rules m now at c l None serial bytes is = taken_reads rules m now at c l (request_of c.standing (changes_of c) l) serial bytes refl is

read_below_front : (m : Moment) (t : Turn) (at : ℕ) (c : Client) (serial : ℕ) (bytes : List ℕ) → place_of_client t.client m.clients ≡ Some at → slice_get m.clients at ≡ Some c → ReadsAs c t.line serial bytes → IsReadBelow m t serial bytes
read_below_front m t at c serial bytes place there reads = record {
  transaction = reads.transaction;
  oid = reads.reads.oid;
  line = reads.reads.line;
  has = record { at = at; client = c; place = place; there = there; begun = reads.begun };
  held = reads.reads.held;
  whole = reads.reads.whole;
}

line_of_reads : (rules : Rules) (m now : Moment) (at : Option ℕ) (t : Turn) (serial : ℕ) (bytes : List ℕ) → place_of_client t.client m.clients ≡ at → IsLineOf rules m at t.line (answer.Data serial bytes) now → IsReadBelow m t serial bytes
line_of_reads rules m now None t serial bytes place is = not_data (IsReadBelow m t serial bytes) (answer.Data serial bytes) refl (ap is_data is.0)
line_of_reads rules m now (Some at) t serial bytes place is =
    read_below_front m t at is.0 serial bytes place is.1 (unless_reads rules m now at is.0 t.line (connection_refusal m.machine is.0 t.line) serial bytes is.2)

opened_data : (m : Moment) (name : List ℕ) (s : Standing) (b : Bool) → is_data (opened_if b m name s).answer ≡ false
opened_data m name s true = refl
opened_data m name s false = refl

opening_reads : (rules : Rules) (m now : Moment) (t : Turn) (serial : ℕ) (bytes : List ℕ) → Opens rules m t.client (answer.Data serial bytes) now → IsReadBelow m t serial bytes
opening_reads rules m now t serial bytes is = by_answer is.answer
  where
    by_answer : IsOpeningAnswer rules (opened m t.client is.standing) (length m.machine.sessions) (answer.Data serial bytes) now → IsReadBelow m t serial bytes
    by_answer (as_opened same) =
        not_data (IsReadBelow m t serial bytes) (answer.Data serial bytes) refl (ap is_data same ∙ opened_data m t.client is.standing (nat_lt (length m.machine.sessions) session_limit))
    by_answer (as_refused why same refused) = not_data (IsReadBelow m t serial bytes) (answer.Data serial bytes) refl (ap is_data same)

pub loads_below : (rules : Rules) (m : Moment) (t : Turn) (last : Bool) (serial : ℕ) (bytes : List ℕ) (now : Moment) → IsTurn rules m t last (Ok (answer.Data serial bytes)) now → IsReadBelow m t serial bytes
loads_below rules m t last serial bytes now is =
    by_name rules m is.behind t.client t.line (answer.Data serial bytes) (IsReadBelow m t serial bytes) (opening_reads rules m is.behind t serial bytes) (line_of_reads rules m is.behind (place_of_client t.client m.clients) t serial bytes refl) is.line
