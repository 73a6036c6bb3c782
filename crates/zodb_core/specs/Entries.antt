-- Histories one entry longer, whose entry a session made, and how many sessions were opened. For the proofs of those who keep a history. Own.
use Rattle.std.proofs.Common.{◌≡◌, ◌≢◌, ℕ, ◌+◌, Bool, not, true, false, cond, List, [], ◌∷◌, ◌++◌, Option, Some, None, Result, Ok, Err, length, refl, sym, ap, ◌∙◌, subst, arith, true≢false}
use Rattle.std.specs.Prelude.{IsTrue, nat_lt, ◌^◌, ◌-◌}
use Rattle.zb_ids.specs.Tids.{tid_after}
use Rattle.zb_model.specs.declared.data.Change.{Change}
use Rattle.std.specs.Option.{option_or}
use Rattle.zb_model.specs.declared.found.Found.{Found}
use Rattle.zb_model.specs.declared.found.Found.TheVariants as found
use Rattle.zb_model.specs.declared.refusal.Refusal.{Refusal}
use Rattle.zb_model.specs.Database.{newest_tid}
use Rattle.commit_phases.specs.Decision.{vote_decision}
use Rattle.undo_records.specs.Undone.{undone_of}
use Rattle.zb_base.specs.Counts.{Rose}
use Rattle.zb_model.specs.declared.refusal.Refusal.TheVariants as refusal
use Rattle.zodb_core.specs.declared.reply.Reply.{Reply}
use Rattle.zodb_core.specs.declared.reply.Reply.TheVariants as reply
use Rattle.zodb_core.specs.declared.request.Request.{Request}
use Rattle.zodb_core.specs.declared.request.Request.TheVariants as request
use Rattle.zodb_core.specs.declared.texts.Texts.{Texts}
use Rattle.zodb_core.specs.History.{CountsGoOn, Entry, HistoriesGoOn, MachinesGoOn, Made, Opened, PrefixesAreLegal, StepsAreEntries, UnreadStepsAreOne, counts_behind, machine_behind}
use Rattle.zodb_core.specs.Laws.{FreeVotesAreServed, StepsHaveRoom}
use Rattle.zodb_core.specs.Machine.{Machine, Rules, holds_vote, is_open_in}
use Rattle.zodb_core.specs.Outcomes.{Answered, EndsFor, FaultCounts, IsStepMade, MayGoWrong, NoMemory, ReadingFailed, StepOutcome, StoreFailed, changes_store, machine_left, outcome_of}
use Rattle.zodb_core.specs.DecisionLaws.{IsDecidedSound, IsOfDecision, is_busy, is_spent, undo_decided, vote_decided}
use Rattle.zodb_core.specs.StepCases.{StepCases, by_step}
use Rattle.zodb_core.specs.Waiting.{needs_vote}
use Rattle.zodb_core.specs.Steps.{Stepped, busy_for, changes_in_journal, changes_undone, early_refusal, journal_limit, loaded, refuse_if, replied_refusal, request_step, step_of, transaction_with, unless_early, vote_at, vote_counted, vote_step, with_vote}

-- the session of an entry
abbrev pub session_of : Entry → ℕ
session_of (Opened n) = n
session_of (Made e) = e.session

abbrev pub openings_in_entry : Entry → ℕ
openings_in_entry (Opened n) = 1
openings_in_entry (Made e) = 0

-- how many sessions a history opens
abbrev pub openings_in : List Entry → ℕ
openings_in [] = 0
openings_in (e ∷ entries) = openings_in_entry e + openings_in entries

-- ---- one entry more

pub machine_more : MachinesGoOn
machine_more rules m [] e = refl
machine_more rules m (x ∷ entries) e = machine_more rules (machine_behind rules m x) entries e

pub counts_more : CountsGoOn
counts_more counts [] e = refl
counts_more counts (x ∷ entries) e = counts_more (counts_behind counts x) entries e

pub legal_more : HistoriesGoOn
legal_more rules m counts [] e legal next = (next, tt)
legal_more rules m counts (x ∷ entries) e legal next = (legal.0, legal_more rules (machine_behind rules m x) (counts_behind counts x) entries e legal.1 next)

pub openings_more : (entries : List Entry) (e : Entry) → openings_in (entries ++ e ∷ []) ≡ openings_in entries + openings_in_entry e
openings_more [] e = omega arith
openings_more (x ∷ entries) e = let again = openings_more entries e in omega arith

-- and what a legal history begins with is legal
pub legal_begins : PrefixesAreLegal
legal_begins rules m counts [] rest legal = tt
legal_begins rules m counts (e ∷ front) rest legal = (legal.0, legal_begins rules (machine_behind rules m e) (counts_behind counts e) front rest legal.1)

-- ---- a step that reads no clock is the same for every stamp

abbrev SameUnread : Stepped → Stepped → Type 0
SameUnread one other = one.ticks ≡ false → other ≡ one

at_reads : (m : Machine) (n : ℕ) (texts : Texts) (changes : List Change) (tid : ℕ) → (vote_at m n texts changes tid).ticks ≡ true
at_reads m n texts changes tid = by_cases (nat_lt tid (2 ^ 64 - 1))
  where
    by_cases : (c : Bool) → (cond {A = Stepped} c (record { reply = reply.Voted; machine = with_vote m n (Some (transaction_with tid texts changes)); ticks = true }) (record { reply = reply.Refused refusal.TidsSpent; machine = m; ticks = true })).ticks ≡ true
    by_cases true = refl
    by_cases false = refl

counted_unread : (m : Machine) (n : ℕ) (texts : Texts) (changes : List Change) (a b count : ℕ) → SameUnread (vote_counted m n texts changes a count) (vote_counted m n texts changes b count)
counted_unread m n texts changes a b count = by_cases (nat_lt journal_limit count)
  where
    by_cases : (c : Bool) → SameUnread
        (cond c (replied_refusal m (refusal.JournalFull count)) (vote_at m n texts changes (tid_after (newest_tid m.list) a)))
        (cond c (replied_refusal m (refusal.JournalFull count)) (vote_at m n texts changes (tid_after (newest_tid m.list) b)))
    by_cases true quiet = refl
    by_cases false quiet = absurd (true≢false (sym (at_reads m n texts changes (tid_after (newest_tid m.list) a)) ∙ quiet))

vote_unread : (m : Machine) (n : ℕ) (texts : Texts) (a b : ℕ) (decided : Result (List Change) Refusal) → SameUnread (vote_step m n texts a decided) (vote_step m n texts b decided)
vote_unread m n texts a b (Err r) quiet = refl
vote_unread m n texts a b (Ok []) quiet = refl
vote_unread m n texts a b (Ok (c ∷ changes)) quiet = counted_unread m n texts (c ∷ changes) a b (changes_in_journal m.journal + length (c ∷ changes)) quiet

request_unread : (rules : Rules) (m : Machine) (n : ℕ) (q : Request) (a b : ℕ) → SameUnread (request_step rules m n q a) (request_step rules m n q b)
request_unread rules m n request.Front a b quiet = refl
request_unread rules m n (request.LoadBefore oid front) a b quiet = refl
request_unread rules m n (request.NewOids count) a b quiet = refl
request_unread rules m n (request.Vote user description extension pending) a b quiet =
    vote_unread m n (record { user = user; description = description; extension = extension }) a b (vote_decision rules.merging m.list pending) quiet
request_unread rules m n (request.Undo user description tids) a b quiet =
    vote_unread m n (record { user = user; description = description; extension = [] }) a b (changes_undone m.list (undone_of rules.merging m.list tids)) quiet
request_unread rules m n request.Finish a b quiet = refl
request_unread rules m n request.Abort a b quiet = refl
request_unread rules m n (request.History oid) a b quiet = refl
request_unread rules m n request.UndoLog a b quiet = refl
request_unread rules m n (request.Pack tid collect) a b quiet = refl
request_unread rules m n (request.PackBegin tid collect) a b quiet = refl
request_unread rules m n request.PackTurn a b quiet = refl
request_unread rules m n request.Last a b quiet = refl
request_unread rules m n (request.Since tid changes) a b quiet = refl
request_unread rules m n request.Close a b quiet = refl

pub step_unread : UnreadStepsAreOne
step_unread rules m n q a b quiet = by_cases (early_refusal m n q) quiet
  where
    by_cases : (early : Option Refusal) → SameUnread (unless_early early m (request_step rules m n q a)) (unless_early early m (request_step rules m n q b))
    by_cases (Some r) quiet = refl
    by_cases None quiet = request_unread rules m n q a b quiet

-- so a step that was made and read none may be told with any number
pub made_unread : (rules : Rules) (m : Machine) (n : ℕ) (q : Request) (a b : ℕ) (made : Stepped) (before now : FaultCounts) → IsStepMade rules m n q a made before now → made.ticks ≡ false
    → IsStepMade rules m n q b made before now
made_unread rules m n q a b made before now is quiet = record {
  later = is.later;
  cause = cause (outcome_of made.reply) refl is.cause;
  left = is.left ∙ left (outcome_of made.reply) refl is.cause;
  ticks = λ ticks. absurd (off ticks);
  failed_ticks = λ failed. is.failed_ticks failed ∙ sym (ap (λ (s : Stepped). s.ticks) (step_unread rules m n q a b (sym (is.failed_ticks failed) ∙ quiet)));
}
  where
    off : IsTrue made.ticks → ⊥
    off ticks = true≢false (sym ticks ∙ quiet)

    cause : (o : StepOutcome) → outcome_of made.reply ≡ o → EndsFor rules m n q a made before now o → EndsFor rules m n q b made before now o
    cause Answered o ends = ends ∙ sym (step_unread rules m n q a b (sym (ap (λ (s : Stepped). s.ticks) ends) ∙ quiet))
    cause ReadingFailed o ends = ends
    cause NoMemory o ends = ends
    cause StoreFailed o ends =
        subst (λ (s : Stepped). MayGoWrong m n q (changes_store m n q s) × Rose before.others now.others)
        (sym (step_unread rules m n q a b (sym (is.failed_ticks o) ∙ quiet))) ends

    left : (o : StepOutcome) → outcome_of made.reply ≡ o → EndsFor rules m n q a made before now o → machine_left rules m n q a o ≡ machine_left rules m n q b o
    left Answered o ends = sym (ap (λ (s : Stepped). s.machine) (step_unread rules m n q a b (sym (ap (λ (s : Stepped). s.ticks) ends) ∙ quiet)))
    left ReadingFailed o ends = refl
    left NoMemory o ends = refl
    left StoreFailed o ends = refl

-- ---- the entry of a step

-- a step that was made leaves just what its entry says
with_left : (rules : Rules) (m : Machine) (n : ℕ) (q : Request) (stamp : ℕ) (r : Reply) (left : Machine) (ticks : Bool) (before now : FaultCounts)
    → IsStepMade rules m n q stamp (record { reply = r; machine = left; ticks = ticks }) before now
    → IsStepMade rules m n q stamp (record { reply = r; machine = machine_left rules m n q stamp (outcome_of r); ticks = ticks }) before now
with_left rules m n q stamp r left ticks before now is =
    subst (λ (x : Machine). IsStepMade rules m n q stamp (record { reply = r; machine = x; ticks = ticks }) before now) is.left is

pub steps_are_entries : StepsAreEntries
steps_are_entries rules m left n q false stamp r before now made read =
    let unread = made_unread rules m n q stamp 0 (record { reply = r; machine = left; ticks = false }) before now made refl in
    record { next = (with_left rules m n q 0 r left false before now unread, tt); leaves = unread.left }
steps_are_entries rules m left n q true stamp r before now made read =
    record { next = (with_left rules m n q stamp r left true before now made, read refl); leaves = made.left }

-- ---- what no step is answered

-- a step that was made and is answered is the machine's
pub answered_as : (rules : Rules) (m : Machine) (n : ℕ) (q : Request) (stamp : ℕ) (made : Stepped) (a b : FaultCounts) (o : StepOutcome) → o ≡ Answered → EndsFor rules m n q stamp made a b o → made ≡ step_of rules m n q stamp
answered_as rules m n q stamp made a b Answered is ends = ends
answered_as rules m n q stamp made a b ReadingFailed is ends = absurd cc
answered_as rules m n q stamp made a b NoMemory is ends = absurd cc
answered_as rules m n q stamp made a b StoreFailed is ends = absurd cc

abbrev IsNotSpent : Stepped → Type 0
IsNotSpent s = s.reply ≢ reply.Refused refusal.StepsSpent

ordinary_room : (r : Refusal) → is_spent r ≡ false → reply.Refused r ≡ reply.Refused refusal.StepsSpent → ⊥
ordinary_room r other is =
    let same : r ≡ refusal.StepsSpent = cc in
    true≢false (sym (ap is_spent same) ∙ other)

found_room : (m : Machine) (oid : ℕ) (f : Found) → loaded m oid f ≡ reply.Refused refusal.StepsSpent → ⊥
found_room m oid (found.Held serial bytes end) is = cc
found_room m oid (found.Absent serial) is = cc
found_room m oid found.Nothing is = cc

room_cases : (m : Machine) (n : ℕ) (q : Request) → StepCases IsNotSpent m n q
room_cases m n q = record {
  refused = λ r ordinary. ordinary_room r ordinary.2;
  full = λ count is. cc;
  spent = λ is. cc;
  told = λ is. cc;
  found = found_room m;
  numbers = λ count is. cc;
  nothing = λ is. cc;
  written = λ texts changes tid each later bounded is. cc;
  emptied = λ is. cc;
  committed = λ v t is writes e. cc;
  dropped = λ is. cc;
  listed = λ revisions is. cc;
  logged = λ lines is. cc;
  begun = λ is t collects none below e. cc;
  marking = λ is p count there e. cc;
  marked = λ is p keep there e. cc;
  copying = λ is p k copied count there copying e. cc;
  copied = λ is p k copied count there copying e. cc;
  lost = λ is r loses. ordinary_room r loses.2;
  packed = λ is t keep free below e. cc;
  last = λ is. cc;
  since = λ tid changes is. cc;
  closed = λ is. cc;
}

pub steps_have_room : StepsHaveRoom
steps_have_room rules m n q stamp made before now is spent =
    by_step IsNotSpent rules m n q stamp (room_cases m n q)
    (sym (ap (λ (s : Stepped). s.reply) (answered_as rules m n q stamp made before now (outcome_of made.reply) (ap outcome_of spent) is.cause)) ∙ spent)

abbrev IsBusyReply : ℕ → Stepped → Type 0
IsBusyReply holder s = s.reply ≡ reply.Refused (refusal.Busy holder)

at_free : (m : Machine) (n : ℕ) (texts : Texts) (changes : List Change) (tid holder : ℕ) → IsBusyReply holder (vote_at m n texts changes tid) → ⊥
at_free m n texts changes tid holder = by_cases (nat_lt tid (2 ^ 64 - 1))
  where
    by_cases : (c : Bool) → IsBusyReply holder (cond c (record { reply = reply.Voted; machine = with_vote m n (Some (transaction_with tid texts changes)); ticks = true }) (record { reply = reply.Refused refusal.TidsSpent; machine = m; ticks = true })) → ⊥
    by_cases true is = cc
    by_cases false is = cc

counted_free : (m : Machine) (n : ℕ) (texts : Texts) (changes : List Change) (stamp count holder : ℕ) → IsBusyReply holder (vote_counted m n texts changes stamp count) → ⊥
counted_free m n texts changes stamp count holder = by_cases (nat_lt journal_limit count)
  where
    by_cases : (c : Bool) → IsBusyReply holder (cond c (replied_refusal m (refusal.JournalFull count)) (vote_at m n texts changes (tid_after (newest_tid m.list) stamp))) → ⊥
    by_cases true is = cc
    by_cases false is = at_free m n texts changes (tid_after (newest_tid m.list) stamp) holder is

decision_free : (r : Refusal) (holder : ℕ) → IsOfDecision r → reply.Refused r ≡ reply.Refused (refusal.Busy holder) → ⊥
decision_free r holder decided is =
    let same : r ≡ refusal.Busy holder = cc in
    true≢false (sym (ap is_busy same) ∙ decided.3)

vote_free : (m : Machine) (n : ℕ) (texts : Texts) (stamp holder : ℕ) (premise : Type 0) (decided : Result (List Change) Refusal) → IsDecidedSound premise decided → IsBusyReply holder (vote_step m n texts stamp decided) → ⊥
vote_free m n texts stamp holder premise (Err r) once is = decision_free r holder once is
vote_free m n texts stamp holder premise (Ok []) once is = cc
vote_free m n texts stamp holder premise (Ok (c ∷ changes)) once is = counted_free m n texts (c ∷ changes) stamp (changes_in_journal m.journal + length (c ∷ changes)) holder is

unless_free : (open_now holds : Bool) (busy : Option Refusal) (m : Machine) (made : Stepped) (holder : ℕ) → (open_now ≡ true → busy ≡ None) → (IsBusyReply holder made → ⊥)
    → IsBusyReply holder (unless_early (option_or (refuse_if (not open_now) refusal.NotOpen) (option_or (refuse_if holds refusal.Voted) busy)) m made) → ⊥
unless_free false holds busy m made holder free served is = cc
unless_free true true busy m made holder free served is = cc
unless_free true false None m made holder free served is = served is
unless_free true false (Some r) m made holder free served is = let none = free refl in cc

step_free : (rules : Rules) (m : Machine) (n : ℕ) (q : Request) (stamp holder : ℕ) → needs_vote q ≡ true → (is_open_in m.sessions n ≡ true → busy_for n m.vote ≡ None) → IsBusyReply holder (step_of rules m n q stamp) → ⊥
step_free rules m n (request.Vote user description extension pending) stamp holder needs free is =
    unless_free (is_open_in m.sessions n) (holds_vote n m.vote) (busy_for n m.vote) m (request_step rules m n (request.Vote user description extension pending) stamp) holder free
    (vote_free m n (record { user = user; description = description; extension = extension }) stamp holder _ (vote_decision rules.merging m.list pending) (vote_decided rules.merging m.list pending)) is
step_free rules m n (request.Undo user description tids) stamp holder needs free is =
    unless_free (is_open_in m.sessions n) (holds_vote n m.vote) (busy_for n m.vote) m (request_step rules m n (request.Undo user description tids) stamp) holder free
    (vote_free m n (record { user = user; description = description; extension = [] }) stamp holder _ (changes_undone m.list (undone_of rules.merging m.list tids)) (undo_decided rules.merging m.list tids)) is
step_free rules m n request.Front stamp holder needs free is = cc
step_free rules m n (request.LoadBefore oid front) stamp holder needs free is = cc
step_free rules m n (request.NewOids count) stamp holder needs free is = cc
step_free rules m n request.Finish stamp holder needs free is = cc
step_free rules m n request.Abort stamp holder needs free is = cc
step_free rules m n (request.History oid) stamp holder needs free is = cc
step_free rules m n request.UndoLog stamp holder needs free is = cc
step_free rules m n (request.Pack tid collect) stamp holder needs free is = cc
step_free rules m n (request.PackBegin tid collect) stamp holder needs free is = cc
step_free rules m n request.PackTurn stamp holder needs free is = cc
step_free rules m n request.Last stamp holder needs free is = cc
step_free rules m n (request.Since tid changes) stamp holder needs free is = cc
step_free rules m n request.Close stamp holder needs free is = cc

pub free_votes_are_served : FreeVotesAreServed
free_votes_are_served rules m n q stamp made before now is needs free holder busy =
    step_free rules m n q stamp holder needs free
    (sym (ap (λ (s : Stepped). s.reply) (answered_as rules m n q stamp made before now (outcome_of made.reply) (ap outcome_of busy) is.cause)) ∙ busy)
