-- What turns leave of the list, and that it stays whole. For the proofs of those who follow turns.
use Rattle.std.proofs.Common.{Bool, Err, List, None, Ok, Option, Result, Some, [], ap, cond, false, length, nat_lt, refl, subst, suc, sym, true, zero, ℕ, ◌++◌, ◌+◌, ◌-◌, ◌^◌, ◌∙◌, ◌∷◌, ◌≡◌}
use Rattle.zb_ids.specs.declared.stamp.Stamp.{Stamp}
use Rattle.zb_ids.specs.Tids.{tid_after}
use Rattle.zb_model.specs.declared.data.Change.{Change}
use Rattle.zb_model.specs.declared.data.Transaction.{Transaction}
use Rattle.zb_model.specs.declared.pending.PendingStore.{PendingStore}
use Rattle.zb_model.specs.declared.refusal.Refusal.{Refusal}
use Rattle.zb_model.specs.Database.{newest_tid}
use Rattle.zb_answers.specs.declared.answer.Answer.{Answer}
use Rattle.zb_answers.specs.declared.answer.Answer.TheVariants as answer
use Rattle.zb_script.specs.declared.line.Line.{Line}
use Rattle.zb_script.specs.declared.line.Line.TheVariants as line
use Rattle.zb_script.specs.declared.line.Turn.{Turn}
use Rattle.commit_phases.specs.Pending.{pending_of}
use Rattle.zodb_core.specs.declared.reply.Reply.{Reply}
use Rattle.zodb_core.specs.declared.reply.Reply.TheVariants as reply
use Rattle.zb_model.specs.declared.refusal.Refusal.TheVariants as refusal
use Rattle.zodb_core.specs.declared.request.Request.{Request}
use Rattle.zodb_core.specs.declared.texts.Texts.{Texts}
use Rattle.zodb_core.specs.declared.request.Request.TheVariants as request
use Rattle.zodb_core.specs.Machine.{Machine, MachineVote, Rules, session_limit}
use Rattle.zodb_core.specs.Outcomes.{Answered, EndsFor, FaultCounts, NoMemory, ReadingFailed, StepOutcome, StoreFailed, is_pack, is_packed, machine_left, outcome_of, outcome_of_refusal}
use Rattle.zodb_core.specs.Laws.{IsPackedTo}
use Rattle.zodb_core.specs.Seen.{PackGoal, goal_of_open, pack_goal}
use Rattle.zodb_core.specs.SoundLaws.{left_within}
use Rattle.zodb_core.specs.StepCases.{StepCases, by_step, by_unanswered}
use Rattle.zodb_core.specs.Steps.{Stepped, changes_in_journal, early_refusal, journal_limit, replied_refusal, request_step, step_of, transaction_with, unless_early, vote_at, vote_step, with_vote}
use Rattle.zodb_core.specs.SwitchLaws.{packed_as_asked, turn_keeps_list}
use Rattle.zeo_serving.specs.MayLaws.{step_failed}
use Rattle.client_turns.specs.Clients.{Changes, Client, Linked, Local, Moment, OpenTransaction, Standing, changes_of, first_moment, place_of_client}
use Rattle.client_turns.specs.declared.errors.TurnError.TheVariants as error
use Rattle.client_turns.specs.Lines.{answer_of, answer_to, answering_excess, asking_excess, end_in, end_of, is_committed, is_delivery, pending_in, request_of, step_answer, unless_long}
use Rattle.client_turns.specs.Output.{FlaggedTurn, Out, TurnAnswer}
use Rattle.client_turns.specs.Refusing.{connection_refusal, opening_in}
use Rattle.client_turns.specs.Standing.{IsAhead}
use Rattle.client_turns.specs.Steps.{IsStepAt}
use Rattle.client_turns.specs.DrawLaws.{raised_same, tree_raised}
use Rattle.client_turns.specs.Trees.{IsRaised}
use Rattle.client_turns.specs.Turns.{IsAnswered, IsClosed, IsClosing, IsGet, IsLine, IsLineNamed, IsLineOf, IsLineTaken, IsFarOpening, IsLineUnless, IsOpening, IsOutside, IsOwnLine, IsPut, IsStepLine, IsStepUnless, IsTold, IsWithin, Opening, first_told, fronts_behind, opened, opened_far, opened_if}
use Rattle.connection_view.specs.Views.{View, current, view_of}
use Rattle.local_loads.specs.LocalLaws.{left_writes, votes_later}
use Rattle.client_turns.specs.Reads.{EndsReading}
use Rattle.connection_view.specs.Loading.{IsMissing}
use Rattle.client_turns.specs.Views.{server_of}

-- ---- the list behind a step

-- a list as it was, or with what was voted behind it
pub data KeepsOrVoted (m : Machine) (l : List Transaction) : Type 0 where
  kept : l ≡ m.list → KeepsOrVoted m l
  voted : (v : MachineVote) (t : Transaction) → m.vote ≡ Some v → v.writes ≡ Some t → l ≡ m.list ++ t ∷ [] → KeepsOrVoted m l

-- a list as it was, or packed
pub data KeepsOrPacked (rules : Rules) (m : Machine) (goal : Option PackGoal) (l : List Transaction) : Type 0 where
  unpacked : l ≡ m.list → KeepsOrPacked rules m goal l
  packed : IsPackedTo rules.named goal m.list l → KeepsOrPacked rules m goal l

-- what a request packs that names its tid
abbrev pub goal_named : ℕ → Bool → Machine → Option PackGoal
goal_named tid collects m = pack_goal (request.Pack tid collects) m.list None

-- the list behind a step: as it was; where it is a finish, maybe with what was voted behind it, and where it is a pack, or a turn of one, maybe packed
abbrev pub IsListLeft : Rules → Machine → Request → List Transaction → Type 0
IsListLeft rules m request.Finish l = KeepsOrVoted m l
IsListLeft rules m (request.Pack tid collects) l = KeepsOrPacked rules m (goal_named tid collects m) l
IsListLeft rules m request.PackTurn l = KeepsOrPacked rules m (goal_of_open m.pack) l
IsListLeft rules m _ l = l ≡ m.list

-- and so behind a line
abbrev pub IsListBehind : Rules → Machine → Line → List Transaction → Type 0
IsListBehind rules m line.Finish l = KeepsOrVoted m l
IsListBehind rules m (line.Pack tid collect) l = KeepsOrPacked rules m (goal_named tid collect m) l
IsListBehind rules m line.PackTurn l = KeepsOrPacked rules m (goal_of_open m.pack) l
IsListBehind rules m _ l = l ≡ m.list

finish_cases : (m : Machine) (n : ℕ) → StepCases (λ s. KeepsOrVoted m s.machine.list) m n request.Finish
finish_cases m n = record {
  refused = λ r is. kept refl;
  full = λ count. kept refl;
  spent = kept refl;
  told = kept refl;
  found = λ oid f. kept refl;
  numbers = λ count. kept refl;
  nothing = kept refl;
  written = λ texts changes tid each later bounded. kept refl;
  emptied = kept refl;
  committed = λ v t is writes. voted v t is writes refl;
  dropped = kept refl;
  listed = λ revisions. kept refl;
  logged = λ lines. kept refl;
  begun = λ is t collects none below. absurd cc;
  marking = λ is p count there. absurd cc;
  marked = λ is p keep there. absurd cc;
  copying = λ is p k copied count there copying. absurd cc;
  copied = λ is p k copied count there copying. absurd cc;
  lost = λ is r answers. absurd cc;
  packed = λ is t keep free below. absurd cc;
  last = kept refl;
  since = λ tid changes. kept refl;
  closed = kept refl;
}

pack_left : (rules : Rules) (m : Machine) (n : ℕ) (q : Request) (stamp : ℕ) → is_pack q ≡ true → KeepsOrPacked rules m (pack_goal q m.list (goal_of_open m.pack)) (step_of rules m n q stamp).machine.list
pack_left rules m n q stamp is = by_cases (is_packed (step_of rules m n q stamp).reply) refl
  where
    by_cases : (b : Bool) → is_packed (step_of rules m n q stamp).reply ≡ b → KeepsOrPacked rules m (pack_goal q m.list (goal_of_open m.pack)) (step_of rules m n q stamp).machine.list
    by_cases true done = packed (packed_as_asked rules m n q stamp done)
    by_cases false not = unpacked (turn_keeps_list rules m n q stamp is not)

early_same : (o : Option Refusal) (m : Machine) (made : Stepped) → made.machine.list ≡ m.list → (unless_early o m made).machine.list ≡ m.list
early_same None m made is = is
early_same (Some r) m made is = refl

at_kept : (m : Machine) (n : ℕ) (texts : Texts) (changes : List Change) (tid : ℕ) (b : Bool)
    → (cond {A = Stepped} b (record { reply = reply.Voted; machine = with_vote m n (Some (transaction_with tid texts changes)); ticks = true }) (record { reply = reply.Refused refusal.TidsSpent; machine = m; ticks = true })).machine.list ≡ m.list
at_kept m n texts changes tid true = refl
at_kept m n texts changes tid false = refl

counted_kept : (m : Machine) (n : ℕ) (texts : Texts) (changes : List Change) (tid count : ℕ) (b : Bool) → (cond {A = Stepped} b (replied_refusal m (refusal.JournalFull count)) (vote_at m n texts changes tid)).machine.list ≡ m.list
counted_kept m n texts changes tid count true = refl
counted_kept m n texts changes tid count false = at_kept m n texts changes tid (nat_lt tid (2 ^ 64 - 1))

vote_kept : (m : Machine) (n : ℕ) (texts : Texts) (stamp : ℕ) (decided : Result (List Change) Refusal) → (vote_step m n texts stamp decided).machine.list ≡ m.list
vote_kept m n texts stamp (Err r) = refl
vote_kept m n texts stamp (Ok []) = refl
vote_kept m n texts stamp (Ok (c ∷ changes)) =
    counted_kept m n texts (c ∷ changes) (tid_after (newest_tid m.list) stamp) (changes_in_journal m.journal + length (c ∷ changes)) (nat_lt journal_limit (changes_in_journal m.journal + length (c ∷ changes)))

pub step_left : (rules : Rules) (m : Machine) (n : ℕ) (q : Request) (stamp : ℕ) → IsListLeft rules m q (step_of rules m n q stamp).machine.list
step_left rules m n (request.Vote user description extension pending) stamp =
    early_same (early_refusal m n (request.Vote user description extension pending)) m (request_step rules m n (request.Vote user description extension pending) stamp)
    (vote_kept m n (record { user = user; description = description; extension = extension }) stamp _)
step_left rules m n (request.Undo user description tids) stamp =
    early_same (early_refusal m n (request.Undo user description tids)) m (request_step rules m n (request.Undo user description tids) stamp)
    (vote_kept m n (record { user = user; description = description; extension = [] }) stamp _)
step_left rules m n request.Finish stamp = by_step (λ s. KeepsOrVoted m s.machine.list) rules m n request.Finish stamp (finish_cases m n)
step_left rules m n (request.Pack tid collects) stamp = pack_left rules m n (request.Pack tid collects) stamp refl
step_left rules m n request.PackTurn stamp = pack_left rules m n request.PackTurn stamp refl
step_left rules m n w stamp = early_same (early_refusal m n w) m (request_step rules m n w stamp) refl

same_left : (rules : Rules) (m : Machine) (q : Request) (l : List Transaction) → l ≡ m.list → IsListLeft rules m q l
same_left rules m request.Finish l is = kept is
same_left rules m (request.Pack tid collects) l is = unpacked is
same_left rules m request.PackTurn l is = unpacked is
same_left rules m _ l is = is

left_left : (rules : Rules) (m : Machine) (n : ℕ) (q : Request) (stamp : ℕ) (o : StepOutcome) → IsListLeft rules m q (machine_left rules m n q stamp o).list
left_left rules m n q stamp Answered = step_left rules m n q stamp
left_left rules m n q stamp ReadingFailed = by_unanswered (λ x. IsListLeft rules m q x.list) q m (same_left rules m q m.list refl) (same_left rules m q m.list refl)
left_left rules m n q stamp NoMemory = by_unanswered (λ x. IsListLeft rules m q x.list) q m (same_left rules m q m.list refl) (same_left rules m q m.list refl)
left_left rules m n q stamp StoreFailed = same_left rules m q m.list refl

-- the list at a moment behind a step
pub step_at_left : (rules : Rules) (m : Moment) (n : ℕ) (q : Request) (r : Reply) (now : Moment) → IsStepAt rules m n q r now → IsListLeft rules m.machine q now.machine.list
step_at_left rules m n q r now step = subst (λ (x : Machine). IsListLeft rules m.machine q x.list) (sym step.made.left) (left_left rules m.machine n q step.stamp (outcome_of r))

-- ---- a machine that has not failed

left_whole : (rules : Rules) (m : Machine) (n : ℕ) (q : Request) (stamp : ℕ) (o : StepOutcome) → (o ≡ StoreFailed → ⊥) → (machine_left rules m n q stamp o).failed ≡ m.failed
left_whole rules m n q stamp Answered fine = step_failed rules m n q stamp
left_whole rules m n q stamp ReadingFailed fine = by_unanswered (λ x. x.failed ≡ m.failed) q m refl refl
left_whole rules m n q stamp NoMemory fine = by_unanswered (λ x. x.failed ≡ m.failed) q m refl refl
left_whole rules m n q stamp StoreFailed fine = absurd (fine refl)

step_at_whole : (rules : Rules) (m : Moment) (n : ℕ) (q : Request) (r : Reply) (now : Moment) → IsStepAt rules m n q r now → (outcome_of r ≡ StoreFailed → ⊥) → now.machine.failed ≡ m.machine.failed
step_at_whole rules m n q r now step fine = ap (λ (x : Machine). x.failed) step.made.left ∙ left_whole rules m.machine n q step.stamp (outcome_of r) fine

-- a front never fails the store
front_fine : (rules : Rules) (m : Machine) (n stamp : ℕ) (made : Stepped) (before now : FaultCounts) (o : StepOutcome) → EndsFor rules m n request.Front stamp made before now o → o ≡ StoreFailed → ⊥
front_fine rules m n stamp made before now StoreFailed ends is = absurd (false_true ends.0.one)
  where
    false_true : false ≡ true → ⊥
    false_true e = absurd cc
front_fine rules m n stamp made before now Answered ends is = absurd cc
front_fine rules m n stamp made before now ReadingFailed ends is = absurd cc
front_fine rules m n stamp made before now NoMemory ends is = absurd cc

told_whole : (rules : Rules) (b t : Moment) (n count : ℕ) → IsTold rules count b n t → t.machine.failed ≡ b.machine.failed
told_whole rules b t n zero told = ap (λ (x : Moment). x.machine.failed) told
told_whole rules b t n (suc count) (r, next, step, rest) =
    told_whole rules next t n count rest ∙ step_at_whole rules b n request.Front r next step (front_fine rules b.machine n step.stamp _ b.counts next.counts (outcome_of r) step.made.cause)

-- what is voted behind a step is later than the list there, and the open pack leaves its newest transaction whole
step_at_ahead : (rules : Rules) (m : Moment) (n : ℕ) (q : Request) (r : Reply) (now : Moment) → IsStepAt rules m n q r now → IsAhead m.machine → IsAhead now.machine
step_at_ahead rules m n q r now step ahead =
    subst IsAhead (sym step.made.left) (record {
      writes = left_writes rules m.machine n q step.stamp (outcome_of r) ahead.writes;
      within = left_within rules m.machine n q step.stamp (outcome_of r) (votes_later m.machine.list m.machine.vote ahead.writes) ahead.within;
    })

told_ahead : (rules : Rules) (b t : Moment) (n count : ℕ) → IsTold rules count b n t → IsAhead b.machine → IsAhead t.machine
told_ahead rules b t n zero told ahead = subst IsAhead (sym (ap (λ (x : Moment). x.machine) told)) ahead
told_ahead rules b t n (suc count) (r, next, step, rest) ahead = told_ahead rules next t n count rest (step_at_ahead rules b n request.Front r next step ahead)

pub told_list : (rules : Rules) (b t : Moment) (n count : ℕ) → IsTold rules count b n t → t.machine.list ≡ b.machine.list
told_list rules b t n zero told = ap (λ (x : Moment). x.machine.list) told
told_list rules b t n (suc count) (r, next, step, rest) = told_list rules next t n count rest ∙ step_at_left rules b n request.Front r next step

refused_fine : (why : Refusal) → end_of (answer.Refused why) ≡ None → outcome_of_refusal why ≡ StoreFailed → ⊥
refused_fine refusal.TidsSpent ends is = absurd cc
refused_fine _ ends is = absurd cc

pub reply_fine : (r : Reply) → end_of (answer_of r) ≡ None → outcome_of r ≡ StoreFailed → ⊥
reply_fine (reply.Refused why) ends is = refused_fine why ends is
reply_fine _ ends is = absurd cc

starved_in : (why : Refusal) → end_in why ≡ Some error.Memory → outcome_of_refusal why ≡ NoMemory
starved_in refusal.Memory is = refl
starved_in refusal.StoreFault is = absurd cc
starved_in _ is = absurd cc

-- a reply ends the run for want of memory only where it says so
pub starved_so : (r : Reply) → end_of (answer_of r) ≡ Some error.Memory → outcome_of r ≡ NoMemory
starved_so (reply.Refused why) is = starved_in why is
starved_so (reply.Nothing oid switches) is = absurd cc
starved_so _ is = absurd cc

-- ---- a line

same_behind : (rules : Rules) (m : Machine) (l : Line) (list : List Transaction) → list ≡ m.list → IsListBehind rules m l list
same_behind rules m line.Finish list is = kept is
same_behind rules m (line.Pack tid collect) list is = unpacked is
same_behind rules m line.PackTurn list is = unpacked is
same_behind rules m _ list is = is

pub same_request : (a b : Request) → Some a ≡ Some b → a ≡ b
same_request a b e = cc

-- what holds of each request that a line may make holds of the request of a line
pub request_cases : (P : Request → Type 0) (s : Standing) (ch : Option Changes) (l : Line) (q : Request) → P request.Front → P (request.NewOids 1) → ((user description : List ℕ) → P (request.Vote user description [] (pending_in ch)))
    → ((user description tids : List ℕ) → P (request.Undo user description tids)) → P request.Finish → P request.Abort → ((oid : ℕ) → P (request.History oid)) → P request.UndoLog → ((tid : ℕ) (collect : Bool) → P (request.Pack tid collect))
    → ((tid : ℕ) (collect : Bool) → P (request.PackBegin tid collect)) → P request.PackTurn → P request.Close → request_of s ch l ≡ Some q → P q
request_cases P Local ch line.Begin q front oids vote undo finish abort history log pack begins turn close is = subst P (same_request request.Front q is) front
request_cases P s ch line.Deliver q front oids vote undo finish abort history log pack begins turn close is = subst P (same_request request.Front q is) front
request_cases P s ch line.New q front oids vote undo finish abort history log pack begins turn close is = subst P (same_request (request.NewOids 1) q is) oids
request_cases P s ch (line.Vote user description) q front oids vote undo finish abort history log pack begins turn close is = subst P (same_request (request.Vote user description [] (pending_in ch)) q is) (vote user description)
request_cases P s ch (line.Undo user description tids) q front oids vote undo finish abort history log pack begins turn close is = subst P (same_request (request.Undo user description tids) q is) (undo user description tids)
request_cases P s ch line.Finish q front oids vote undo finish abort history log pack begins turn close is = subst P (same_request request.Finish q is) finish
request_cases P s ch line.Abort q front oids vote undo finish abort history log pack begins turn close is = subst P (same_request request.Abort q is) abort
request_cases P s ch (line.History oid) q front oids vote undo finish abort history log pack begins turn close is = subst P (same_request (request.History oid) q is) (history oid)
request_cases P s ch line.UndoLog q front oids vote undo finish abort history log pack begins turn close is = subst P (same_request request.UndoLog q is) log
request_cases P s ch (line.Pack tid collect) q front oids vote undo finish abort history log pack begins turn close is = subst P (same_request (request.Pack tid collect) q is) (pack tid collect)
request_cases P s ch (line.PackBegin tid collect) q front oids vote undo finish abort history log pack begins turn close is = subst P (same_request (request.PackBegin tid collect) q is) (begins tid collect)
request_cases P s ch line.PackTurn q front oids vote undo finish abort history log pack begins turn close is = subst P (same_request request.PackTurn q is) turn
request_cases P s ch line.Close q front oids vote undo finish abort history log pack begins turn close is = subst P (same_request request.Close q is) close
request_cases P s ch _ q front oids vote undo finish abort history log pack begins turn close is = absurd cc

-- what a step leaves is what its line leaves
asked_behind : (rules : Rules) (m : Machine) (s : Standing) (ch : Option Changes) (l : Line) (q : Request) (list : List Transaction) → request_of s ch l ≡ Some q → IsListLeft rules m q list → IsListBehind rules m l list
asked_behind rules m (Linked known) ch line.Begin q list asks left = absurd cc
asked_behind rules m Local ch line.Begin q list asks left = subst (λ (x : Request). IsListLeft rules m x list) (sym (same_request request.Front q asks)) left
asked_behind rules m s ch line.New q list asks left = subst (λ (x : Request). IsListLeft rules m x list) (sym (same_request (request.NewOids 1) q asks)) left
asked_behind rules m s ch (line.Vote user description) q list asks left = subst (λ (x : Request). IsListLeft rules m x list) (sym (same_request (request.Vote user description [] (pending_in ch)) q asks)) left
asked_behind rules m s ch (line.Undo user description tids) q list asks left = subst (λ (x : Request). IsListLeft rules m x list) (sym (same_request (request.Undo user description tids) q asks)) left
asked_behind rules m s ch line.Finish q list asks left = subst (λ (x : Request). IsListLeft rules m x list) (sym (same_request request.Finish q asks)) left
asked_behind rules m s ch line.Abort q list asks left = subst (λ (x : Request). IsListLeft rules m x list) (sym (same_request request.Abort q asks)) left
asked_behind rules m s ch line.Deliver q list asks left = subst (λ (x : Request). IsListLeft rules m x list) (sym (same_request request.Front q asks)) left
asked_behind rules m s ch (line.History oid) q list asks left = subst (λ (x : Request). IsListLeft rules m x list) (sym (same_request (request.History oid) q asks)) left
asked_behind rules m s ch line.UndoLog q list asks left = subst (λ (x : Request). IsListLeft rules m x list) (sym (same_request request.UndoLog q asks)) left
asked_behind rules m s ch (line.Pack tid collect) q list asks left = subst (λ (x : Request). IsListLeft rules m x list) (sym (same_request (request.Pack tid collect) q asks)) left
asked_behind rules m s ch (line.PackBegin tid collect) q list asks left = subst (λ (x : Request). IsListLeft rules m x list) (sym (same_request (request.PackBegin tid collect) q asks)) left
asked_behind rules m s ch line.PackTurn q list asks left = subst (λ (x : Request). IsListLeft rules m x list) (sym (same_request request.PackTurn q asks)) left
asked_behind rules m s ch line.Close q list asks left = subst (λ (x : Request). IsListLeft rules m x list) (sym (same_request request.Close q asks)) left
asked_behind rules m s ch _ q list asks left = absurd cc

-- what a line leaves: the list that it may leave, a store that has not failed, where the run goes on, and what is voted or being packed as it fits the list
pub record LeavesWhole (rules : Rules) (m : Moment) (l : Line) (now : Moment) (a : Answer) : Type 0 where
  pub list : IsListBehind rules m.machine l now.machine.list
  pub whole : end_of a ≡ None → m.machine.failed ≡ false → now.machine.failed ≡ false
  pub ahead : IsAhead m.machine → IsAhead now.machine

same_whole : (rules : Rules) (m : Moment) (l : Line) (now : Moment) (a : Answer) → now.machine ≡ m.machine → LeavesWhole rules m l now a
same_whole rules m l now a is = record {
  list = same_behind rules m.machine l now.machine.list (ap (λ (x : Machine). x.list) is);
  whole = λ ends whole. ap (λ (x : Machine). x.failed) is ∙ whole;
  ahead = λ ahead. subst IsAhead (sym is) ahead;
}

-- ---- openings

-- a front is answered with one, or refused
abbrev pub IsFrontReply : Reply → Type 0
IsFrontReply (reply.Front front news switches) = Unit {0}
IsFrontReply (reply.Refused why) = Unit {0}
IsFrontReply _ = ⊥

front_early : (o : Option Refusal) (m : Machine) (made : Stepped) → IsFrontReply made.reply → IsFrontReply (unless_early o m made).reply
front_early None m made is = is
front_early (Some r) m made is = tt

front_made : (rules : Rules) (m : Machine) (n stamp : ℕ) (made : Stepped) → made ≡ step_of rules m n request.Front stamp → IsFrontReply made.reply
front_made rules m n stamp made is = subst (λ (s : Stepped). IsFrontReply s.reply) (sym is) (front_early (early_refusal m n request.Front) m (request_step rules m n request.Front stamp) tt)

pub front_reply : (rules : Rules) (m : Moment) (n : ℕ) (r : Reply) (now : Moment) → IsStepAt rules m n request.Front r now → IsFrontReply r
front_reply rules m n (reply.Front front news switches) now step = tt
front_reply rules m n (reply.Refused why) now step = tt
front_reply rules m n r now step = front_made rules m.machine n step.stamp (record { reply = r; machine = now.machine; ticks = step.ticks }) step.made.cause

-- How the Front steps behind an opening were refused, so that it is: by the one behind this moment.
pub record IsOpeningRefused (rules : Rules) (opened_at : Moment) (n : ℕ) (why : Refusal) (now : Moment) : Type 0 where
  pub behind : Moment
  pub first : IsTold rules 1 opened_at n behind
  pub step : IsStepAt rules behind n request.Front (reply.Refused why) now

-- an opening's answer: its own, or the refusal of a Front step behind it
pub data IsOpeningAnswer (rules : Rules) (opening : Opening) (n : ℕ) (a : Answer) (now : Moment) : Type 0 where
  as_opened : a ≡ opening.answer → IsOpeningAnswer rules opening n a now
  as_refused : (why : Refusal) → a ≡ answer.Refused why → IsOpeningRefused rules opening.moment n why now → IsOpeningAnswer rules opening n a now

-- A client opens its session, and stands so; so many Front steps follow.
pub record Opens (rules : Rules) (m : Moment) (name : List ℕ) (a : Answer) (now : Moment) : Type 0 where
  pub standing : Standing
  pub is_new : (known : View) → standing ≡ Linked known → known ≡ view_of (server_of m.machine)
  pub count : ℕ
  pub fronts : IsTold rules count (opened m name standing).moment (length m.machine.sessions) now
  pub answer : IsOpeningAnswer rules (opened m name standing) (length m.machine.sessions) a now

never_linked : (known : View) → Local ≡ Linked known → ⊥
never_linked known is = absurd cc

same_known : (v w : View) → Linked v ≡ Linked w → w ≡ v
same_known v w is = cc

pub near_opens : (rules : Rules) (m : Moment) (name : List ℕ) (a : Answer) (now : Moment) → IsOpening m name a now → Opens rules m name a now
near_opens rules m name a now is = record {
  standing = Local;
  is_new = λ known linked. absurd (never_linked known linked);
  count = 0;
  fronts = ap (λ (o : Opening). o.moment) is;
  answer = as_opened (ap (λ (o : Opening). o.answer) is);
}

-- the second of its fronts tells what an opening over a link is answered
pub taken_answer : (rules : Rules) (m : Moment) (name : List ℕ) (a : Answer) (now between : Moment) (first second : Reply) → IsStepAt rules (opened_far m name).moment (length m.machine.sessions) request.Front first between
    → IsStepAt rules between (length m.machine.sessions) request.Front second now → IsFrontReply second → a ≡ first_told second (opened_far m name).answer
    → IsOpeningAnswer rules (opened_far m name) (length m.machine.sessions) a now
taken_answer rules m name a now between first (reply.Front front news switches) registers syncs told is = as_opened is
taken_answer rules m name a now between first (reply.Refused why) registers syncs told is = as_refused why is (record { behind = between; first = (first, between, registers, refl); step = syncs })
taken_answer rules m name a now between first _ registers syncs told is = absurd told

pub far_opens : (rules : Rules) (m : Moment) (name : List ℕ) (room : Bool) (a : Answer) (now : Moment) → IsFarOpening rules m name room a now → Opens rules m name a now
far_opens rules m name true a now is = record {
  standing = Linked (view_of (server_of m.machine));
  is_new = λ known linked. same_known (view_of (server_of m.machine)) known linked;
  count = 2;
  fronts = (is.first, is.between, is.registers, (is.second, now, is.syncs, refl));
  answer = taken_answer rules m name a now is.between is.first is.second is.registers is.syncs (front_reply rules is.between (length m.machine.sessions) is.second now is.syncs) is.answer;
}
far_opens rules m name false a now is = record {
  standing = Linked (view_of (server_of m.machine));
  is_new = λ known linked. same_known (view_of (server_of m.machine)) known linked;
  count = 0;
  fronts = ap (λ (o : Opening). o.moment) is;
  answer = as_opened (ap (λ (o : Opening). o.answer) is);
}

opened_list : (m : Moment) (name : List ℕ) (s : Standing) (b : Bool) → (opened_if b m name s).moment.machine.list ≡ m.machine.list
opened_list m name s true = refl
opened_list m name s false = refl

opened_whole : (m : Moment) (name : List ℕ) (s : Standing) (b : Bool) → (opened_if b m name s).moment.machine.failed ≡ m.machine.failed
opened_whole m name s true = refl
opened_whole m name s false = refl

opened_ahead : (m : Moment) (name : List ℕ) (s : Standing) (b : Bool) → IsAhead m.machine → IsAhead (opened_if b m name s).moment.machine
opened_ahead m name s true ahead = record { writes = ahead.writes; within = ahead.within }
opened_ahead m name s false ahead = ahead

opening_whole : (rules : Rules) (m : Moment) (l : Line) (now : Moment) (name : List ℕ) (a : Answer) → Opens rules m name a now → LeavesWhole rules m l now a
opening_whole rules m l now name a is = let room = nat_lt (length m.machine.sessions) session_limit in record {
  list = same_behind rules m.machine l now.machine.list (told_list rules (opened m name is.standing).moment now (length m.machine.sessions) is.count is.fronts ∙ opened_list m name is.standing room);
  whole = λ ends whole. told_whole rules (opened m name is.standing).moment now (length m.machine.sessions) is.count is.fronts ∙ opened_whole m name is.standing room ∙ whole;
  ahead = λ ahead. told_ahead rules (opened m name is.standing).moment now (length m.machine.sessions) is.count is.fronts (opened_ahead m name is.standing room ahead);
}

-- ---- lines that are no step

get_same : (m now : Moment) (v : OpenTransaction) (oid : ℕ) (o : Option PendingStore) (a : Answer) → IsGet m v oid o a now → now.machine ≡ m.machine
get_same m now v oid None a is = ap (λ (x : Moment). x.machine) is.1.rest
get_same m now v oid (Some p) a is = ap (λ (x : Moment). x.machine) is.1

put_same : (m now : Moment) (at : ℕ) (c : Client) (t : OpenTransaction) (oid : ℕ) (bytes : List ℕ) (o : Option PendingStore) (a : Answer) → IsPut m at c t oid bytes o a now → now.machine ≡ m.machine
put_same m now at c t oid bytes None a is = ap (λ (x : Moment). x.machine) is.3.1 ∙ ap (λ (x : Moment). x.machine) is.2.rest
put_same m now at c t oid bytes (Some p) a is = ap (λ (x : Moment). x.machine) is.1

within_raised : (m now : Moment) (at : ℕ) (c : Client) (t : OpenTransaction) (l : Line) (a : Answer) → IsWithin m at c t l a now → IsRaised m.machine now.machine
within_raised m now at c t (line.Load oid) a is = raised_same m.machine now.machine (ap (λ (x : Moment). x.machine) is.1.rest)
within_raised m now at c t (line.Get oid) a is = raised_same m.machine now.machine (get_same m now t oid (pending_of t.changes.pending.stores oid) a is)
within_raised m now at c t (line.Put oid bytes) a is = raised_same m.machine now.machine (put_same m now at c t oid bytes (pending_of t.changes.pending.stores oid) a is)
within_raised m now at c t (line.Tree root call) a is = tree_raised m at c t root call a now is
within_raised m now at c t _ a is = raised_same m.machine now.machine (ap (λ (x : Moment). x.machine) is.1)

pub outside_machine : (m now : Moment) (at : ℕ) (c : Client) (s : Standing) (a : Answer) → IsOutside m at c s a now → now.machine ≡ m.machine
outside_machine m now at c Local a is = ap (λ (x : Moment). x.machine) is.1
outside_machine m now at c (Linked known) a is = ap (λ (x : Moment). x.machine) is.1

-- a line that is no step leaves the machine with no lower greatest number, and else as it was
pub own_raised : (m now : Moment) (at : ℕ) (c : Client) (t : Option OpenTransaction) (l : Line) (a : Answer) → IsOwnLine m at c t l a now → IsRaised m.machine now.machine
own_raised m now at c None l a is = raised_same m.machine now.machine (outside_machine m now at c c.standing a is)
own_raised m now at c (Some t) l a is = within_raised m now at c t l a is

raised_whole : (rules : Rules) (m : Moment) (l : Line) (now : Moment) (a : Answer) → IsRaised m.machine now.machine → LeavesWhole rules m l now a
raised_whole rules m l now a raised = record {
  list = same_behind rules m.machine l now.machine.list (ap (λ (x : Machine). x.list) raised.is);
  whole = λ ends whole. ap (λ (x : Machine). x.failed) raised.is ∙ whole;
  ahead = λ ahead. subst IsAhead (sym raised.is) (record { writes = ahead.writes; within = ahead.within });
}

-- ---- reads

-- what is read is what the view has, wherever it came from
pub read_current : (far : Bool) (m : Machine) (v : View) (oid : ℕ) (before now : FaultCounts) (got : ℕ × List ℕ) → EndsReading far m v oid before now (Ok got) → current v oid ≡ Some got
read_current false m v oid before now got ends = ends
read_current true m v oid before now got ends = ends.0

-- an object is missing as the view says
pub read_missing : (far : Bool) (m : Machine) (v : View) (oid : ℕ) (before now : FaultCounts) (o : ℕ) (gone : Bool) → EndsReading far m v oid before now (Err (refusal.Missing o gone)) → (o ≡ oid) × IsMissing v (server_of m) oid gone
read_missing false m v oid before now o gone ends = ends
read_missing true m v oid before now o gone ends = ends

-- ---- what a step is answered

-- an answer that may not fit a frame tells of no failure, and of no commit
pub excess_answered : (s : Standing) (r : Reply) (n : ℕ) → answering_excess s r ≡ Some n → (outcome_of r ≡ Answered) × (end_of (answer_of r) ≡ None) × (is_committed r ≡ false)
excess_answered Local r n is = absurd cc
excess_answered (Linked known) (reply.Loaded serial bytes end upto) n is = (refl, refl, refl)
excess_answered (Linked known) (reply.History list) n is = (refl, refl, refl)
excess_answered (Linked known) (reply.UndoLog list) n is = (refl, refl, refl)
excess_answered (Linked known) (reply.Refused (refusal.Conflict oid base current why)) n is = (refl, refl, refl)
excess_answered (Linked known) _ n is = absurd cc

-- what holds of the answer of a step, and of TooLong where it may be too long, holds of what its line is answered
pub step_cases : (P : Answer → Type 0) (s : Standing) (d : Bool) (r : Reply) → ((n : ℕ) → answering_excess s r ≡ Some n → P (answer.Refused (refusal.TooLong n))) → P (answer_to d r) → P (step_answer s d r)
step_cases P s d r long fits = by_excess (answering_excess s r) refl
  where
    by_excess : (e : Option ℕ) → answering_excess s r ≡ e → P (unless_long e (answer_to d r))
    by_excess None is = fits
    by_excess (Some n) is = long n is

-- what a step is answered ends the run as its reply does
pub delivered_end : (d : Bool) (r : Reply) → end_of (answer_to d r) ≡ end_of (answer_of r)
delivered_end false r = refl
delivered_end true (reply.Front front news switches) = refl
delivered_end true _ = refl

pub told_end : (s : Standing) (d : Bool) (r : Reply) → end_of (step_answer s d r) ≡ end_of (answer_of r)
told_end s d r = step_cases (λ a. end_of a ≡ end_of (answer_of r)) s d r (λ n is. sym (excess_answered s r n is).1) (delivered_end d r)

step_line_whole : (rules : Rules) (m : Moment) (l : Line) (now : Moment) (at : ℕ) (c : Client) (d : Bool) (q : Request) (a : Answer) → request_of c.standing (changes_of c) l ≡ Some q → IsStepLine rules m at c d q a now → LeavesWhole rules m l now a
step_line_whole rules m l now at c d q a asks is = record {
  list = subst (IsListBehind rules m.machine l) (sym (ap (λ (x : Moment). x.machine.list) is.left ∙ told_list rules is.behind is.told c.session (fronts_behind (is_committed is.reply) c.standing) is.front))
      (asked_behind rules m.machine c.standing (changes_of c) l q is.behind.machine.list asks (step_at_left rules m c.session q is.reply is.behind is.step));
  whole = λ ends whole.
      ap (λ (x : Moment). x.machine.failed) is.left
      ∙ told_whole rules is.behind is.told c.session (fronts_behind (is_committed is.reply) c.standing) is.front
      ∙ step_at_whole rules m c.session q is.reply is.behind is.step (reply_fine is.reply (sym (ap end_of is.answer ∙ told_end c.standing d is.reply) ∙ ends))
      ∙ whole;
  ahead = λ ahead.
      subst IsAhead (sym (ap (λ (x : Moment). x.machine) is.left))
      (told_ahead rules is.behind is.told c.session (fronts_behind (is_committed is.reply) c.standing) is.front (step_at_ahead rules m c.session q is.reply is.behind is.step ahead));
}

step_unless_whole : (rules : Rules) (m now : Moment) (at : ℕ) (c : Client) (l : Line) (d : Bool) (q : Request) (e : Option ℕ) (a : Answer) → request_of c.standing (changes_of c) l ≡ Some q → IsStepUnless rules m at c d q e a now → LeavesWhole rules m l now a
step_unless_whole rules m now at c l d q None a asks is = step_line_whole rules m l now at c d q a asks is
step_unless_whole rules m now at c l d q (Some n) a asks is = same_whole rules m l now a (ap (λ (x : Moment). x.machine) is.1)

taken_whole : (rules : Rules) (m now : Moment) (at : ℕ) (c : Client) (l : Line) (q : Option Request) (a : Answer) → request_of c.standing (changes_of c) l ≡ q → IsLineTaken rules m at c l q a now → LeavesWhole rules m l now a
taken_whole rules m now at c l (Some q) a asks is = step_unless_whole rules m now at c l (is_delivery l) q (asking_excess c.standing q) a asks is
taken_whole rules m now at c l None a asks is = raised_whole rules m l now a (own_raised m now at c c.transaction l a is)

unless_whole : (rules : Rules) (m now : Moment) (at : ℕ) (c : Client) (l : Line) (r : Option Refusal) (a : Answer) → IsLineUnless rules m at c l r a now → LeavesWhole rules m l now a
unless_whole rules m now at c l (Some why) a is = same_whole rules m l now a (ap (λ (x : Moment). x.machine) is.1)
unless_whole rules m now at c l None a is = taken_whole rules m now at c l (request_of c.standing (changes_of c) l) a refl is

line_of_whole : (rules : Rules) (m now : Moment) (at : Option ℕ) (l : Line) (a : Answer) → IsLineOf rules m at l a now → LeavesWhole rules m l now a
line_of_whole rules m now None l a is = same_whole rules m l now a (ap (λ (x : Moment). x.machine) is.1)
line_of_whole rules m now (Some at) l a is = unless_whole rules m now at is.0 l (connection_refusal m.machine is.0 l) a is.2

named_by : (rules : Rules) (m now : Moment) (name : List ℕ) (l : Line) (a : Answer) (P : Type 0) (opens : Option Bool) → (Opens rules m name a now → P) → (IsLineOf rules m (place_of_client name m.clients) l a now → P) → IsLineNamed opens rules m name l a now → P
named_by rules m now name l a P (Some false) opening named is = opening (near_opens rules m name a now is)
named_by rules m now name l a P (Some true) opening named is = opening (far_opens rules m name (nat_lt (length m.machine.sessions) session_limit) a now is)
named_by rules m now name l a P None opening named is = named is

-- what holds of an opening and of each line of a client that has opened its session, or never did, holds of a line
pub by_name : (rules : Rules) (m now : Moment) (name : List ℕ) (l : Line) (a : Answer) (P : Type 0) → (Opens rules m name a now → P) → (IsLineOf rules m (place_of_client name m.clients) l a now → P) → IsLine rules m name l a now → P
by_name rules m now name l a P opening named is = named_by rules m now name l a P (opening_in l) opening named is

-- a line leaves a list that it may leave, and a store that has not failed, where the run goes on
pub line_whole : (rules : Rules) (m now : Moment) (name : List ℕ) (l : Line) (a : Answer) → IsLine rules m name l a now → LeavesWhole rules m l now a
line_whole rules m now name l a is = by_name rules m now name l a (LeavesWhole rules m l now a) (opening_whole rules m l now name a) (line_of_whole rules m now (place_of_client name m.clients) l a) is

-- ---- a turn

close_whole : (rules : Rules) (m now : Moment) (at : Option ℕ) → IsClosed rules m at now → (now.machine.list ≡ m.machine.list) × (now.machine.failed ≡ m.machine.failed)
close_whole rules m now None is = (ap (λ (x : Moment). x.machine.list) is, ap (λ (x : Moment). x.machine.failed) is)
close_whole rules m now (Some at) is =
    (step_at_left rules m is.1.0.session request.Close is.0 now is.1.2, step_at_whole rules m is.1.0.session request.Close is.0 now is.1.2 (reply_fine is.0 is.2))

closing_whole : (rules : Rules) (m now : Moment) (name : List ℕ) (last : Bool) → IsClosing rules m name last now → (now.machine.list ≡ m.machine.list) × (now.machine.failed ≡ m.machine.failed)
closing_whole rules m now name false is = (ap (λ (x : Moment). x.machine.list) is, ap (λ (x : Moment). x.machine.failed) is)
closing_whole rules m now name true is = close_whole rules m now (place_of_client name m.clients) is

closed_ahead : (rules : Rules) (m now : Moment) (at : Option ℕ) → IsClosed rules m at now → IsAhead m.machine → IsAhead now.machine
closed_ahead rules m now None is ahead = subst IsAhead (sym (ap (λ (x : Moment). x.machine) is)) ahead
closed_ahead rules m now (Some at) is ahead = step_at_ahead rules m is.1.0.session request.Close is.0 now is.1.2 ahead

closing_ahead : (rules : Rules) (m now : Moment) (name : List ℕ) (last : Bool) → IsClosing rules m name last now → IsAhead m.machine → IsAhead now.machine
closing_ahead rules m now name false is ahead = subst IsAhead (sym (ap (λ (x : Moment). x.machine) is)) ahead
closing_ahead rules m now name true is ahead = closed_ahead rules m now (place_of_client name m.clients) is ahead

-- an answered turn leaves a list that its line may leave, a store that has not failed, and what is voted or being packed as it fits the list
pub turn_whole : (rules : Rules) (m now : Moment) (t : Turn) (last : Bool) (a : Answer) → IsAnswered rules m t last a now → LeavesWhole rules m t.line now a
turn_whole rules m now t last a is =
    let line : LeavesWhole rules m t.line is.behind a = line_whole rules m is.behind t.client t.line a is.line in
    let closing : (now.machine.list ≡ is.behind.machine.list) × (now.machine.failed ≡ is.behind.machine.failed) = closing_whole rules is.behind now t.client last is.closing in
    record {
      list = subst (IsListBehind rules m.machine t.line) (sym closing.0) line.list;
      whole = λ ends whole. closing.1 ∙ line.whole ends whole;
      ahead = λ ahead. closing_ahead rules is.behind now t.client last is.closing (line.ahead ahead);
    }

-- ---- what is voted and being packed, at every moment of a run

-- before the first turn nothing is voted, and no pack is open
pub first_ahead : (list : List Transaction) (stamps : Option (List Stamp)) (counts : FaultCounts) → IsAhead (first_moment list stamps counts).machine
first_ahead list stamps counts = record { writes = tt; within = tt }

-- so what is voted at any moment that turns lead to is later than the list, and the open pack leaves its newest transaction whole
pub out_ahead : (rules : Rules) (m now : Moment) (turns : List FlaggedTurn) (out : List TurnAnswer) → Out rules m turns out now → IsAhead m.machine → IsAhead now.machine
out_ahead rules m now [] [] is ahead = subst IsAhead (sym (ap (λ (x : Moment). x.machine) is)) ahead
out_ahead rules m now [] (o ∷ out) is ahead = absurd is
out_ahead rules m now (t ∷ turns) [] is ahead = absurd is
out_ahead rules m now (t ∷ turns) (o ∷ out) is ahead =
    let turn : LeavesWhole rules m t.turn.line is.0 o.answer = turn_whole rules m is.0 t.turn t.is_last o.answer is.2 in
    out_ahead rules is.0 now turns out is.3 (turn.ahead ahead)
