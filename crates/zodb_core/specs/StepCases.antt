-- What a step may do: what holds of each of these holds of every step. For the proofs of those who follow the machine.
use Rattle.std.proofs.Common.{◌≡◌, ℕ, ◌+◌, ◌-◌, ◌^◌, ◌<◌, Bool, true, false, not, cond, ltb, List, [], ◌∷◌, length, Option, Some, None, Result, Ok, Err, refl, ap, subst, ◌∙◌, arith}
use Rattle.std.specs.Prelude.{nat_le, nat_lt, ◌==◌, if◌then◌else◌, drop, take}
use Rattle.std.specs.Option.{option_map_or, option_or}
use Rattle.std.specs.Ordering.{nat_cmp}
use Rattle.std.specs.FinSet.{FinSet, len}
use Rattle.std.proofs.lemmas.Bool.{leb-false, ltb-true}
use Rattle.zb_ids.specs.Tids.{tid_after}
use Rattle.zb_model.specs.declared.data.Change.{Change}
use Rattle.zb_model.specs.declared.data.Transaction.{Transaction}
use Rattle.zb_model.specs.declared.found.Found.{Found}
use Rattle.zb_model.specs.declared.lists.LogLine.{LogLine}
use Rattle.zb_model.specs.declared.lists.Revision.{Revision}
use Rattle.zb_model.specs.declared.refusal.Refusal.{Refusal}
use Rattle.zb_model.specs.declared.refusal.Refusal.TheVariants as refusal
use Rattle.zb_model.specs.Database.{IsDatabase, newest_tid}
use Rattle.zb_model.specs.Lists.{history_of, undo_log_of}
use Rattle.zb_model.specs.Packing.{packed_by}
use Rattle.zb_model.specs.Packs.{change_count, turn_from}
use Rattle.zb_model.specs.Queries.{found_below, pack_point}
use Rattle.commit_phases.specs.Decision.{vote_decision}
use Rattle.undo_records.specs.Undone.{undone_of}
use Rattle.pack_reach.specs.Late.{overtaken}
use Rattle.pack_reach.specs.Packed.{kept, marks_a_turn, packed, unread}
use Rattle.zodb_core.specs.declared.reply.Reply.TheVariants as reply
use Rattle.zodb_core.specs.declared.request.Request.{Request}
use Rattle.zodb_core.specs.declared.request.Request.TheVariants as request
use Rattle.zodb_core.specs.declared.texts.Texts.{Texts}
use Rattle.zodb_core.specs.DecisionLaws.{AnswersIfSome, IsDecidedSound, IsOrdinary, LosesPack, answers_or, ordinary_decision, undo_decided, vote_decided}
use Rattle.zodb_core.specs.Machine.{Machine, MachineVote, OpenPack, PackCopying, Rules, holds_vote, is_open_in}
use Rattle.zodb_core.specs.Outcomes.{Answered, NoMemory, ReadingFailed, StepOutcome, StoreFailed, failed, is_pack, machine_left, unanswered}
use Rattle.zodb_core.specs.Seen.{PackGoal, goal_of_open, goal_of_pack, pack_goal}
use Rattle.zodb_core.specs.Sound.{AreSoundChanges, IsWellFormedRequest, IsPackWithin}
use Rattle.zodb_core.specs.Steps.{Stepped, begin_refusal, begin_step, busy_for, busy_for_all, changes_in_journal, changes_undone, copied_step, copy_step, copying_reply, early_refusal, finish_gives, finish_step, front_step, journal_limit, last_step, loaded, mark_step, marked_step, marks_on, oids_step, pack_dropped, pack_refusal, pack_running, pack_step, pack_tid, packed_already, refuse_if, replied, replied_refusal, request_refusal, request_step, since_step, step_of, switch_step, switched, switches_next, transaction_with, turn_of_copying, turn_refusal, turn_step, unless_early, unless_overtaken, unless_unread, vote_at, vote_counted, vote_refusal, vote_step, with_commit, with_pack, with_vote, without_pack, without_session, without_vote}

-- each thing that a step of this session may do for a request, with its reply; what is written may be written where the list is a database and the request is as its type has it
pub record StepCases (P : Stepped → Type 0) (m : Machine) (n : ℕ) (q : Request) : Type 0 where
  pub refused : (r : Refusal) → IsOrdinary r → P (replied_refusal m r)
  pub full : (count : ℕ) → P (replied_refusal m (refusal.JournalFull count))
  pub spent : P (record { reply = reply.Refused refusal.TidsSpent; machine = m; ticks = true })
  pub told : P (front_step m n)
  pub found : (oid : ℕ) (f : Found) → P (replied m (loaded m oid f))
  pub numbers : (count : ℕ) → P (oids_step m count)
  pub nothing : P (replied (with_vote m n None) reply.Voted)
  pub written : (texts : Texts) (changes : List Change) (tid : ℕ) → (IsDatabase m.list × IsWellFormedRequest q → AreSoundChanges changes) → newest_tid m.list < tid → tid < 2 ^ 64 - 1
      → P (record { reply = reply.Voted; machine = with_vote m n (Some (transaction_with tid texts changes)); ticks = true })
  pub emptied : P (replied (record m { vote = None }) reply.Empty)
  pub committed : (v : MachineVote) (t : Transaction) → m.vote ≡ Some v → v.writes ≡ Some t → P (replied (with_commit m n t) (reply.Committed t.tid))
  pub dropped : P (replied (without_vote m n) reply.Aborted)
  pub listed : (revisions : List Revision) → P (replied m (reply.History revisions))
  pub logged : (lines : List LogLine) → P (replied m (reply.UndoLog lines))
  pub begun : is_pack q ≡ true → (t : ℕ) (collects : Bool) → m.pack ≡ None → t < newest_tid m.list → P (begin_step m n t collects)
  pub marking : is_pack q ≡ true → (p : OpenPack) (count : ℕ) → m.pack ≡ Some p → P (replied (with_pack m (record p { marked = count })) (reply.Marking count))
  pub marked : is_pack q ≡ true → (p : OpenPack) (keep : FinSet nat_cmp) → m.pack ≡ Some p
      → P (replied (with_pack m (record p { marked = len keep; copying = Some (record { kept = keep; began = length m.list; copied = 0; is_whole = false }) })) (reply.Marked (len keep)))
  pub copying : is_pack q ≡ true → (p : OpenPack) (k : PackCopying) (copied count : ℕ) → m.pack ≡ Some p → p.copying ≡ Some k
      → P (replied (with_pack m (record p { copying = Some (record k { copied = copied; is_whole = false }) })) (reply.Copying count))
  pub copied : is_pack q ≡ true → (p : OpenPack) (k : PackCopying) (copied count : ℕ) → m.pack ≡ Some p → p.copying ≡ Some k
      → P (replied (with_pack m (record p { copying = Some (record k { copied = copied; is_whole = true }) })) (reply.Copied count))
  pub lost : is_pack q ≡ true → (r : Refusal) → LosesPack r → P (pack_dropped m r)
  pub packed : is_pack q ≡ true → (t : ℕ) (keep : FinSet nat_cmp) → m.vote ≡ None → (IsPackWithin m.list m.pack → t < newest_tid m.list) → P (switched m t (packed_by t keep m.list))
  pub last : P (last_step m)
  pub since : (tid changes : ℕ) → P (since_step m tid changes)
  pub closed : P (replied (without_session m n) reply.Closed)

-- and each thing that a request on a pack may do, where the list is packed just as the request or the open pack says
pub record PackCases (P : Stepped → Type 0) (named : List ℕ → Option (List ℕ)) (m : Machine) (n : ℕ) (q : Request) : Type 0 where
  pub refused : (r : Refusal) → IsOrdinary r → P (replied_refusal m r)
  pub begun : (t : ℕ) (collects : Bool) → m.pack ≡ None → t < newest_tid m.list → P (begin_step m n t collects)
  pub marking : (p : OpenPack) (count : ℕ) → m.pack ≡ Some p → P (replied (with_pack m (record p { marked = count })) (reply.Marking count))
  pub marked : (p : OpenPack) → m.pack ≡ Some p → p.copying ≡ None → P (marked_step named m p)
  pub copying : (p : OpenPack) (k : PackCopying) (copied count : ℕ) → m.pack ≡ Some p → p.copying ≡ Some k
      → P (replied (with_pack m (record p { copying = Some (record k { copied = copied; is_whole = false }) })) (reply.Copying count))
  pub copied : (p : OpenPack) (k : PackCopying) (copied count : ℕ) → m.pack ≡ Some p → p.copying ≡ Some k
      → P (replied (with_pack m (record p { copying = Some (record k { copied = copied; is_whole = true }) })) (reply.Copied count))
  pub lost : (r : Refusal) → LosesPack r → P (pack_dropped m r)
  pub packed : (g : PackGoal) → pack_goal q m.list (goal_of_open m.pack) ≡ Some g → m.vote ≡ None → (IsPackWithin m.list m.pack → g.tid < newest_tid m.list)
      → P (switched m g.tid (packed g.collects named g.tid m.list))

pub pack_part : (P : Stepped → Type 0) (named : List ℕ → Option (List ℕ)) (m : Machine) (n : ℕ) (q : Request) → is_pack q ≡ true → StepCases P m n q → PackCases P named m n q
pack_part P named m n q is cases = record {
  refused = cases.refused;
  begun = cases.begun is;
  marking = cases.marking is;
  marked = λ p there none. cases.marked is p (kept p.collects named p.tid m.list) there;
  copying = cases.copying is;
  copied = cases.copied is;
  lost = cases.lost is;
  packed = λ g goal free within. cases.packed is g.tid (kept g.collects named g.tid m.list) free within;
}

-- ---- the refusals that come at once

answers_if : (b : Bool) (r : Refusal) → IsOrdinary r → AnswersIfSome (refuse_if b r)
answers_if true r is = is
answers_if false r is = tt

busy_answers : (n : ℕ) (vote : Option MachineVote) → AnswersIfSome (busy_for n vote)
busy_answers n None = tt
busy_answers n (Some v) = answers_if (not (v.session == n)) (refusal.Busy v.session) (refl, refl, refl, refl)

vote_answers : (n : ℕ) (vote : Option MachineVote) → AnswersIfSome (vote_refusal n vote)
vote_answers n vote = answers_or (refuse_if (holds_vote n vote) refusal.Voted) (busy_for n vote) (answers_if (holds_vote n vote) refusal.Voted (refl, refl, refl, refl)) (busy_answers n vote)

running_answers : (pack : Option OpenPack) → AnswersIfSome (pack_running pack)
running_answers None = tt
running_answers (Some p) = (refl, refl, refl, refl)

held_answers : (vote : Option MachineVote) → AnswersIfSome (busy_for_all vote)
held_answers None = tt
held_answers (Some v) = (refl, refl, refl, refl)

pack_answers : (m : Machine) (tid : ℕ) → AnswersIfSome (pack_refusal m tid)
pack_answers m tid =
    answers_or (pack_running m.pack) (option_or (busy_for_all m.vote) (packed_already (pack_tid tid m.list) (pack_point m.list))) (running_answers m.pack)
    (answers_or (busy_for_all m.vote) (packed_already (pack_tid tid m.list) (pack_point m.list)) (held_answers m.vote)
    (answers_if (nat_le (pack_tid tid m.list) (pack_point m.list)) (refusal.PackedAlready (pack_point m.list)) (refl, refl, refl, refl)))

begin_answers : (m : Machine) (tid : ℕ) → AnswersIfSome (begin_refusal m tid)
begin_answers m tid =
    answers_or (pack_running m.pack) (packed_already (pack_tid tid m.list) (pack_point m.list)) (running_answers m.pack)
    (answers_if (nat_le (pack_tid tid m.list) (pack_point m.list)) (refusal.PackedAlready (pack_point m.list)) (refl, refl, refl, refl))

switch_answers : (b : Bool) (vote : Option MachineVote) → AnswersIfSome (if b then busy_for_all vote else None)
switch_answers true vote = held_answers vote
switch_answers false vote = tt

turn_answers : (m : Machine) (n : ℕ) (pack : Option OpenPack) → AnswersIfSome (turn_refusal m n pack)
turn_answers m n None = (refl, refl, refl, refl)
turn_answers m n (Some p) =
    answers_or (refuse_if (not (p.session == n)) (refusal.PackRunning p.session)) (if switches_next p then busy_for_all m.vote else None)
    (answers_if (not (p.session == n)) (refusal.PackRunning p.session) (refl, refl, refl, refl)) (switch_answers (switches_next p) m.vote)

request_answers : (m : Machine) (n : ℕ) (q : Request) → AnswersIfSome (request_refusal m n q)
request_answers m n request.Front = tt
request_answers m n (request.LoadBefore oid front) = tt
request_answers m n (request.NewOids count) = answers_if (nat_lt (2 ^ 64 - 1) (m.greatest + count)) refusal.OidsSpent (refl, refl, refl, refl)
request_answers m n (request.Vote user description extension pending) = vote_answers n m.vote
request_answers m n (request.Undo user description tids) = vote_answers n m.vote
request_answers m n request.Finish = answers_if (not (holds_vote n m.vote)) refusal.NotVoted (refl, refl, refl, refl)
request_answers m n request.Abort = tt
request_answers m n (request.History oid) = tt
request_answers m n request.UndoLog = tt
request_answers m n (request.Pack tid collect) = pack_answers m tid
request_answers m n (request.PackBegin tid collect) = begin_answers m tid
request_answers m n request.PackTurn = turn_answers m n m.pack
request_answers m n request.Last = tt
request_answers m n (request.Since tid changes) = tt
request_answers m n request.Close = tt

pub early_answers : (m : Machine) (n : ℕ) (q : Request) → AnswersIfSome (early_refusal m n q)
early_answers m n q =
    answers_or (refuse_if (not (is_open_in m.sessions n)) refusal.NotOpen) (request_refusal m n q)
    (answers_if (not (is_open_in m.sessions n)) refusal.NotOpen (refl, refl, refl, refl)) (request_answers m n q)

-- ---- the cases are all

above_newest : (newest stamp : ℕ) → newest < tid_after newest stamp
above_newest newest stamp = by_cases (ltb newest stamp) refl
  where
    by_cases : (b : Bool) → ltb newest stamp ≡ b → newest < cond b stamp (newest + 1)
    by_cases true e = ltb-true newest stamp e
    by_cases false e = omega arith

at_cases : (P : Stepped → Type 0) (m : Machine) (n : ℕ) (q : Request) (texts : Texts) (changes : List Change) (tid : ℕ) → StepCases P m n q
    → (IsDatabase m.list × IsWellFormedRequest q → AreSoundChanges changes) → newest_tid m.list < tid → P (vote_at m n texts changes tid)
at_cases P m n q texts changes tid cases once later = by_cases (ltb tid (2 ^ 64 - 1)) refl
  where
    by_cases : (b : Bool) → ltb tid (2 ^ 64 - 1) ≡ b
        → P (cond b (record { reply = reply.Voted; machine = with_vote m n (Some (transaction_with tid texts changes)); ticks = true }) (record { reply = reply.Refused refusal.TidsSpent; machine = m; ticks = true }))
    by_cases true e = cases.written texts changes tid once later (ltb-true tid (2 ^ 64 - 1) e)
    by_cases false e = cases.spent

counted_cases : (P : Stepped → Type 0) (m : Machine) (n : ℕ) (q : Request) (texts : Texts) (changes : List Change) (stamp count : ℕ) → StepCases P m n q
    → (IsDatabase m.list × IsWellFormedRequest q → AreSoundChanges changes) → P (vote_counted m n texts changes stamp count)
counted_cases P m n q texts changes stamp count cases once =
    by_cases (nat_lt journal_limit count) (at_cases P m n q texts changes (tid_after (newest_tid m.list) stamp) cases once (above_newest (newest_tid m.list) stamp))
  where
    by_cases : (b : Bool) → P (vote_at m n texts changes (tid_after (newest_tid m.list) stamp))
        → P (cond b (replied_refusal m (refusal.JournalFull count)) (vote_at m n texts changes (tid_after (newest_tid m.list) stamp)))
    by_cases true rest = cases.full count
    by_cases false rest = rest

vote_cases : (P : Stepped → Type 0) (m : Machine) (n : ℕ) (q : Request) (texts : Texts) (stamp : ℕ) (decided : Result (List Change) Refusal) → StepCases P m n q
    → IsDecidedSound (IsDatabase m.list × IsWellFormedRequest q) decided → P (vote_step m n texts stamp decided)
vote_cases P m n q texts stamp (Err r) cases once = cases.refused r (ordinary_decision r once)
vote_cases P m n q texts stamp (Ok []) cases once = cases.nothing
vote_cases P m n q texts stamp (Ok (c ∷ changes)) cases once =
    counted_cases P m n q texts (c ∷ changes) stamp (changes_in_journal m.journal + length (c ∷ changes)) cases once

writes_cases : (P : Stepped → Type 0) (m : Machine) (n : ℕ) (q : Request) (v : MachineVote) (writes : Option Transaction) → StepCases P m n q
    → m.vote ≡ Some v → v.writes ≡ writes → P (finish_gives m n writes)
writes_cases P m n q v None cases is writes = cases.emptied
writes_cases P m n q v (Some t) cases is writes = cases.committed v t is writes

finish_cases : (P : Stepped → Type 0) (m : Machine) (n : ℕ) (q : Request) (vote : Option MachineVote) → StepCases P m n q → m.vote ≡ vote → P (finish_step m n vote)
finish_cases P m n q None cases is = cases.refused refusal.NotVoted (refl, refl, refl, refl)
finish_cases P m n q (Some v) cases is = writes_cases P m n q v v.writes cases is refl

-- a pack that nothing refuses at once: no vote is held, and it goes further than an earlier one
no_refusal : (b : Bool) (r : Refusal) → refuse_if b r ≡ None → b ≡ false
no_refusal true r is = absurd cc
no_refusal false r is = refl

free_of : (pack : Option OpenPack) (vote : Option MachineVote) (t point : ℕ) → option_or (pack_running pack) (option_or (busy_for_all vote) (packed_already t point)) ≡ None → (vote ≡ None) × (point < t)
free_of (Some p) vote t point is = absurd cc
free_of None (Some v) t point is = absurd cc
free_of None None t point is = (refl, leb-false t point (no_refusal (nat_le t point) (refusal.PackedAlready point) is))

pub pack_free : (m : Machine) (tid : ℕ) → pack_refusal m tid ≡ None → (m.vote ≡ None) × (pack_tid tid m.list < newest_tid m.list)
pack_free m tid is =
    let both = free_of m.pack m.vote (pack_tid tid m.list) (pack_point m.list) is in
    (both.0, omega (arith, both.1))

-- so one that is begun
begun_of : (pack : Option OpenPack) (t point : ℕ) → option_or (pack_running pack) (packed_already t point) ≡ None → (pack ≡ None) × (point < t)
begun_of (Some p) t point is = absurd cc
begun_of None t point is = (refl, leb-false t point (no_refusal (nat_le t point) (refusal.PackedAlready point) is))

pub begin_free : (m : Machine) (tid : ℕ) → begin_refusal m tid ≡ None → (m.pack ≡ None) × (pack_tid tid m.list < newest_tid m.list)
begin_free m tid is =
    let both = begun_of m.pack (pack_tid tid m.list) (pack_point m.list) is in
    (both.0, omega (arith, both.1))

-- and where a turn is the switch no vote is held
no_vote : (vote : Option MachineVote) → busy_for_all vote ≡ None → vote ≡ None
no_vote None is = refl
no_vote (Some v) is = absurd cc

turn_of : (b : Bool) (r : Refusal) (whole : Bool) (vote : Option MachineVote) → option_or (refuse_if b r) (if whole then busy_for_all vote else None) ≡ None → whole ≡ true → vote ≡ None
turn_of true r whole vote is next = absurd cc
turn_of false r true vote is next = no_vote vote is
turn_of false r false vote is next = absurd cc

pub turn_free : (m : Machine) (n : ℕ) (p : OpenPack) (k : PackCopying) → turn_refusal m n (Some p) ≡ None → p.copying ≡ Some k → k.is_whole ≡ true → m.vote ≡ None
turn_free m n p k is copying whole =
    turn_of (not (p.session == n)) (refusal.PackRunning p.session) (switches_next p) m.vote is
    (ap (λ (o : Option PackCopying). option_map_or (λ (x : PackCopying). x.is_whole) o false) copying ∙ whole)

-- where the open pack goes less far than the newest transaction
pub within_of : (list : List Transaction) (pack : Option OpenPack) (p : OpenPack) → pack ≡ Some p → IsPackWithin list pack → p.tid < newest_tid list
within_of list pack p is within = subst (IsPackWithin list) is within

unread_cases : (P : Stepped → Type 0) (named : List ℕ → Option (List ℕ)) (m : Machine) (n : ℕ) (q : Request) (w : Option (ℕ × ℕ)) (next : Stepped) → PackCases P named m n q → P next → P (unless_unread m w next)
unread_cases P named m n q (Some w) next cases one = cases.lost (refusal.Unreadable w.0 w.1) (refl, refl, refl, refl)
unread_cases P named m n q None next cases one = one

overtaken_cases : (P : Stepped → Type 0) (named : List ℕ → Option (List ℕ)) (m : Machine) (n : ℕ) (q : Request) (w : Option (ℕ × ℕ)) (next : Stepped) → PackCases P named m n q → P next → P (unless_overtaken m w next)
overtaken_cases P named m n q (Some w) next cases one = cases.lost (refusal.Overtaken w.0 w.1) (refl, refl, refl, refl)
overtaken_cases P named m n q None next cases one = one

pack_cases : (P : Stepped → Type 0) (named : List ℕ → Option (List ℕ)) (m : Machine) (n tid : ℕ) (collect : Bool) → PackCases P named m n (request.Pack tid collect) → pack_refusal m tid ≡ None
    → P (pack_step named m (pack_tid tid m.list) collect)
pack_cases P named m n tid collect cases is =
    let both = pack_free m tid is in
    let t = pack_tid tid m.list in
    let goal : PackGoal = record { tid = t; collects = collect } in
    unread_cases P named m n (request.Pack tid collect) (unread collect named t m.list) (switched m t (packed collect named t m.list)) cases (cases.packed goal refl both.0 (λ within. both.1))

begin_cases : (P : Stepped → Type 0) (named : List ℕ → Option (List ℕ)) (m : Machine) (n tid : ℕ) (collect : Bool) → PackCases P named m n (request.PackBegin tid collect) → begin_refusal m tid ≡ None
    → P (begin_step m n (pack_tid tid m.list) collect)
begin_cases P named m n tid collect cases is =
    let both = begin_free m tid is in
    cases.begun (pack_tid tid m.list) collect both.0 both.1

mark_cases : (P : Stepped → Type 0) (named : List ℕ → Option (List ℕ)) (m : Machine) (n : ℕ) (p : OpenPack) → PackCases P named m n request.PackTurn → m.pack ≡ Some p → p.copying ≡ None → P (mark_step named m p)
mark_cases P named m n p cases there none =
    by_cases (marks_on p.collects named p.tid m.list p.marked) (unread_cases P named m n request.PackTurn (unread p.collects named p.tid m.list) (marked_step named m p) cases (cases.marked p there none))
  where
    by_cases : (b : Bool) → P (unless_unread m (unread p.collects named p.tid m.list) (marked_step named m p))
        → P (cond b (replied (with_pack m (record p { marked = p.marked + marks_a_turn })) (reply.Marking (p.marked + marks_a_turn))) (unless_unread m (unread p.collects named p.tid m.list) (marked_step named m p)))
    by_cases true rest = cases.marking p (p.marked + marks_a_turn) there
    by_cases false rest = rest

copy_cases : (P : Stepped → Type 0) (named : List ℕ → Option (List ℕ)) (m : Machine) (n : ℕ) (p : OpenPack) (k : PackCopying) (list : List Transaction) (copied : ℕ) → PackCases P named m n request.PackTurn
    → m.pack ≡ Some p → p.copying ≡ Some k → P (copied_step m p k list copied)
copy_cases P named m n p k list copied cases there copying = by_cases (nat_le (length list) copied)
  where
    count : ℕ
    count = change_count (take copied list)

    by_cases : (whole : Bool) → P (replied (with_pack m (record p { copying = Some (record k { copied = copied; is_whole = whole }) })) (copying_reply whole count))
    by_cases true = cases.copied p k copied count there copying
    by_cases false = cases.copying p k copied count there copying

switch_cases : (P : Stepped → Type 0) (named : List ℕ → Option (List ℕ)) (m : Machine) (n : ℕ) (p : OpenPack) (k : PackCopying) → PackCases P named m n request.PackTurn → m.pack ≡ Some p → m.vote ≡ None → P (switch_step named m p k)
switch_cases P named m n p k cases there free =
    let late = overtaken p.collects named k.kept p.tid (take k.began m.list) (drop k.began m.list) in
    let done = switched m p.tid (packed p.collects named p.tid m.list) in
    unread_cases P named m n request.PackTurn (unread p.collects named p.tid m.list) (unless_overtaken m late done) cases
    (overtaken_cases P named m n request.PackTurn late done cases (cases.packed (goal_of_pack p) (ap goal_of_open there) free (within_of m.list m.pack p there)))

copying_cases : (P : Stepped → Type 0) (named : List ℕ → Option (List ℕ)) (m : Machine) (n : ℕ) (p : OpenPack) (copying : Option PackCopying) → PackCases P named m n request.PackTurn → m.pack ≡ Some p → p.copying ≡ copying
    → turn_refusal m n (Some p) ≡ None → P (turn_of_copying named m p copying)
copying_cases P named m n p None cases there copying free = mark_cases P named m n p cases there copying
copying_cases P named m n p (Some k) cases there copying free = by_cases k.is_whole refl
  where
    by_cases : (b : Bool) → k.is_whole ≡ b → P (cond b (switch_step named m p k) (copy_step m p k (packed_by p.tid k.kept m.list)))
    by_cases true whole = switch_cases P named m n p k cases there (turn_free m n p k free copying whole)
    by_cases false whole =
        let list = packed_by p.tid k.kept m.list in
        copy_cases P named m n p k list (k.copied + length (turn_from 0 (drop k.copied list))) cases there copying

turn_cases : (P : Stepped → Type 0) (named : List ℕ → Option (List ℕ)) (m : Machine) (n : ℕ) (pack : Option OpenPack) → PackCases P named m n request.PackTurn → m.pack ≡ pack → turn_refusal m n pack ≡ None
    → P (turn_step named m pack)
turn_cases P named m n None cases there free = absurd cc
turn_cases P named m n (Some p) cases there free = copying_cases P named m n p p.copying cases there refl free

-- what holds in each case of a request on a pack holds of what it does where nothing refuses it
packing_cases : (P : Stepped → Type 0) (rules : Rules) (m : Machine) (n : ℕ) (q : Request) (stamp : ℕ) → is_pack q ≡ true → PackCases P rules.named m n q → request_refusal m n q ≡ None → P (request_step rules m n q stamp)
packing_cases P rules m n request.Front stamp is cases free = absurd cc
packing_cases P rules m n (request.LoadBefore oid front) stamp is cases free = absurd cc
packing_cases P rules m n (request.NewOids count) stamp is cases free = absurd cc
packing_cases P rules m n (request.Vote user description extension pending) stamp is cases free = absurd cc
packing_cases P rules m n (request.Undo user description tids) stamp is cases free = absurd cc
packing_cases P rules m n request.Finish stamp is cases free = absurd cc
packing_cases P rules m n request.Abort stamp is cases free = absurd cc
packing_cases P rules m n (request.History oid) stamp is cases free = absurd cc
packing_cases P rules m n request.UndoLog stamp is cases free = absurd cc
packing_cases P rules m n (request.Pack tid collect) stamp is cases free = pack_cases P rules.named m n tid collect cases free
packing_cases P rules m n (request.PackBegin tid collect) stamp is cases free = begin_cases P rules.named m n tid collect cases free
packing_cases P rules m n request.PackTurn stamp is cases free = turn_cases P rules.named m n m.pack cases refl free
packing_cases P rules m n request.Last stamp is cases free = absurd cc
packing_cases P rules m n (request.Since tid changes) stamp is cases free = absurd cc
packing_cases P rules m n request.Close stamp is cases free = absurd cc

request_cases : (P : Stepped → Type 0) (rules : Rules) (m : Machine) (n : ℕ) (q : Request) (stamp : ℕ) → StepCases P m n q → request_refusal m n q ≡ None → P (request_step rules m n q stamp)
request_cases P rules m n request.Front stamp cases free = cases.told
request_cases P rules m n (request.LoadBefore oid front) stamp cases free = cases.found oid (found_below oid front m.list)
request_cases P rules m n (request.NewOids count) stamp cases free = cases.numbers count
request_cases P rules m n (request.Vote user description extension pending) stamp cases free =
    vote_cases P m n (request.Vote user description extension pending) (record { user = user; description = description; extension = extension }) stamp
    (vote_decision rules.merging m.list pending) cases (vote_decided rules.merging m.list pending)
request_cases P rules m n (request.Undo user description tids) stamp cases free =
    vote_cases P m n (request.Undo user description tids) (record { user = user; description = description; extension = [] }) stamp
    (changes_undone m.list (undone_of rules.merging m.list tids)) cases (undo_decided rules.merging m.list tids)
request_cases P rules m n request.Finish stamp cases free = finish_cases P m n request.Finish m.vote cases refl
request_cases P rules m n request.Abort stamp cases free = cases.dropped
request_cases P rules m n (request.History oid) stamp cases free = cases.listed (history_of oid m.list)
request_cases P rules m n request.UndoLog stamp cases free = cases.logged (undo_log_of m.list)
request_cases P rules m n (request.Pack tid collect) stamp cases free = pack_cases P rules.named m n tid collect (pack_part P rules.named m n (request.Pack tid collect) refl cases) free
request_cases P rules m n (request.PackBegin tid collect) stamp cases free = begin_cases P rules.named m n tid collect (pack_part P rules.named m n (request.PackBegin tid collect) refl cases) free
request_cases P rules m n request.PackTurn stamp cases free = turn_cases P rules.named m n m.pack (pack_part P rules.named m n request.PackTurn refl cases) refl free
request_cases P rules m n request.Last stamp cases free = cases.last
request_cases P rules m n (request.Since tid changes) stamp cases free = cases.since tid changes
request_cases P rules m n request.Close stamp cases free = cases.closed

unless_cases : (P : Stepped → Type 0) (m : Machine) (early : Option Refusal) (made : Stepped) → ((r : Refusal) → IsOrdinary r → P (replied_refusal m r)) → AnswersIfSome early → (early ≡ None → P made)
    → P (unless_early early m made)
unless_cases P m None made refused answers made_is = made_is refl
unless_cases P m (Some r) made refused answers made_is = refused r answers

pub allowed_request : (b : Bool) (o : Option Refusal) → option_or (refuse_if b refusal.NotOpen) o ≡ None → o ≡ None
allowed_request true o is = absurd cc
allowed_request false o is = is

-- what holds in each case holds of a step
pub by_step : (P : Stepped → Type 0) (rules : Rules) (m : Machine) (n : ℕ) (q : Request) (stamp : ℕ) → StepCases P m n q → P (step_of rules m n q stamp)
by_step P rules m n q stamp cases =
    unless_cases P m (early_refusal m n q) (request_step rules m n q stamp) cases.refused (early_answers m n q)
    (λ early. request_cases P rules m n q stamp cases (allowed_request (not (is_open_in m.sessions n)) (request_refusal m n q) early))

-- and so of a request on a pack
pub by_pack_step : (P : Stepped → Type 0) (rules : Rules) (m : Machine) (n : ℕ) (q : Request) (stamp : ℕ) → is_pack q ≡ true → PackCases P rules.named m n q → P (step_of rules m n q stamp)
by_pack_step P rules m n q stamp is cases =
    unless_cases P m (early_refusal m n q) (request_step rules m n q stamp) cases.refused (early_answers m n q)
    (λ early. packing_cases P rules m n q stamp is cases (allowed_request (not (is_open_in m.sessions n)) (request_refusal m n q) early))

-- what holds of the machine as it was and of the one whose pack is dropped holds where the step isn't answered
pub by_unanswered : (P : Machine → Type 0) (q : Request) (m : Machine) → P m → P (without_pack m) → P (unanswered q m)
by_unanswered P q m same dropped = by_cases (is_pack q)
  where
    by_cases : (b : Bool) → P (cond b (without_pack m) m)
    by_cases true = dropped
    by_cases false = same

-- and, where it holds of the one whose store failed too, however the step ends
pub by_ending : (P : Machine → Type 0) (rules : Rules) (m : Machine) (n : ℕ) (q : Request) (stamp : ℕ) (outcome : StepOutcome)
    → P m → P (without_pack m) → P (failed m) → StepCases (λ s. P s.machine) m n q → P (machine_left rules m n q stamp outcome)
by_ending P rules m n q stamp Answered same dropped lost cases = by_step (λ s. P s.machine) rules m n q stamp cases
by_ending P rules m n q stamp ReadingFailed same dropped lost cases = by_unanswered P q m same dropped
by_ending P rules m n q stamp NoMemory same dropped lost cases = by_unanswered P q m same dropped
by_ending P rules m n q stamp StoreFailed same dropped lost cases = lost
