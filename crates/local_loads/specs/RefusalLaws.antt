-- A hub never answers a refusal that a connection has of its own. For the proofs of those who let clients take their turns.
use Rattle.std.proofs.Common.{◌≡◌, ℕ, ◌+◌, ◌-◌, ◌^◌, Bool, true, false, not, cond, eqb, ◌||◌, List, [], ◌∷◌, length, map, Option, Some, None, Result, Ok, Err, refl, sym, ap, subst}
use Rattle.std.specs.Prelude.{drop, if◌then◌else◌, nat_le, nat_lt, ok_or, take, ◌==◌}
use Rattle.std.specs.FinSet.{len}
use Rattle.std.specs.Option.{option_map, option_or}
use Rattle.zb_ids.specs.Tids.{tid_after}
use Rattle.zb_ids.specs.declared.stamp.Stamp.{Stamp}
use Rattle.zb_model.specs.declared.data.Change.{Change}
use Rattle.zb_model.specs.declared.data.Content.{Content}
use Rattle.zb_model.specs.declared.data.Content.TheVariants.{Held, Absent}
use Rattle.zb_model.specs.declared.data.Transaction.{Transaction}
use Rattle.zb_model.specs.declared.found.Found.{Found}
use Rattle.zb_model.specs.declared.found.Found.TheVariants as found
use Rattle.zb_model.specs.declared.new_transaction.NewChange.{NewChange}
use Rattle.zb_model.specs.declared.new_transaction.NewContent.TheVariants as new_content
use Rattle.zb_model.specs.declared.pending.PendingCheck.{PendingCheck}
use Rattle.zb_model.specs.declared.pending.PendingStore.{PendingStore}
use Rattle.zb_model.specs.declared.refusal.Refusal.{Refusal}
use Rattle.zb_model.specs.declared.refusal.Refusal.TheVariants as refusal
use Rattle.zb_model.specs.declared.refusal.Why.{Why}
use Rattle.zb_model.specs.declared.refusal.Why.TheVariants as why
use Rattle.zb_model.specs.Database.{newest_tid, revision_below, serial_of}
use Rattle.zb_model.specs.Packing.{packed_by}
use Rattle.zb_model.specs.Packs.{change_count, turn_from}
use Rattle.zb_model.specs.Queries.{found_below, pack_point, transaction_at}
use Rattle.zb_model.specs.Rules.{MergeRules}
use Rattle.commit_phases.specs.Decision.{ahead_of_changes, change_of_content, change_of_delete, change_of_store, change_or_conflict, changes_of_stores, current_record, excess_of, failed_check, goes_in, too_long, unless_checks_fail, unless_refused, vote_decision}
use Rattle.commit_phases.specs.Pending.{PendingChanges, length_of_content}
use Rattle.undo_records.specs.Undone.{content_before, content_now, is_same, is_untouched, merged_content, taken_over, then_with, undone_changes, undone_content, undone_from, undone_of, undone_transaction, with_change}
use Rattle.pack_reach.specs.Late.{overtaken}
use Rattle.pack_reach.specs.Packed.{kept, marks_a_turn, packed, unread}
use Rattle.zodb_core.specs.declared.reply.Reply.{Reply}
use Rattle.zodb_core.specs.declared.reply.Reply.TheVariants as reply
use Rattle.zodb_core.specs.declared.request.Request.{Request}
use Rattle.zodb_core.specs.declared.request.Request.TheVariants as request
use Rattle.zodb_core.specs.declared.texts.Texts.{Texts}
use Rattle.zodb_core.specs.HubState.{HubState, rules_of}
use Rattle.zodb_core.specs.Machine.{Machine, MachineVote, OpenPack, PackCopying, Rules, holds_vote, is_open_in}
use Rattle.zodb_core.specs.Outcomes.{Answered, EndsFor, FaultCounts, NoMemory, ReadingFailed, StepOutcome, StoreFailed, outcome_of_refusal}
use Rattle.zodb_core.specs.Steps.{Stepped, begin_refusal, busy_for, busy_for_all, changes_in_journal, changes_undone, copy_step, copying_reply, early_refusal, finish_gives, finish_step, journal_limit, loaded, mark_step, marked_step, marks_on, pack_refusal, pack_running, pack_tid, packed_already, refuse_if, replied, replied_refusal, request_refusal, request_step, step_of, switch_step, switched, switches_next, transaction_with, turn_of_copying, turn_refusal, turn_step, unless_early, unless_overtaken, unless_unread, vote_at, vote_counted, vote_refusal, vote_step, with_pack, with_vote}
use Rattle.connection_view.specs.Loading.{IsServerRefusal}
use Rattle.local_loads.specs.Answers.{server_refusal}
use Rattle.local_loads.specs.LocalLaws.{machine_of, stands_for}
use Rattle.local_loads.specs.Making.{IsHubStep}

abbrev ServersIfSome : Option Refusal → Type 0
ServersIfSome None = Unit {0}
ServersIfSome (Some r) = IsServerRefusal r

abbrev ServersIfErr : {T : Type 0} → Result T Refusal → Type 0
ServersIfErr (Ok x) = Unit {0}
ServersIfErr (Err r) = IsServerRefusal r

abbrev pub IsServerReply : Reply → Type 0
IsServerReply (reply.Refused r) = IsServerRefusal r
IsServerReply _ = Unit {0}

either : (one other : Option Refusal) → ServersIfSome one → ServersIfSome other → ServersIfSome (option_or one other)
either None other first second = second
either (Some r) other first second = first

if_so : (b : Bool) (r : Refusal) → IsServerRefusal r → ServersIfSome (refuse_if b r)
if_so true r is = is
if_so false r is = tt

-- ---- the refusals that come at once

busy_served : (n : ℕ) (vote : Option MachineVote) → ServersIfSome (busy_for n vote)
busy_served n None = tt
busy_served n (Some v) = if_so (not (v.session == n)) (refusal.Busy v.session) tt

vote_served : (n : ℕ) (vote : Option MachineVote) → ServersIfSome (vote_refusal n vote)
vote_served n vote = either (refuse_if (holds_vote n vote) refusal.Voted) (busy_for n vote) (if_so (holds_vote n vote) refusal.Voted tt) (busy_served n vote)

running_served : (pack : Option OpenPack) → ServersIfSome (pack_running pack)
running_served None = tt
running_served (Some p) = tt

held_served : (vote : Option MachineVote) → ServersIfSome (busy_for_all vote)
held_served None = tt
held_served (Some v) = tt

pack_served : (m : Machine) (tid : ℕ) → ServersIfSome (pack_refusal m tid)
pack_served m tid =
    either (pack_running m.pack) (option_or (busy_for_all m.vote) (packed_already (pack_tid tid m.list) (pack_point m.list))) (running_served m.pack)
    (either (busy_for_all m.vote) (packed_already (pack_tid tid m.list) (pack_point m.list)) (held_served m.vote)
    (if_so (nat_le (pack_tid tid m.list) (pack_point m.list)) (refusal.PackedAlready (pack_point m.list)) tt))

begin_served : (m : Machine) (tid : ℕ) → ServersIfSome (begin_refusal m tid)
begin_served m tid =
    either (pack_running m.pack) (packed_already (pack_tid tid m.list) (pack_point m.list)) (running_served m.pack)
    (if_so (nat_le (pack_tid tid m.list) (pack_point m.list)) (refusal.PackedAlready (pack_point m.list)) tt)

next_served : (b : Bool) (vote : Option MachineVote) → ServersIfSome (if b then busy_for_all vote else None)
next_served true vote = held_served vote
next_served false vote = tt

turn_served : (m : Machine) (n : ℕ) (pack : Option OpenPack) → ServersIfSome (turn_refusal m n pack)
turn_served m n None = tt
turn_served m n (Some p) =
    either (refuse_if (not (p.session == n)) (refusal.PackRunning p.session)) (if switches_next p then busy_for_all m.vote else None)
    (if_so (not (p.session == n)) (refusal.PackRunning p.session) tt) (next_served (switches_next p) m.vote)

request_served : (m : Machine) (n : ℕ) (q : Request) → ServersIfSome (request_refusal m n q)
request_served m n request.Front = tt
request_served m n (request.LoadBefore oid front) = tt
request_served m n (request.NewOids count) = if_so (nat_lt (2 ^ 64 - 1) (m.greatest + count)) refusal.OidsSpent tt
request_served m n (request.Vote user description extension pending) = vote_served n m.vote
request_served m n (request.Undo user description tids) = vote_served n m.vote
request_served m n request.Finish = if_so (not (holds_vote n m.vote)) refusal.NotVoted tt
request_served m n request.Abort = tt
request_served m n (request.History oid) = tt
request_served m n request.UndoLog = tt
request_served m n (request.Pack tid collect) = pack_served m tid
request_served m n (request.PackBegin tid collect) = begin_served m tid
request_served m n request.PackTurn = turn_served m n m.pack
request_served m n request.Last = tt
request_served m n (request.Since tid changes) = tt
request_served m n request.Close = tt

early_served : (m : Machine) (n : ℕ) (q : Request) → ServersIfSome (early_refusal m n q)
early_served m n q =
    either (refuse_if (not (is_open_in m.sessions n)) refusal.NotOpen) (request_refusal m n q)
    (if_so (not (is_open_in m.sessions n)) refusal.NotOpen tt) (request_served m n q)

-- ---- votes

conflict_served : (list : List Transaction) (oid base : ℕ) (r : Result (List ℕ) Why) → ServersIfErr (change_or_conflict list oid base r)
conflict_served list oid base (Ok bytes) = tt
conflict_served list oid base (Err reason) = tt

delete_served : (list : List Transaction) (oid base : ℕ) (o : Option (List ℕ)) → ServersIfErr (change_of_delete list oid base o)
delete_served list oid base None = tt
delete_served list oid base (Some held) = by_cases (eqb base (serial_of oid list))
  where
    by_cases : (b : Bool) → ServersIfErr {T = Change} (cond b (Ok (record { oid = oid; content = Absent })) (Err (refusal.Conflict oid base (serial_of oid list) why.NoRule)))
    by_cases true = tt
    by_cases false = tt

vote_content_served : (rules : MergeRules) (list : List Transaction) (oid base : ℕ) (content : Content) → ServersIfErr (change_of_content rules list oid base content)
vote_content_served rules list oid base (Held bytes) = conflict_served list oid base (goes_in rules list oid base bytes)
vote_content_served rules list oid base Absent = delete_served list oid base (current_record oid list)

ahead_served : (one : Result Change Refusal) (rest : Result (List Change) Refusal) → ServersIfErr one → ServersIfErr rest → ServersIfErr (ahead_of_changes one rest)
ahead_served (Err r) rest one all = one
ahead_served (Ok c) (Err r) one all = all
ahead_served (Ok c) (Ok changes) one all = tt

stores_served : (rules : MergeRules) (list : List Transaction) (stores : List PendingStore) → ServersIfErr (changes_of_stores rules list stores)
stores_served rules list [] = tt
stores_served rules list (p ∷ stores) =
    ahead_served (change_of_store rules list p) (changes_of_stores rules list stores) (vote_content_served rules list p.oid p.base p.content) (stores_served rules list stores)

check_served : (list : List Transaction) (checks : List PendingCheck) → ServersIfSome (failed_check list checks)
check_served list [] = tt
check_served list (c ∷ checks) = by_cases (eqb c.serial (serial_of c.oid list)) (check_served list checks)
  where
    by_cases : (b : Bool) → ServersIfSome (failed_check list checks) → ServersIfSome (cond b (failed_check list checks) (Some (refusal.ReadConflict c.oid c.serial (serial_of c.oid list))))
    by_cases true rest = rest
    by_cases false rest = tt

long_served : (n : Option ℕ) → ServersIfSome (option_map (λ n. refusal.TooLong n) n)
long_served None = tt
long_served (Some n) = tt

refused_served : (changes : List Change) (o : Option Refusal) → ServersIfSome o → ServersIfErr (unless_refused changes o)
refused_served changes None served = tt
refused_served changes (Some r) served = served

checked_served : (list : List Transaction) (checks : List PendingCheck) (r : Result (List Change) Refusal) → ServersIfErr r → ServersIfErr (unless_checks_fail list checks r)
checked_served list checks (Err r) served = served
checked_served list checks (Ok changes) served =
    refused_served changes (option_or (failed_check list checks) (too_long changes))
    (either (failed_check list checks) (too_long changes) (check_served list checks) (long_served (excess_of (map (λ (c : Change). length_of_content c.content) changes))))

decision_served : (rules : MergeRules) (list : List Transaction) (pending : PendingChanges) → ServersIfErr (vote_decision rules list pending)
unfolding vote_decision
decision_served rules list pending = checked_served list pending.checks (changes_of_stores rules list pending.stores) (stores_served rules list pending.stores)

-- ---- undos

merged_served : (oid later : ℕ) (m : Option (List ℕ)) → ServersIfErr (ok_or (option_map new_content.Bytes m) (refusal.UndoConflict oid later))
merged_served oid later None = tt
merged_served oid later (Some bytes) = tt

content_served : (rules : MergeRules) (list : List Transaction) (tid : ℕ) (written : List NewChange) (c : Change) → ServersIfErr (undone_content rules list tid written c)
content_served rules list tid written c = by_cases (is_untouched list tid written c.oid || is_same (content_now list written c.oid) c.content)
  where
    by_cases : (b : Bool) → ServersIfErr (cond b (Ok (taken_over (revision_below c.oid tid list))) (ok_or (option_map new_content.Bytes (merged_content rules c.content (content_now list written c.oid) (content_before c.oid tid list))) (refusal.UndoConflict c.oid (serial_of c.oid list))))
    by_cases true = tt
    by_cases false = merged_served c.oid (serial_of c.oid list) (merged_content rules c.content (content_now list written c.oid) (content_before c.oid tid list))

then_served : {A B : Type 0} (u : Result A Refusal) (next : A → Result B Refusal) → ServersIfErr u → ((x : A) → ServersIfErr (next x)) → ServersIfErr (then_with u next)
then_served (Ok x) next served each = each x
then_served (Err r) next served each = served

changes_served : (rules : MergeRules) (list : List Transaction) (tid : ℕ) (written : List NewChange) (changes : List Change) → ServersIfErr (undone_changes rules list tid written changes)
changes_served rules list tid written [] = tt
changes_served rules list tid written (c ∷ changes) =
    then_served (undone_content rules list tid written c) (λ content. undone_changes rules list tid (with_change written (record { oid = c.oid; content = content })) changes)
    (content_served rules list tid written c) (λ content. changes_served rules list tid (with_change written (record { oid = c.oid; content = content })) changes)

transaction_served : (rules : MergeRules) (list : List Transaction) (tid : ℕ) (written : List NewChange) (o : Option Transaction) → ServersIfErr (undone_transaction rules list tid written o)
transaction_served rules list tid written None = tt
transaction_served rules list tid written (Some t) = by_cases t.packed (changes_served rules list tid written t.changes)
  where
    by_cases : (b : Bool) → ServersIfErr (undone_changes rules list tid written t.changes) → ServersIfErr (cond b (Err (refusal.UndoPacked tid)) (undone_changes rules list tid written t.changes))
    by_cases true rest = tt
    by_cases false rest = rest

from_served : (rules : MergeRules) (list : List Transaction) (written : List NewChange) (tids : List ℕ) → ServersIfErr (undone_from rules list written tids)
from_served rules list written [] = tt
from_served rules list written (tid ∷ tids) =
    then_served (undone_transaction rules list tid written (transaction_at tid list)) (λ more. undone_from rules list more tids)
    (transaction_served rules list tid written (transaction_at tid list)) (λ more. from_served rules list more tids)

undo_served : (rules : MergeRules) (list : List Transaction) (tids : List ℕ) → ServersIfErr (undone_of rules list tids)
unfolding undone_of
undo_served rules list tids = from_served rules list [] tids

undone_served : (list : List Transaction) (u : Result (List NewChange) Refusal) → ServersIfErr u → ServersIfErr (changes_undone list u)
undone_served list (Ok changes) served = tt
undone_served list (Err r) served = served

-- ---- steps

at_served : (m : Machine) (n : ℕ) (texts : Texts) (changes : List Change) (tid : ℕ) → IsServerReply (vote_at m n texts changes tid).reply
at_served m n texts changes tid = by_cases (nat_lt tid (2 ^ 64 - 1))
  where
    by_cases : (b : Bool) → IsServerReply (let s : Stepped = cond b (record { reply = reply.Voted; machine = with_vote m n (Some (transaction_with tid texts changes)); ticks = true }) (record { reply = reply.Refused refusal.TidsSpent; machine = m; ticks = true }) in s).reply
    by_cases true = tt
    by_cases false = tt

counted_served : (m : Machine) (n : ℕ) (texts : Texts) (changes : List Change) (stamp count : ℕ) → IsServerReply (vote_counted m n texts changes stamp count).reply
counted_served m n texts changes stamp count = by_cases (nat_lt journal_limit count) (at_served m n texts changes (tid_after (newest_tid m.list) stamp))
  where
    by_cases : (b : Bool) → IsServerReply (vote_at m n texts changes (tid_after (newest_tid m.list) stamp)).reply
        → IsServerReply (cond b (replied_refusal m (refusal.JournalFull count)) (vote_at m n texts changes (tid_after (newest_tid m.list) stamp))).reply
    by_cases true rest = tt
    by_cases false rest = rest

decided_served : (m : Machine) (n : ℕ) (texts : Texts) (stamp : ℕ) (decided : Result (List Change) Refusal) → ServersIfErr decided → IsServerReply (vote_step m n texts stamp decided).reply
decided_served m n texts stamp (Err r) served = served
decided_served m n texts stamp (Ok []) served = tt
decided_served m n texts stamp (Ok (c ∷ changes)) served = counted_served m n texts (c ∷ changes) stamp (changes_in_journal m.journal + length (c ∷ changes))

found_served : (m : Machine) (oid : ℕ) (f : Found) → IsServerReply (loaded m oid f)
found_served m oid (found.Held serial bytes end) = tt
found_served m oid (found.Absent serial) = tt
found_served m oid found.Nothing = tt

writes_served : (m : Machine) (n : ℕ) (writes : Option Transaction) → IsServerReply (finish_gives m n writes).reply
writes_served m n None = tt
writes_served m n (Some t) = tt

finish_served : (m : Machine) (n : ℕ) (vote : Option MachineVote) → IsServerReply (finish_step m n vote).reply
finish_served m n None = tt
finish_served m n (Some v) = writes_served m n v.writes

-- a pack is refused for a record that can't be read, else it goes on
pub by_unread : (P : Reply → Type 0) (m : Machine) (w : Option (ℕ × ℕ)) (next : Stepped) → ((oid tid : ℕ) → P (reply.Refused (refusal.Unreadable oid tid))) → P next.reply → P (unless_unread m w next).reply
by_unread P m (Some w) next unread rest = unread w.0 w.1
by_unread P m None next unread rest = rest

by_overtaken : (P : Reply → Type 0) (m : Machine) (w : Option (ℕ × ℕ)) (next : Stepped) → ((oid tid : ℕ) → P (reply.Refused (refusal.Overtaken oid tid))) → P next.reply → P (unless_overtaken m w next).reply
by_overtaken P m (Some w) next late rest = late w.0 w.1
by_overtaken P m None next late rest = rest

-- each reply that a turn of a pack may get where nothing refuses it at once
pub record TurnReplies (P : Reply → Type 0) : Type 0 where
  pub none : P (reply.Refused refusal.NoPack)
  pub unread : (oid tid : ℕ) → P (reply.Refused (refusal.Unreadable oid tid))
  pub late : (oid tid : ℕ) → P (reply.Refused (refusal.Overtaken oid tid))
  pub marking : (count : ℕ) → P (reply.Marking count)
  pub marked : (count : ℕ) → P (reply.Marked count)
  pub copying : (count : ℕ) → P (reply.Copying count)
  pub copied : (count : ℕ) → P (reply.Copied count)
  pub switched : (kept dropped : ℕ) → P (reply.Packed kept dropped)

mark_replies : (P : Reply → Type 0) (named : List ℕ → Option (List ℕ)) (m : Machine) (p : OpenPack) → TurnReplies P → P (mark_step named m p).reply
mark_replies P named m p replies =
    by_cases (marks_on p.collects named p.tid m.list p.marked) (by_unread P m (unread p.collects named p.tid m.list) (marked_step named m p) replies.unread (replies.marked (len (kept p.collects named p.tid m.list))))
  where
    by_cases : (b : Bool) → P (unless_unread m (unread p.collects named p.tid m.list) (marked_step named m p)).reply
        → P (cond b (replied (with_pack m (record p { marked = p.marked + marks_a_turn })) (reply.Marking (p.marked + marks_a_turn))) (unless_unread m (unread p.collects named p.tid m.list) (marked_step named m p))).reply
    by_cases true rest = replies.marking (p.marked + marks_a_turn)
    by_cases false rest = rest

copy_replies : (P : Reply → Type 0) (whole : Bool) (count : ℕ) → TurnReplies P → P (copying_reply whole count)
copy_replies P true count replies = replies.copied count
copy_replies P false count replies = replies.copying count

switch_replies : (P : Reply → Type 0) (named : List ℕ → Option (List ℕ)) (m : Machine) (p : OpenPack) (k : PackCopying) → TurnReplies P → P (switch_step named m p k).reply
switch_replies P named m p k replies =
    let late = overtaken p.collects named k.kept p.tid (take k.began m.list) (drop k.began m.list) in
    let list = packed p.collects named p.tid m.list in
    let done = switched m p.tid list in
    by_unread P m (unread p.collects named p.tid m.list) (unless_overtaken m late done) replies.unread
    (by_overtaken P m late done replies.late (replies.switched (change_count list) (change_count m.list - change_count list)))

copying_replies : (P : Reply → Type 0) (named : List ℕ → Option (List ℕ)) (m : Machine) (p : OpenPack) (copying : Option PackCopying) → TurnReplies P → P (turn_of_copying named m p copying).reply
copying_replies P named m p None replies = mark_replies P named m p replies
copying_replies P named m p (Some k) replies = by_cases k.is_whole
  where
    list : List Transaction
    list = packed_by p.tid k.kept m.list

    by_cases : (b : Bool) → P (cond b (switch_step named m p k) (copy_step m p k list)).reply
    by_cases true = switch_replies P named m p k replies
    by_cases false = let copied = k.copied + length (turn_from 0 (drop k.copied list)) in copy_replies P (nat_le (length list) copied) (change_count (take copied list)) replies

-- what holds of each of them holds of the reply
pub by_turn : (P : Reply → Type 0) (named : List ℕ → Option (List ℕ)) (m : Machine) (pack : Option OpenPack) → TurnReplies P → P (turn_step named m pack).reply
by_turn P named m None replies = replies.none
by_turn P named m (Some p) replies = copying_replies P named m p p.copying replies

turns_served : TurnReplies IsServerReply
turns_served = record {
  none = tt;
  unread = λ oid tid. tt;
  late = λ oid tid. tt;
  marking = λ count. tt;
  marked = λ count. tt;
  copying = λ count. tt;
  copied = λ count. tt;
  switched = λ kept dropped. tt;
}

answer_served : (rules : Rules) (m : Machine) (n : ℕ) (q : Request) (stamp : ℕ) → IsServerReply (request_step rules m n q stamp).reply
answer_served rules m n request.Front stamp = tt
answer_served rules m n (request.LoadBefore oid front) stamp = found_served m oid (found_below oid front m.list)
answer_served rules m n (request.NewOids count) stamp = tt
answer_served rules m n (request.Vote user description extension pending) stamp =
    decided_served m n (record { user = user; description = description; extension = extension }) stamp (vote_decision rules.merging m.list pending) (decision_served rules.merging m.list pending)
answer_served rules m n (request.Undo user description tids) stamp =
    decided_served m n (record { user = user; description = description; extension = [] }) stamp (changes_undone m.list (undone_of rules.merging m.list tids))
    (undone_served m.list (undone_of rules.merging m.list tids) (undo_served rules.merging m.list tids))
answer_served rules m n request.Finish stamp = finish_served m n m.vote
answer_served rules m n request.Abort stamp = tt
answer_served rules m n (request.History oid) stamp = tt
answer_served rules m n request.UndoLog stamp = tt
answer_served rules m n (request.Pack tid collect) stamp =
    let t = pack_tid tid m.list in
    by_unread IsServerReply m (unread collect rules.named t m.list) (switched m t (packed collect rules.named t m.list)) (λ oid tid. tt) tt
answer_served rules m n (request.PackBegin tid collect) stamp = tt
answer_served rules m n request.PackTurn stamp = by_turn IsServerReply rules.named m m.pack turns_served
answer_served rules m n request.Last stamp = tt
answer_served rules m n (request.Since tid changes) stamp = tt
answer_served rules m n request.Close stamp = tt

unless_served : (early : Option Refusal) (m : Machine) (made : Stepped) → ServersIfSome early → IsServerReply made.reply → IsServerReply (unless_early early m made).reply
unless_served None m made early answer = answer
unless_served (Some r) m made early answer = early

-- the refusal of a step is none of those that a connection has
pub step_served : (rules : Rules) (m : Machine) (n : ℕ) (q : Request) (stamp : ℕ) → IsServerReply (step_of rules m n q stamp).reply
step_served rules m n q stamp = unless_served (early_refusal m n q) m (request_step rules m n q stamp) (early_served m n q) (answer_served rules m n q stamp)

-- ---- what is told of it

answered_as : (rules : Rules) (m : Machine) (n : ℕ) (q : Request) (stamp : ℕ) (made : Stepped) (a b : FaultCounts) (o : StepOutcome) → EndsFor rules m n q stamp made a b o → o ≡ Answered → made ≡ step_of rules m n q stamp
answered_as rules m n q stamp made a b Answered ends is = ends
answered_as rules m n q stamp made a b ReadingFailed ends is = absurd cc
answered_as rules m n q stamp made a b NoMemory ends is = absurd cc
answered_as rules m n q stamp made a b StoreFailed ends is = absurd cc

-- where reading failed, memory ran out or the store failed, the refusal says that
by_outcome : (why : Refusal) → (outcome_of_refusal why ≡ Answered → IsServerRefusal why) → IsServerRefusal why
by_outcome (refusal.Missing oid packed) answered = answered refl
by_outcome refusal.NoTransaction answered = answered refl
by_outcome refusal.InTransaction answered = answered refl
by_outcome (refusal.NoSavepoint number) answered = answered refl
by_outcome (refusal.Mixed stores) answered = answered refl
by_outcome (refusal.NotATree oid) answered = answered refl
by_outcome (refusal.NodeMissing oid) answered = answered refl
by_outcome refusal.BadKey answered = answered refl
by_outcome _ answered = tt

-- a refusal of a hub whose store tells is none of those that a connection has of its own
pub refused_by_server : {R F : Type 0} (told lasts : Type 0) (stands : List ℕ → List Transaction → Type 0) (rules : R → MergeRules) (named : F → List ℕ → Option (List ℕ)) (n : ℕ) (q : Request) (why : Refusal) (old new : HubState R F) (before after : Option (List Stamp))
    → told → IsHubStep told lasts stands rules named n q (reply.Refused why) old new before after → IsServerRefusal why
refused_by_server told lasts stands rules named n q why old new before after tells step =
    let made = step.step tells (machine_of old) (stands_for old) in
    by_outcome why (λ is. subst IsServerReply
    (sym (ap (λ (s : Stepped). s.reply) (answered_as (rules_of rules named old) (machine_of old) n q made.stamp _ _ _ (outcome_of_refusal why) made.made.cause is)))
    (step_served (rules_of rules named old) (machine_of old) n q made.stamp))

-- and so it is answered as it is
pub server_refusal_is : (why : Refusal) → IsServerRefusal why → server_refusal why ≡ why
server_refusal_is (refusal.Missing oid packed) is = absurd is
server_refusal_is refusal.NoTransaction is = absurd is
server_refusal_is refusal.InTransaction is = absurd is
server_refusal_is (refusal.NoSavepoint number) is = absurd is
server_refusal_is (refusal.Mixed stores) is = absurd is
server_refusal_is (refusal.NotATree oid) is = absurd is
server_refusal_is (refusal.NodeMissing oid) is = absurd is
server_refusal_is refusal.BadKey is = absurd is
server_refusal_is _ is = refl
