-- A step of the machine: what a session is answered, and what is left. Source: the storage interfaces of ZODB and ZEO; the order of the refusals is own, and so is the mark of a pack.
use Rattle.std.specs.Prelude.{ℕ, ◌+◌, ◌-◌, ◌^◌, List, [], ◌∷◌, ◌++◌, Option, Some, None, Result, Ok, Err, Bool, true, false, not, ◌==◌, nat_le, nat_lt, if◌then◌else◌, length, map, max, min, drop, take, filter, slice_set, ◌&&◌}
use Rattle.std.specs.List.{sum_by}
use Rattle.std.specs.Option.{option_map_or, option_or}
use Rattle.std.specs.Ordering.{nat_cmp}
use Rattle.std.specs.FinSet.{FinSet, len}
use Rattle.zb_ids.specs.Tids.{tid_after}
use Rattle.zb_model.specs.declared.data.Change.{Change}
use Rattle.zb_model.specs.declared.data.Transaction.{Transaction}
use Rattle.zb_model.specs.declared.found.Found.{Found}
use Rattle.zb_model.specs.declared.news.NewsCommit.{NewsCommit}
use Rattle.zb_model.specs.declared.new_transaction.NewChange.{NewChange}
use Rattle.zb_model.specs.declared.found.Found.TheVariants as found
use Rattle.zb_model.specs.declared.refusal.Refusal.{Refusal}
use Rattle.zb_model.specs.declared.refusal.Refusal.TheVariants as refusal
use Rattle.zb_model.specs.Database.{newest_tid}
use Rattle.zb_model.specs.Lists.{history_of, undo_log_of}
use Rattle.zb_model.specs.Packing.{packed_by}
use Rattle.zb_model.specs.Packs.{change_count, turn_from}
use Rattle.zb_model.specs.Queries.{changes_up_to, found_below, greatest_of, is_above, oids_of, pack_point}
use Rattle.zb_model.specs.Voting.{voted_change}
use Rattle.commit_phases.specs.Decision.{vote_decision}
use Rattle.undo_records.specs.Undone.{undone_of}
use Rattle.pack_reach.specs.Late.{overtaken}
use Rattle.pack_reach.specs.Packed.{kept, marks_a_turn, packed, unread}
use Rattle.zodb_core.specs.declared.journal.JournalEntry.{JournalEntry}
use Rattle.zodb_core.specs.declared.journal.JournalEntry.TheVariants as journal
use Rattle.zodb_core.specs.declared.reply.Reply.{Reply}
use Rattle.zodb_core.specs.declared.reply.Reply.TheVariants as reply
use Rattle.zodb_core.specs.declared.request.Request.{Request}
use Rattle.zodb_core.specs.declared.request.Request.TheVariants as request
use Rattle.zodb_core.specs.declared.texts.Texts.{Texts}
use Rattle.zodb_core.specs.Machine.{Machine, MachineVote, OpenPack, PackCopying, Rules, front_of, has_pack, holds_vote, is_open_in, news_limit, news_of, switches_of, untold}

-- what a step gives: the reply, the machine that it leaves, and whether it read the clock
pub record Stepped : Type 0 where
  pub reply : Reply
  pub machine : Machine
  pub ticks : Bool

-- a reply and what is left, without the clock
abbrev pub replied : Machine → Reply → Stepped
replied m r = record { reply = r; machine = m; ticks = false }

abbrev pub replied_refusal : Machine → Refusal → Stepped
replied_refusal m r = replied m (reply.Refused r)

-- ---- the refusals that need no reading, in their order

abbrev pub refuse_if : Bool → Refusal → Option Refusal
refuse_if true r = Some r
refuse_if false r = None

-- another session holds the vote
abbrev pub busy_for : ℕ → Option MachineVote → Option Refusal
busy_for n None = None
busy_for n (Some v) = refuse_if (not (v.session == n)) (refusal.Busy v.session)

-- a session that holds the vote may not vote again, nor any other while it does
abbrev pub vote_refusal : ℕ → Option MachineVote → Option Refusal
vote_refusal n vote = option_or (refuse_if (holds_vote n vote) refusal.Voted) (busy_for n vote)

-- any session holds the vote
abbrev pub busy_for_all : Option MachineVote → Option Refusal
busy_for_all None = None
busy_for_all (Some v) = Some (refusal.Busy v.session)

-- any session has a pack open
abbrev pub pack_running : Option OpenPack → Option Refusal
pack_running None = None
pack_running (Some p) = Some (refusal.PackRunning p.session)

-- how far a pack goes that is asked to go up to a tid: never over the newest transaction
abbrev pub pack_tid : ℕ → List Transaction → ℕ
pack_tid tid list = min tid (newest_tid list - 1)

-- a pack would go no further than an earlier one
abbrev pub packed_already : ℕ → ℕ → Option Refusal
packed_already t point = refuse_if (nat_le t point) (refusal.PackedAlready point)

-- a pack up to a tid: one is open, or a vote is held, or one went as far already
abbrev pub pack_refusal : Machine → ℕ → Option Refusal
pack_refusal m tid = option_or (pack_running m.pack) (option_or (busy_for_all m.vote) (packed_already (pack_tid tid m.list) (pack_point m.list)))

-- one that is begun, to go on in turns: the vote isn't in its way
abbrev pub begin_refusal : Machine → ℕ → Option Refusal
begin_refusal m tid = option_or (pack_running m.pack) (packed_already (pack_tid tid m.list) (pack_point m.list))

-- the next turn of a pack is its switch: it was answered that all is copied
abbrev pub switches_next : OpenPack → Bool
switches_next p = option_map_or (λ k. k.is_whole) p.copying false

-- a turn of a pack: none is open, or another session has it, or the switch is next and a vote is held
abbrev pub turn_refusal : Machine → ℕ → Option OpenPack → Option Refusal
turn_refusal m n None = Some refusal.NoPack
turn_refusal m n (Some p) =
    option_or (refuse_if (not (p.session == n)) (refusal.PackRunning p.session)) (if switches_next p then busy_for_all m.vote else None)

-- what an open session is refused before anything is read
abbrev pub request_refusal : Machine → ℕ → Request → Option Refusal
request_refusal m n (request.NewOids count) = refuse_if (nat_lt (2 ^ 64 - 1) (m.greatest + count)) refusal.OidsSpent
request_refusal m n (request.Vote user description extension pending) = vote_refusal n m.vote
request_refusal m n (request.Undo user description tids) = vote_refusal n m.vote
request_refusal m n request.Finish = refuse_if (not (holds_vote n m.vote)) refusal.NotVoted
request_refusal m n (request.Pack tid collect) = pack_refusal m tid
request_refusal m n (request.PackBegin tid collect) = begin_refusal m tid
request_refusal m n request.PackTurn = turn_refusal m n m.pack
request_refusal m n _ = None

abbrev pub early_refusal : Machine → ℕ → Request → Option Refusal
early_refusal m n q = option_or (refuse_if (not (is_open_in m.sessions n)) refusal.NotOpen) (request_refusal m n q)

-- ---- the requests

-- Front: the news, and from then on the session is told of them
abbrev pub front_step : Machine → ℕ → Stepped
front_step m n = replied
    (record m { sessions = slice_set m.sessions n (record { is_open = true; told = length m.journal }) })
    (reply.Front (front_of m.list) (news_of (untold m n)) (switches_of m.journal))

-- LoadBefore: the revision below the front
abbrev pub loaded : Machine → ℕ → Found → Reply
loaded m oid (found.Held serial bytes end) = reply.Loaded serial bytes end (front_of m.list)
loaded m oid (found.Absent serial) = reply.Nothing oid (switches_of m.journal)
loaded m oid found.Nothing = reply.Nothing oid (switches_of m.journal)

-- NewOids: the numbers after the greatest
abbrev pub oids_step : Machine → ℕ → Stepped
oids_step m count = replied (record m { greatest = m.greatest + count }) (reply.Oids (m.greatest + 1) count)

-- a transaction with these texts and changes
abbrev pub transaction_with : ℕ → Texts → List Change → Transaction
transaction_with tid texts changes = record { tid = tid; packed = false; user = texts.user; description = texts.description; extension = texts.extension; changes = changes }

-- how many changes an entry of the journal counts, and how many the journal may have: 2^23
abbrev pub changes_in_entry : JournalEntry → ℕ
changes_in_entry (journal.Commit session tid oids) = length oids
changes_in_entry (journal.Packed tid) = 0

abbrev pub journal_limit : ℕ
journal_limit = 8388608

abbrev pub changes_in_journal : List JournalEntry → ℕ
changes_in_journal entries = sum_by changes_in_entry entries

-- the session holds the vote, and its finish will append this
abbrev pub with_vote : Machine → ℕ → Option Transaction → Machine
with_vote m n writes = record m { vote = Some (record { session = n; writes = writes }) }

-- the changes get a tid, unless none is left
abbrev pub vote_at : Machine → ℕ → Texts → List Change → ℕ → Stepped
vote_at m n texts changes tid =
    if nat_lt tid (2 ^ 64 - 1)
    then (record { reply = reply.Voted; machine = with_vote m n (Some (transaction_with tid texts changes)); ticks = true })
    else (record { reply = reply.Refused refusal.TidsSpent; machine = m; ticks = true })

-- unless the journal is full, the clock is read
abbrev pub vote_counted : Machine → ℕ → Texts → List Change → ℕ → ℕ → Stepped
vote_counted m n texts changes stamp count =
    if nat_lt journal_limit count then replied_refusal m (refusal.JournalFull count)
    else vote_at m n texts changes (tid_after (newest_tid m.list) stamp)

-- Vote and Undo: what was decided is held; where nothing is to be written the clock isn't read
abbrev pub vote_step : Machine → ℕ → Texts → ℕ → Result (List Change) Refusal → Stepped
vote_step m n texts stamp (Err r) = replied_refusal m r
vote_step m n texts stamp (Ok []) = replied (with_vote m n None) reply.Voted
vote_step m n texts stamp (Ok (c ∷ changes)) = vote_counted m n texts (c ∷ changes) stamp (changes_in_journal m.journal + length (c ∷ changes))

-- Finish: what was voted is appended
abbrev pub entry_of : ℕ → Transaction → JournalEntry
entry_of n t = journal.Commit n t.tid (oids_of t)

abbrev pub with_commit : Machine → ℕ → Transaction → Machine
with_commit m n t = record m {
  list = m.list ++ t ∷ [];
  journal = m.journal ++ entry_of n t ∷ [];
  greatest = max m.greatest (greatest_of (oids_of t));
  vote = None;
}

abbrev pub finish_gives : Machine → ℕ → Option Transaction → Stepped
finish_gives m n None = replied (record m { vote = None }) reply.Empty
finish_gives m n (Some t) = replied (with_commit m n t) (reply.Committed t.tid)

abbrev pub finish_step : Machine → ℕ → Option MachineVote → Stepped
finish_step m n None = replied_refusal m refusal.NotVoted
finish_step m n (Some v) = finish_gives m n v.writes

-- Abort: the session's vote is dropped
abbrev pub without_vote : Machine → ℕ → Machine
without_vote m n = record m { vote = if holds_vote n m.vote then None else m.vote }

-- Close: and its pack, and the session is closed
abbrev pub without_session : Machine → ℕ → Machine
without_session m n = record (without_vote m n) {
  pack = if has_pack n m.pack then None else m.pack;
  sessions = slice_set m.sessions n (record { is_open = false; told = length m.journal });
}

-- ---- packs

-- the open pack, in the place of another
abbrev pub with_pack : Machine → OpenPack → Machine
with_pack m p = record m { pack = Some p }

-- a refusal behind the beginning of a pack drops it
abbrev pub without_pack : Machine → Machine
without_pack m = record m { pack = None }

abbrev pub pack_dropped : Machine → Refusal → Stepped
pack_dropped m r = replied_refusal (without_pack m) r

-- unless a record that the pack must follow can't be read, it goes on
abbrev pub unless_unread : Machine → Option (ℕ × ℕ) → Stepped → Stepped
unless_unread m (Some w) next = pack_dropped m (refusal.Unreadable w.0 w.1)
unless_unread m None next = next

-- unless commits led to an object whose records it is about to drop
abbrev pub unless_overtaken : Machine → Option (ℕ × ℕ) → Stepped → Stepped
unless_overtaken m (Some w) next = pack_dropped m (refusal.Overtaken w.0 w.1)
unless_overtaken m None next = next

-- the packed list is the list from then on
abbrev pub with_switch : Machine → ℕ → List Transaction → Machine
with_switch m t list = record m { list = list; journal = m.journal ++ journal.Packed t ∷ []; pack = None }

-- and the reply counts the changes that stay and those that go
abbrev pub switched : Machine → ℕ → List Transaction → Stepped
switched m t list = replied (with_switch m t list) (reply.Packed (change_count list) (change_count m.list - change_count list))

-- Pack: the objects that are kept are marked, what stays is copied, and the copy is put in the place of the list, all in one step
abbrev pub pack_step : (List ℕ → Option (List ℕ)) → Machine → ℕ → Bool → Stepped
pack_step named m t collects = unless_unread m (unread collects named t m.list) (switched m t (packed collects named t m.list))

-- PackBegin: nothing is marked yet
abbrev pub begin_step : Machine → ℕ → ℕ → Bool → Stepped
begin_step m n t collects = replied (with_pack m (record { session = n; tid = t; collects = collects; marked = 0; copying = None })) (reply.Packing t)

-- all is marked, and copying begins over the list as it stands
abbrev pub marked_step : (List ℕ → Option (List ℕ)) → Machine → OpenPack → Stepped
marked_step named m p =
    let keep : FinSet nat_cmp = kept p.collects named p.tid m.list in
    replied
    (with_pack m (record p { marked = len keep; copying = Some (record { kept = keep; began = length m.list; copied = 0; is_whole = false }) }))
    (reply.Marked (len keep))

-- behind so many marks more are left than a turn makes; a pack that collects nothing marks all at once
abbrev pub marks_on : Bool → (List ℕ → Option (List ℕ)) → ℕ → List Transaction → ℕ → Bool
marks_on collects named t list marked = collects && nat_lt (marked + marks_a_turn) (len (kept collects named t list))

-- so many objects more are marked, or all that are left, unless a record can't be read
abbrev pub mark_step : (List ℕ → Option (List ℕ)) → Machine → OpenPack → Stepped
mark_step named m p =
    if marks_on p.collects named p.tid m.list p.marked
    then replied (with_pack m (record p { marked = p.marked + marks_a_turn })) (reply.Marking (p.marked + marks_a_turn))
    else unless_unread m (unread p.collects named p.tid m.list) (marked_step named m p)

-- how far the copying has come is told with the changes that are copied
abbrev pub copying_reply : Bool → ℕ → Reply
copying_reply true count = reply.Copied count
copying_reply false count = reply.Copying count

-- so many transactions of the packed list are copied
abbrev pub copied_step : Machine → OpenPack → PackCopying → List Transaction → ℕ → Stepped
copied_step m p k list copied =
    let whole : Bool = nat_le (length list) copied in
    replied (with_pack m (record p { copying = Some (record k { copied = copied; is_whole = whole }) })) (copying_reply whole (change_count (take copied list)))

-- the next transactions are copied, those of one turn
abbrev pub copy_step : Machine → OpenPack → PackCopying → List Transaction → Stepped
copy_step m p k list = copied_step m p k list (k.copied + length (turn_from 0 (drop k.copied list)))

-- the switch: the reach is tested again, over the list as it stands
abbrev pub switch_step : (List ℕ → Option (List ℕ)) → Machine → OpenPack → PackCopying → Stepped
switch_step named m p k =
    unless_unread m (unread p.collects named p.tid m.list)
    (unless_overtaken m (overtaken p.collects named k.kept p.tid (take k.began m.list) (drop k.began m.list))
    (switched m p.tid (packed p.collects named p.tid m.list)))

-- PackTurn: marking, copying, or the switch
abbrev pub turn_of_copying : (List ℕ → Option (List ℕ)) → Machine → OpenPack → Option PackCopying → Stepped
turn_of_copying named m p None = mark_step named m p
turn_of_copying named m p (Some k) = if k.is_whole then switch_step named m p k else copy_step m p k (packed_by p.tid k.kept m.list)

abbrev pub turn_step : (List ℕ → Option (List ℕ)) → Machine → Option OpenPack → Stepped
turn_step named m None = replied_refusal m refusal.NoPack
turn_step named m (Some p) = turn_of_copying named m p p.copying

-- ---- what changed since

-- Last: the newest tid, and how many changes the list has
abbrev pub last_step : Machine → Stepped
last_step m = replied m (reply.Last (newest_tid m.list) (change_count m.list))

-- nothing up to the tid was dropped since so many changes were counted there, and not too much is behind it
abbrev pub keeps_since : List Transaction → ℕ → ℕ → Bool
keeps_since list tid changes = (changes_up_to tid list == changes) && nat_le (length (filter (is_above tid) list)) news_limit

abbrev pub commit_of : Transaction → NewsCommit
commit_of x = record { tid = x.tid; oids = oids_of x }

abbrev pub commits_since : Bool → List Transaction → ℕ → List NewsCommit
commits_since true list tid = map commit_of (filter (is_above tid) list)
commits_since false list tid = []

-- Since: the commits behind a tid, where what was read up to it still holds
abbrev pub since_step : Machine → ℕ → ℕ → Stepped
since_step m tid changes =
    let keep : Bool = keeps_since m.list tid changes in
    replied m (reply.Since keep (commits_since keep m.list tid))

-- ---- a step

-- what undo writes, each new change seen over the list
abbrev pub changes_undone : List Transaction → Result (List NewChange) Refusal → Result (List Change) Refusal
changes_undone list (Ok changes) = Ok (map (voted_change list) changes)
changes_undone list (Err r) = Err r

-- what an open session is answered where nothing refuses it at once
abbrev pub request_step : Rules → Machine → ℕ → Request → ℕ → Stepped
request_step rules m n request.Front stamp = front_step m n
request_step rules m n (request.LoadBefore oid front) stamp = replied m (loaded m oid (found_below oid front m.list))
request_step rules m n (request.NewOids count) stamp = oids_step m count
request_step rules m n (request.Vote user description extension pending) stamp =
    vote_step m n (record { user = user; description = description; extension = extension }) stamp (vote_decision rules.merging m.list pending)
request_step rules m n (request.Undo user description tids) stamp =
    vote_step m n (record { user = user; description = description; extension = [] }) stamp (changes_undone m.list (undone_of rules.merging m.list tids))
request_step rules m n request.Finish stamp = finish_step m n m.vote
request_step rules m n request.Abort stamp = replied (without_vote m n) reply.Aborted
request_step rules m n (request.History oid) stamp = replied m (reply.History (history_of oid m.list))
request_step rules m n request.UndoLog stamp = replied m (reply.UndoLog (undo_log_of m.list))
request_step rules m n (request.Pack tid collect) stamp = pack_step rules.named m (pack_tid tid m.list) collect
request_step rules m n (request.PackBegin tid collect) stamp = begin_step m n (pack_tid tid m.list) collect
request_step rules m n request.PackTurn stamp = turn_step rules.named m m.pack
request_step rules m n request.Last stamp = last_step m
request_step rules m n (request.Since tid changes) stamp = since_step m tid changes
request_step rules m n request.Close stamp = replied (without_session m n) reply.Closed

abbrev pub unless_early : Option Refusal → Machine → Stepped → Stepped
unless_early (Some r) m made = replied_refusal m r
unless_early None m made = made

-- a step of session n, where the clock's next stamp has this number
abbrev pub step_of : Rules → Machine → ℕ → Request → ℕ → Stepped
step_of rules m n q stamp = unless_early (early_refusal m n q) m (request_step rules m n q stamp)
