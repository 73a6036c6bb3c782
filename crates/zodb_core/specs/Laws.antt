-- Laws of the machine: what holds of every step and of every history, over whatever rules. Own.
use Rattle.std.specs.Prelude.{◌↔◌, ◌≡◌, ℕ, ◌<◌, ◌≤◌, ◌+◌, ◌-◌, ◌^◌, List, [], ◌∷◌, ◌++◌, Some, All, None, length, Option, false, true, ◌≢◌}
use Rattle.std.specs.List.{AllPairs}
use Rattle.std.specs.Result.{result_ok}
use Rattle.zb_base.specs.Counts.{Rose}
use Rattle.zb_ids.specs.Tids.{tid_after}
use Rattle.zb_model.specs.declared.data.Change.{Change}
use Rattle.zb_model.specs.declared.data.Content.TheVariants.{Held}
use Rattle.zb_model.specs.declared.data.Transaction.{Transaction}
use Rattle.zb_model.specs.declared.refusal.Refusal.{Refusal}
use Rattle.zb_model.specs.declared.refusal.Refusal.TheVariants as refusal
use Rattle.zb_model.specs.Database.{IsDatabase, content_below, newest_tid, revision_below}
use Rattle.zb_model.specs.Queries.{greatest_oid}
use Rattle.commit_phases.specs.Decision.{vote_decision}
use Rattle.commit_phases.specs.Pending.{AreStores, PendingChanges}
use Rattle.commit_phases.specs.Voted.{MayGoIn}
use Rattle.undo_records.specs.Undone.{undone_of}
use Rattle.pack_reach.specs.Packed.{packed}
use Rattle.zodb_core.specs.declared.reply.Reply.{Reply}
use Rattle.zodb_core.specs.declared.reply.Reply.TheVariants as reply
use Rattle.zodb_core.specs.declared.request.Request.{Request}
use Rattle.zodb_core.specs.declared.request.Request.TheVariants as request
use Rattle.zodb_core.specs.Handed.{NumberRange, all_numbers, end_of_range, fronts_told, numbers_handed}
use Rattle.zodb_core.specs.History.{Entry, IsLegal, IsLegalOver, counts_after, machine_after, machine_behind}
use Rattle.zodb_core.specs.Machine.{Machine, Rules, front_of, is_open_in, machine_over, with_session}
use Rattle.zodb_core.specs.Outcomes.{Answered, AreLaterCounts, FaultCounts, IsStepMade, NoMemory, ReadingFailed, StepOutcome, StoreFailed, failed, is_pack, is_packed, machine_left, outcome_of, unanswered}
use Rattle.zodb_core.specs.Seen.{KeepsSeen, PackGoal, goal_of_open, pack_goal}
use Rattle.zodb_core.specs.Sound.{AreWellFormedRequests, Becomes, BecomesAsMarked, GrowsByOne, GrowsTo, HasNoPack, IsWellFormedRequest, IsPackWithin, IsSoundMachine, ComesTo}
use Rattle.zodb_core.specs.Steps.{Stepped, busy_for, changes_in_journal, changes_undone, early_refusal, journal_limit, step_of, without_pack}
use Rattle.zodb_core.specs.Waiting.{needs_vote}

-- ---- the machine stays sound

-- over a database it starts sound
abbrev pub MachineStartsSound : Type 0
MachineStartsSound = (list : List Transaction) → IsDatabase list → IsSoundMachine (machine_over list)

-- a step leaves it sound
abbrev pub StepsKeepSound : Type 0
StepsKeepSound = (rules : Rules) (m : Machine) (n : ℕ) (q : Request) (stamp : ℕ) → IsSoundMachine m → IsWellFormedRequest q → IsSoundMachine (step_of rules m n q stamp).machine

-- however it ends
abbrev pub EndingsKeepSound : Type 0
EndingsKeepSound = (rules : Rules) (m : Machine) (n : ℕ) (q : Request) (stamp : ℕ) (outcome : StepOutcome)
    → IsSoundMachine m → IsWellFormedRequest q → IsSoundMachine (machine_left rules m n q stamp outcome)

-- and so does the opening of a session
abbrev pub OpeningsKeepSound : Type 0
OpeningsKeepSound = (m : Machine) → IsSoundMachine m → IsSoundMachine (with_session m)

-- and every history, legal or not
abbrev pub HistoriesKeepSound : Type 0
HistoriesKeepSound = (rules : Rules) (m : Machine) (entries : List Entry) → IsSoundMachine m → AreWellFormedRequests entries → IsSoundMachine (machine_after rules m entries)

-- so a database stays one over every legal history
abbrev pub ListsStayDatabases : Type 0
ListsStayDatabases = (rules : Rules) (list : List Transaction) (counts : FaultCounts) (entries : List Entry)
    → IsDatabase list → AreWellFormedRequests entries → IsLegalOver rules list counts entries → IsDatabase (machine_after rules (machine_over list) entries).list

-- ---- its list only grows, but for packs

-- a step leaves the list, puts one later transaction behind it, or packs it, however it ends
abbrev pub StepsGrowOrPack : Type 0
StepsGrowOrPack = (rules : Rules) (m : Machine) (n : ℕ) (q : Request) (stamp : ℕ) (outcome : StepOutcome) → IsSoundMachine m → Becomes m.list (machine_left rules m n q stamp outcome).list

-- and where it packs it, the objects are kept that the machine marks
abbrev pub StepsPackAsMarked : Type 0
StepsPackAsMarked = (rules : Rules) (m : Machine) (n : ℕ) (q : Request) (stamp : ℕ) (outcome : StepOutcome) → IsSoundMachine m
    → BecomesAsMarked rules.named m.list (machine_left rules m n q stamp outcome).list

-- only a request to pack packs it
abbrev pub ListsOnlyGrow : Type 0
ListsOnlyGrow = (rules : Rules) (m : Machine) (n : ℕ) (q : Request) (stamp : ℕ) (outcome : StepOutcome) → is_pack q ≡ false → IsSoundMachine m → GrowsByOne m.list (machine_left rules m n q stamp outcome).list

-- a history makes of it what such steps make
abbrev pub HistoriesComeTo : Type 0
HistoriesComeTo = (rules : Rules) (m : Machine) (entries : List Entry) → IsSoundMachine m → AreWellFormedRequests entries → ComesTo m.list (machine_after rules m entries).list

-- and where none of it is a request to pack, it puts later transactions behind the list
abbrev pub HistoriesOnlyGrow : Type 0
HistoriesOnlyGrow = (rules : Rules) (m : Machine) (entries : List Entry) → IsSoundMachine m → AreWellFormedRequests entries → HasNoPack entries → GrowsTo m.list (machine_after rules m entries).list

-- no list that steps made of another has an older newest transaction, nor a lower front
abbrev pub NewestNeverFalls : Type 0
NewestNeverFalls = (list now : List Transaction) → ComesTo list now → (newest_tid list ≤ newest_tid now) × (front_of list ≤ front_of now)

-- every state below a front that a list had reached is as it was, once it has grown
abbrev pub StatesBelowFrontsStay : Type 0
StatesBelowFrontsStay = (oid front : ℕ) (list grown : List Transaction) → GrowsTo list grown → front ≤ front_of list
    → (revision_below oid front grown ≡ revision_below oid front list) × (content_below oid front grown ≡ content_below oid front list)

-- and each record that stands below such a front, whatever steps made of the list, stood there before
abbrev pub RecordsBelowFrontsStood : Type 0
RecordsBelowFrontsStood = (oid front serial : ℕ) (bytes : List ℕ) (list now : List Transaction) → ComesTo list now → front ≤ front_of list
    → revision_below oid front now ≡ Some (record { serial = serial; content = Held bytes }) → revision_below oid front list ≡ Some (record { serial = serial; content = Held bytes })

-- ---- packs keep what views see

-- A step that packs the list has a goal, that of its request or of the open pack, and the list is packed just so.
pub record IsPackedTo (named : List ℕ → Option (List ℕ)) (goal : Option PackGoal) (list now : List Transaction) : Type 0 where
  pub to : PackGoal
  pub asked : goal ≡ Some to
  pub is : now ≡ packed to.collects named to.tid list

abbrev pub ListsArePackedAsAsked : Type 0
ListsArePackedAsAsked = (rules : Rules) (m : Machine) (n : ℕ) (q : Request) (stamp : ℕ) → is_packed (step_of rules m n q stamp).reply ≡ true
    → IsPackedTo rules.named (pack_goal q m.list (goal_of_open m.pack)) m.list (step_of rules m n q stamp).machine.list

-- no other step of a pack changes the list
abbrev pub TurnsKeepLists : Type 0
TurnsKeepLists = (rules : Rules) (m : Machine) (n : ℕ) (q : Request) (stamp : ℕ) → is_pack q ≡ true → is_packed (step_of rules m n q stamp).reply ≡ false → (step_of rules m n q stamp).machine.list ≡ m.list

-- a pack, in one step or in turns, keeps what views above its tid see
abbrev pub PacksKeepViews : Type 0
PacksKeepViews = (rules : Rules) (m : Machine) (n : ℕ) (q : Request) (stamp : ℕ) → IsDatabase m.list
    → KeepsSeen rules.named (goal_of_open m.pack) q (step_of rules m n q stamp).reply m.list (step_of rules m n q stamp).machine.list

-- and it leaves the front; a turn does so where the open pack goes less far than the newest transaction
abbrev pub PacksKeepFronts : Type 0
PacksKeepFronts = (rules : Rules) (m : Machine) (n : ℕ) (q : Request) (stamp : ℕ) → is_pack q ≡ true → (q ≡ request.PackTurn → IsPackWithin m.list m.pack)
    → front_of (step_of rules m n q stamp).machine.list ≡ front_of m.list

-- ---- fronts never fall

-- no front that a session was told is below one that any session was told before it
abbrev pub FrontsNeverFall : Type 0
FrontsNeverFall = (rules : Rules) (m : Machine) (counts : FaultCounts) (entries : List Entry)
    → IsSoundMachine m → AreWellFormedRequests entries → IsLegal rules m counts entries → AllPairs (λ earlier later. earlier ≤ later) (fronts_told entries)

-- ---- new numbers are new

-- the greatest number never falls, however a step ends
abbrev pub GreatestNeverFalls : Type 0
GreatestNeverFalls = (rules : Rules) (m : Machine) (n : ℕ) (q : Request) (stamp : ℕ) (outcome : StepOutcome) → m.greatest ≤ (machine_left rules m n q stamp outcome).greatest

-- the numbers that an entry hands out begin above the greatest, and the greatest behind it is their last
pub record ComeBehindGreatest (rules : Rules) (m : Machine) (e : Entry) (range : NumberRange) : Type 0 where
  pub above : range.first ≡ m.greatest + 1
  pub last : (machine_behind rules m e).greatest + 1 ≡ end_of_range range

abbrev pub NumbersComeBehindGreatest : Type 0
NumbersComeBehindGreatest = (rules : Rules) (m : Machine) (counts : FaultCounts) (e : Entry) (range : NumberRange)
    → IsLegal rules m counts (e ∷ []) → numbers_handed e ≡ Some range → ComeBehindGreatest rules m e range

-- Numbers that come behind a history: they are above the greatest that it began with, and none of them, nor any after them, stood in the list at any moment of
-- it or was handed out in it.
pub record AreNewNumbers (rules : Rules) (m : Machine) (entries : List Entry) (range : NumberRange) : Type 0 where
  pub above : m.greatest < range.first
  pub unlisted : (front rest : List Entry) → entries ≡ front ++ rest → greatest_oid (machine_after rules m front).list < range.first
  pub unhanded : All (λ earlier. end_of_range earlier ≤ range.first) (all_numbers entries)

abbrev pub NewNumbersAreNew : Type 0
NewNumbersAreNew = (rules : Rules) (m : Machine) (counts : FaultCounts) (entries : List Entry) (e : Entry) (range : NumberRange)
    → IsSoundMachine m → AreWellFormedRequests entries → IsLegal rules m counts (entries ++ e ∷ []) → numbers_handed e ≡ Some range → AreNewNumbers rules m entries range

-- ---- answers and counts

-- the machine by itself never answers that reading failed, that memory ran out or that the store failed
abbrev pub StepsAreAnswered : Type 0
StepsAreAnswered = (rules : Rules) (m : Machine) (n : ℕ) (q : Request) (stamp : ℕ) → outcome_of (step_of rules m n q stamp).reply ≡ Answered

-- along a legal history neither count of faults falls
abbrev pub CountsNeverFall : Type 0
CountsNeverFall = (rules : Rules) (m : Machine) (counts : FaultCounts) (entries : List Entry) → IsLegal rules m counts entries → AreLaterCounts counts (counts_after counts entries)

-- ---- what a refusal leaves

-- It leaves the machine, but for this: an unreadable record and an object that commits led to end the pack, and so does a request on a pack for which reading failed
-- or memory ran out; a store that failed closes every session.
abbrev pub left_by_refusal : Request → Refusal → Machine → Machine
left_by_refusal q (refusal.Unreadable oid tid) m = without_pack m
left_by_refusal q (refusal.Overtaken oid tid) m = without_pack m
left_by_refusal q refusal.ReadFault m = unanswered q m
left_by_refusal q refusal.Memory m = unanswered q m
left_by_refusal q refusal.StoreFault m = failed m
left_by_refusal q _ m = m

abbrev pub RefusalsLeave : Type 0
RefusalsLeave = (rules : Rules) (m : Machine) (n : ℕ) (q : Request) (stamp : ℕ) (made : Stepped) (before now : FaultCounts) (r : Refusal) → IsStepMade rules m n q stamp made before now
    → made.reply ≡ reply.Refused r → made.machine ≡ left_by_refusal q r m

-- ---- votes that nothing stands against

-- The session is open and no vote is held; stores and deletes are as their type has them, all of them may go in, the journal has room for them, and a tid is left.
pub record IsCurrentVote (m : Machine) (n : ℕ) (pending : PendingChanges) (stamp : ℕ) : Type 0 where
  pub is_open : is_open_in m.sessions n ≡ true
  pub free : m.vote ≡ None
  pub stores : AreStores pending.stores
  pub current : MayGoIn m.list pending
  pub room : changes_in_journal m.journal + length pending.stores ≤ journal_limit
  pub left : tid_after (newest_tid m.list) stamp < 2 ^ 64 - 1

-- what was answered is Voted, and else a count of faults rose or memory ran out
abbrev pub IsVotedUnlessFailed : FaultCounts → FaultCounts → Reply → StepOutcome → Type 0
IsVotedUnlessFailed before now r Answered = r ≡ reply.Voted
IsVotedUnlessFailed before now r ReadingFailed = Rose before.reads now.reads
IsVotedUnlessFailed before now r NoMemory = Unit {0}
IsVotedUnlessFailed before now r StoreFailed = Rose before.others now.others

abbrev pub CurrentVotesAreVoted : Type 0
CurrentVotesAreVoted = (rules : Rules) (m : Machine) (n : ℕ) (user description extension : List ℕ) (pending : PendingChanges) (stamp : ℕ) (made : Stepped) (before now : FaultCounts)
    → IsStepMade rules m n (request.Vote user description extension pending) stamp made before now → IsCurrentVote m n pending stamp
    → IsVotedUnlessFailed before now made.reply (outcome_of made.reply)

-- ---- a full journal

-- what a vote or an undo is to write, where that is decided
abbrev pub changes_asked : Rules → Machine → Request → Option (List Change)
changes_asked rules m (request.Vote user description extension pending) = result_ok (vote_decision rules.merging m.list pending)
changes_asked rules m (request.Undo user description tids) = result_ok (changes_undone m.list (undone_of rules.merging m.list tids))
changes_asked rules m _ = None

-- something is to be written, and with it the journal has this many changes, which are too many
pub record OverfillsJournal (m : Machine) (asked : Option (List Change)) (count : ℕ) : Type 0 where
  pub changes : List Change
  pub written : asked ≡ Some changes
  pub some : 0 < length changes
  pub counted : count ≡ changes_in_journal m.journal + length changes
  pub above : journal_limit < count

-- a step is refused for a full journal exactly where nothing refuses it at once and it is to write too much
abbrev pub JournalIsFull : Type 0
JournalIsFull = (rules : Rules) (m : Machine) (n : ℕ) (q : Request) (stamp count : ℕ)
    → ((step_of rules m n q stamp).reply ≡ reply.Refused (refusal.JournalFull count)) ↔ ((early_refusal m n q ≡ None) × OverfillsJournal m (changes_asked rules m q) count)

-- ---- what no step is answered

-- no step is refused for the length of a history
abbrev pub StepsHaveRoom : Type 0
StepsHaveRoom = (rules : Rules) (m : Machine) (n : ℕ) (q : Request) (stamp : ℕ) (made : Stepped) (before now : FaultCounts) → IsStepMade rules m n q stamp made before now
    → made.reply ≢ reply.Refused refusal.StepsSpent

-- and a vote or an undo of an open session isn't busy while no other session holds the vote
abbrev pub FreeVotesAreServed : Type 0
FreeVotesAreServed = (rules : Rules) (m : Machine) (n : ℕ) (q : Request) (stamp : ℕ) (made : Stepped) (before now : FaultCounts) → IsStepMade rules m n q stamp made before now
    → needs_vote q ≡ true → (is_open_in m.sessions n ≡ true → busy_for n m.vote ≡ None) → (holder : ℕ) → made.reply ≢ reply.Refused (refusal.Busy holder)
