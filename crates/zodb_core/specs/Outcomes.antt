-- How a step ends: answered, or not made because reading failed, memory ran out or the store failed. Own.
use Rattle.std.specs.Prelude.{◌≡◌, ℕ, ◌≤◌, Option, None, Bool, true, false, not, IsTrue, if◌then◌else◌, ◌==◌, is_some, map}
use Rattle.std.specs.Option.{option_map_or}
use Rattle.zb_base.specs.Counts.{Rose}
use Rattle.zb_model.specs.declared.refusal.Refusal.{Refusal}
use Rattle.zb_model.specs.declared.refusal.Refusal.TheVariants as refusal
use Rattle.zodb_core.specs.declared.reply.Reply.{Reply}
use Rattle.zodb_core.specs.declared.reply.Reply.TheVariants as reply
use Rattle.zodb_core.specs.declared.request.Request.{Request}
use Rattle.zodb_core.specs.declared.request.Request.TheVariants as request
use Rattle.zodb_core.specs.Machine.{Machine, MachineSession, MachineVote, Rules}
use Rattle.zodb_core.specs.Steps.{Stepped, early_refusal, step_of, without_pack}

pub data StepOutcome : Type 0 where
  Answered : StepOutcome
  ReadingFailed : StepOutcome
  NoMemory : StepOutcome
  StoreFailed : StepOutcome

-- what a reply says of it
abbrev pub outcome_of_refusal : Refusal → StepOutcome
outcome_of_refusal refusal.ReadFault = ReadingFailed
outcome_of_refusal refusal.Memory = NoMemory
outcome_of_refusal refusal.StoreFault = StoreFailed
outcome_of_refusal _ = Answered

abbrev pub outcome_of : Reply → StepOutcome
outcome_of (reply.Refused r) = outcome_of_refusal r
outcome_of _ = Answered

-- ---- what a step may meet

-- What a request may do: read the store, take memory, change the store, and work on a pack. A pack is begun without reading what the store holds, but the begin may
-- fail as a read does.
pub record Demands : Type 0 where
  pub reads : Bool
  pub memory : Bool
  pub writes : Bool
  pub packs : Bool

abbrev pub demands : Request → Demands
demands request.Front = record { reads = false; memory = true; writes = false; packs = false }
demands (request.LoadBefore oid front) = record { reads = true; memory = true; writes = false; packs = false }
demands (request.NewOids count) = record { reads = false; memory = false; writes = false; packs = false }
demands (request.Vote user description extension pending) = record { reads = true; memory = true; writes = true; packs = false }
demands (request.Undo user description tids) = record { reads = true; memory = true; writes = true; packs = false }
demands request.Finish = record { reads = false; memory = false; writes = true; packs = false }
demands request.Abort = record { reads = false; memory = false; writes = true; packs = false }
demands (request.History oid) = record { reads = true; memory = true; writes = false; packs = false }
demands request.UndoLog = record { reads = true; memory = true; writes = false; packs = false }
demands (request.Pack tid collect) = record { reads = true; memory = true; writes = true; packs = true }
demands (request.PackBegin tid collect) = record { reads = true; memory = true; writes = true; packs = true }
demands request.PackTurn = record { reads = true; memory = true; writes = true; packs = true }
demands request.Last = record { reads = false; memory = false; writes = false; packs = false }
demands (request.Since tid changes) = record { reads = true; memory = true; writes = false; packs = false }
demands request.Close = record { reads = false; memory = false; writes = true; packs = false }

-- a request for which the store is read
abbrev pub reads_store : Request → Bool
reads_store q = (demands q).reads

-- a request that takes memory
abbrev pub takes_memory : Request → Bool
takes_memory q = (demands q).memory

-- a request by which no store is changed, whatever it holds
abbrev pub keeps_store : Request → Bool
keeps_store q = not (demands q).writes

-- a request on a pack
abbrev pub is_pack : Request → Bool
is_pack q = (demands q).packs

-- the list was packed
abbrev pub is_packed : Reply → Bool
is_packed (reply.Packed kept dropped) = true
is_packed _ = false

-- a pack goes on, or the list was packed: the store was written
abbrev pub is_pack_going : Reply → Bool
is_pack_going (reply.Packing tid) = true
is_pack_going (reply.Copying count) = true
is_pack_going (reply.Copied count) = true
is_pack_going r = is_packed r

-- a session holds the vote, and something is to be written
abbrev pub holds_writes : ℕ → Option MachineVote → Bool
holds_writes n vote = option_map_or (λ v. if v.session == n then is_some v.writes else false) vote false

-- a step that changes the store: one by which something is voted, or by which what was voted is appended or dropped, or by which a copy of the list is begun, goes
-- on, or takes its place
abbrev pub changes_store : Machine → ℕ → Request → Stepped → Bool
changes_store m n (request.Vote user description extension pending) made = holds_writes n made.machine.vote
changes_store m n (request.Undo user description tids) made = holds_writes n made.machine.vote
changes_store m n request.Finish made = holds_writes n m.vote
changes_store m n request.Abort made = holds_writes n m.vote
changes_store m n request.Close made = holds_writes n m.vote
changes_store m n (request.Pack tid collect) made = is_packed made.reply
changes_store m n (request.PackBegin tid collect) made = is_pack_going made.reply
changes_store m n request.PackTurn made = is_pack_going made.reply
changes_store m n _ made = false

-- ---- what is left

-- no session is open
abbrev pub closed_session : MachineSession → MachineSession
closed_session x = record x { is_open = false }

-- the store failed: every session is closed, and nothing is voted or being packed
abbrev pub failed : Machine → Machine
failed m = record m { sessions = map closed_session m.sessions; vote = None; pack = None; failed = true }

-- where reading failed or memory ran out, it is as it was, but a request on a pack drops the pack
abbrev pub unanswered : Request → Machine → Machine
unanswered q m = if is_pack q then without_pack m else m

abbrev pub machine_left : Rules → Machine → ℕ → Request → ℕ → StepOutcome → Machine
machine_left rules m n q stamp Answered = (step_of rules m n q stamp).machine
machine_left rules m n q stamp ReadingFailed = unanswered q m
machine_left rules m n q stamp NoMemory = unanswered q m
machine_left rules m n q stamp StoreFailed = failed m

-- ---- a step that was made

-- the count of failed reads, and that of the failed calls that would have changed something
pub record FaultCounts : Type 0 where
  pub reads : ℕ
  pub others : ℕ

-- neither count has fallen
pub record AreLaterCounts (before now : FaultCounts) : Type 0 where
  pub reads : before.reads ≤ now.reads
  pub others : before.others ≤ now.others

-- a step may go wrong: it is one of these, and nothing refuses it at once
pub record MayGoWrong (m : Machine) (n : ℕ) (q : Request) (is_one : Bool) : Type 0 where
  pub allowed : early_refusal m n q ≡ None
  pub one : is_one ≡ true

-- why it ended so
abbrev pub EndsFor : Rules → Machine → ℕ → Request → ℕ → Stepped → FaultCounts → FaultCounts → StepOutcome → Type 0
EndsFor rules m n q stamp made before now Answered = made ≡ step_of rules m n q stamp
EndsFor rules m n q stamp made before now ReadingFailed = MayGoWrong m n q (reads_store q) × Rose before.reads now.reads
EndsFor rules m n q stamp made before now NoMemory = MayGoWrong m n q (takes_memory q)
EndsFor rules m n q stamp made before now StoreFailed = MayGoWrong m n q (changes_store m n q (step_of rules m n q stamp)) × Rose before.others now.others

-- A step that was made, with the counts of faults before and after it. It is as the machine says but for this: where the store is read, reading may
-- have failed; where memory is taken, it may have run out; where the store is changed, it may have failed. The clock is read nowhere but where the
-- machine reads it (`ticks`). A step that is answered has read it exactly there, and so has one whose store failed (`failed_ticks`): a vote has
-- read it by then, while a finish, an abort, a close or a pack hasn't. Where reading failed or memory ran out it may have been read or not, since
-- a vote reads and takes memory before it comes to the clock, and once more when the store votes behind it.
pub record IsStepMade (rules : Rules) (m : Machine) (n : ℕ) (q : Request) (stamp : ℕ) (made : Stepped) (before now : FaultCounts) : Type 0 where
  pub later : AreLaterCounts before now
  pub cause : EndsFor rules m n q stamp made before now (outcome_of made.reply)
  pub left : made.machine ≡ machine_left rules m n q stamp (outcome_of made.reply)
  pub ticks : IsTrue made.ticks → IsTrue (step_of rules m n q stamp).ticks
  pub failed_ticks : outcome_of made.reply ≡ StoreFailed → made.ticks ≡ (step_of rules m n q stamp).ticks
