-- A history: what sessions were answered, in the order of their steps. Own.
use Rattle.std.specs.Prelude.{◌≡◌, ℕ, ◌<◌, List, [], ◌∷◌, ◌++◌, Option, Some, None, Bool, true, false, length, is_some}
use Rattle.std.specs.Option.{unwrap_or}
use Rattle.zb_model.specs.declared.data.Transaction.{Transaction}
use Rattle.zodb_core.specs.declared.reply.Reply.{Reply}
use Rattle.zodb_core.specs.declared.request.Request.{Request}
use Rattle.zodb_core.specs.Machine.{Machine, Rules, machine_over, session_limit, with_session}
use Rattle.zodb_core.specs.Outcomes.{Answered, FaultCounts, IsStepMade, machine_left, outcome_of}
use Rattle.zodb_core.specs.Stamps.{IsStampNumber, IsStampNumberIfSome}
use Rattle.zodb_core.specs.Steps.{Stepped, step_of}

-- a step of a session: its request, the number of the stamp, where the clock was read, the reply, and the counts of faults behind it
pub record HistoryStep : Type 0 where
  pub session : ℕ
  pub request : Request
  pub stamp : Option ℕ
  pub reply : Reply
  pub counts : FaultCounts

-- the opening of a session, with its number, or a step
pub data Entry : Type 0 where
  Opened : ℕ → Entry
  Made : HistoryStep → Entry

-- a step that read no clock is the same for every stamp
abbrev pub stamp_of_step : HistoryStep → ℕ
stamp_of_step e = unwrap_or e.stamp 0

-- the machine behind an entry
abbrev pub machine_behind : Rules → Machine → Entry → Machine
machine_behind rules m (Opened n) = with_session m
machine_behind rules m (Made e) = machine_left rules m e.session e.request (stamp_of_step e) (outcome_of e.reply)

-- the machine behind a history
abbrev pub machine_after : Rules → Machine → List Entry → Machine
machine_after rules m [] = m
machine_after rules m (e ∷ entries) = machine_after rules (machine_behind rules m e) entries

-- the counts of faults behind an entry
abbrev pub counts_behind : FaultCounts → Entry → FaultCounts
counts_behind counts (Opened n) = counts
counts_behind counts (Made e) = e.counts

-- the counts of faults behind a history
abbrev pub counts_after : FaultCounts → List Entry → FaultCounts
counts_after counts [] = counts
counts_after counts (e ∷ entries) = counts_after (counts_behind counts e) entries

-- the entry of a step, by a clock that was read (`ticks`) and gave a stamp, or wasn't
abbrev pub stamp_if_read : Bool → ℕ → Option ℕ
stamp_if_read false stamp = None
stamp_if_read true stamp = Some stamp

abbrev pub entry_made : ℕ → Request → Bool → ℕ → Reply → FaultCounts → Entry
entry_made n q ticks stamp r counts = Made (record { session = n; request = q; stamp = stamp_if_read ticks stamp; reply = r; counts = counts })

-- what the step of an entry gave
abbrev pub made_by : Rules → Machine → HistoryStep → Stepped
made_by rules m e = record { reply = e.reply; machine = machine_behind rules m (Made e); ticks = is_some e.stamp }

-- a session is opened with the next number, while there are less than 64
pub record OpensNext (m : Machine) (n : ℕ) : Type 0 where
  pub number : n ≡ length m.sessions
  pub room : n < session_limit

-- the machine may take an entry; where the clock was read, it gave a stamp
abbrev pub IsNextEntry : Rules → Machine → FaultCounts → Entry → Type 0
IsNextEntry rules m counts (Opened n) = OpensNext m n
IsNextEntry rules m counts (Made e) = IsStepMade rules m e.session e.request (stamp_of_step e) (made_by rules m e) counts e.counts × IsStampNumberIfSome e.stamp

-- the machine may take these entries, one after another
abbrev pub IsLegal : Rules → Machine → FaultCounts → List Entry → Type 0
IsLegal rules m counts [] = Unit {0}
IsLegal rules m counts (e ∷ entries) = IsNextEntry rules m counts e × IsLegal rules (machine_behind rules m e) (counts_behind counts e) entries

-- and so over a list, from the counts that its store had
abbrev pub IsLegalOver : Rules → List Transaction → FaultCounts → List Entry → Type 0
IsLegalOver rules list counts entries = IsLegal rules (machine_over list) counts entries

-- ---- laws

-- what a legal history begins with is legal
abbrev pub PrefixesAreLegal : Type 0
PrefixesAreLegal = (rules : Rules) (m : Machine) (counts : FaultCounts) (front rest : List Entry) → IsLegal rules m counts (front ++ rest) → IsLegal rules m counts front

-- Two steps of one machine that are answered are one and the same, whatever made them: the definition names no store.
abbrev pub RepliesAreOne : Type 0
RepliesAreOne = (rules : Rules) (m : Machine) (n : ℕ) (q : Request) (stamp : ℕ) (one other : Stepped) (a b c d : FaultCounts)
    → IsStepMade rules m n q stamp one a b → IsStepMade rules m n q stamp other c d → outcome_of one.reply ≡ Answered → outcome_of other.reply ≡ Answered → one ≡ other

-- behind one entry more stands the machine behind that entry, and so do the counts
abbrev pub MachinesGoOn : Type 0
MachinesGoOn = (rules : Rules) (m : Machine) (entries : List Entry) (e : Entry) → machine_after rules m (entries ++ e ∷ []) ≡ machine_behind rules (machine_after rules m entries) e

abbrev pub CountsGoOn : Type 0
CountsGoOn = (counts : FaultCounts) (entries : List Entry) (e : Entry) → counts_after counts (entries ++ e ∷ []) ≡ counts_behind (counts_after counts entries) e

-- a legal history with an entry more that its machine may take is legal
abbrev pub HistoriesGoOn : Type 0
HistoriesGoOn = (rules : Rules) (m : Machine) (counts : FaultCounts) (entries : List Entry) (e : Entry) → IsLegal rules m counts entries
    → IsNextEntry rules (machine_after rules m entries) (counts_after counts entries) e → IsLegal rules m counts (entries ++ e ∷ [])

-- what an entry says of a step: the machine may take it, and what the step left is the machine behind it
pub record IsEntryFor (rules : Rules) (m left : Machine) (before : FaultCounts) (e : Entry) : Type 0 where
  pub next : IsNextEntry rules m before e
  pub leaves : left ≡ machine_behind rules m e

-- from a step that was made, by a stamp where the clock was read, comes the next entry
abbrev pub StepsAreEntries : Type 0
StepsAreEntries = (rules : Rules) (m left : Machine) (n : ℕ) (q : Request) (ticks : Bool) (stamp : ℕ) (r : Reply) (before now : FaultCounts)
    → IsStepMade rules m n q stamp (record { reply = r; machine = left; ticks = ticks }) before now → (ticks ≡ true → IsStampNumber stamp)
    → IsEntryFor rules m left before (entry_made n q ticks stamp r now)

-- where the machine reads no clock, its step is the same for every stamp
abbrev pub UnreadStepsAreOne : Type 0
UnreadStepsAreOne = (rules : Rules) (m : Machine) (n : ℕ) (q : Request) (a b : ℕ) → (step_of rules m n q a).ticks ≡ false → step_of rules m n q b ≡ step_of rules m n q a
