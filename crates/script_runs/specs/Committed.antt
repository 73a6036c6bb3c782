-- That what was answered as committed stands in the list, or what packs left of it. Own.
use Rattle.std.specs.Prelude.{◌≡◌, ℕ, ◌<◌, List, [], ◌∷◌, ◌++◌, Bool, true, false, Option}
use Rattle.std.specs.List.{list_any}
use Rattle.zb_ids.specs.declared.stamp.Stamp.{Stamp}
use Rattle.zb_model.specs.declared.data.Transaction.{Transaction}
use Rattle.zb_model.specs.Database.{newest_tid}
use Rattle.zb_answers.specs.declared.answer.Answer.{Answer}
use Rattle.zb_answers.specs.declared.answer.Answer.TheVariants.{Committed, Packed}
use Rattle.zodb_core.specs.Machine.{Rules}
use Rattle.zodb_core.specs.Outcomes.{FaultCounts}
use Rattle.zodb_core.specs.Sound.{IsPackedAsMarked}
use Rattle.client_turns.specs.Clients.{Moment, first_moment}
use Rattle.client_turns.specs.Output.{FlaggedTurn, Out, TurnAnswer}
use Rattle.side_by_side.specs.Runs.{CameBy}

-- ---- what answers say of the list

-- a later transaction, with this tid, came behind the list
pub record IsCommittedTo (tid : ℕ) (list now : List Transaction) : Type 0 where
  pub transaction : Transaction
  pub tid_is : transaction.tid ≡ tid
  pub later : newest_tid list < tid
  pub behind : now ≡ list ++ transaction ∷ []

-- An answer makes one list of another: a commit puts a transaction behind it, and a pack leaves of it what the machine marks, up to a tid below its newest; any other
-- answer leaves it.
abbrev pub AnswerLeaves : Rules → Answer → List Transaction → List Transaction → Type 0
AnswerLeaves rules (Committed tid) list now = IsCommittedTo tid list now
AnswerLeaves rules (Packed kept dropped) list now = IsPackedAsMarked rules.named list now
AnswerLeaves rules _ list now = now ≡ list

-- and so answers, one after another
abbrev pub AnswersLeave : Rules → List TurnAnswer → List Transaction → List Transaction → Type 0
AnswersLeave rules [] list now = now ≡ list
AnswersLeave rules (o ∷ more) list now = (mid : List Transaction) × AnswerLeaves rules o.answer list mid × AnswersLeave rules more mid now

-- an answer says that the list was packed
abbrev pub is_packed : Answer → Bool
is_packed (Packed kept dropped) = true
is_packed _ = false

abbrev pub has_packed : List TurnAnswer → Bool
has_packed answers = list_any (λ o. is_packed o.answer) answers

-- one list begins with another
pub record BeginsWith (list front : List Transaction) : Type 0 where
  pub more : List Transaction
  pub parts : list ≡ front ++ more

-- the newest transaction of a list has this tid
pub record EndsWith (list : List Transaction) (tid : ℕ) : Type 0 where
  pub earlier : List Transaction
  pub transaction : Transaction
  pub parts : list ≡ earlier ++ transaction ∷ []
  pub tid_is : transaction.tid ≡ tid

-- ---- the moments of a run

-- The list behind a run is what the answers since such a moment left of the list there; where none of them says that it was packed, it begins with that.
pub record IsLeftSince (rules : Rules) (m : Moment) (turns : List FlaggedTurn) (given more : List TurnAnswer) (behind : Moment) : Type 0 where
  pub came : CameBy rules m turns given more behind
  pub left : AnswersLeave rules more came.at.machine.list behind.machine.list
  pub whole : has_packed more ≡ false → BeginsWith behind.machine.list came.at.machine.list

-- A transaction that was answered as committed was then the newest of the list, and the list behind the run is what the later answers left of that one.
pub record IsAcknowledged (rules : Rules) (m : Moment) (turns : List FlaggedTurn) (given more : List TurnAnswer) (tid : ℕ) (behind : Moment) : Type 0 where
  pub since : IsLeftSince rules m turns given more behind
  pub newest : EndsWith since.came.at.machine.list tid

-- each transaction that was answered as committed
abbrev pub HasCommitted : Rules → Moment → List FlaggedTurn → List TurnAnswer → Moment → Type 0
HasCommitted rules m turns answers behind =
    (given more : List TurnAnswer) (o : TurnAnswer) (tid : ℕ) → answers ≡ given ++ o ∷ more → o.answer ≡ Committed tid → IsAcknowledged rules m turns (given ++ o ∷ []) more tid behind

-- Behind every run over whatever rules, from its first moment on, the list has each transaction that was answered as committed, or what packs left of it. It is made
-- of the list at each moment that the run came by, by the commits and packs that were answered since then.
pub record KeepsCommitted (rules : Rules) (m : Moment) (turns : List FlaggedTurn) (answers : List TurnAnswer) (behind : Moment) : Type 0 where
  pub committed : HasCommitted rules m turns answers behind
  pub left : (given more : List TurnAnswer) → answers ≡ given ++ more → IsLeftSince rules m turns given more behind

abbrev pub CommittedStays : Type 0
CommittedStays = (rules : Rules) (list : List Transaction) (stamps : Option (List Stamp)) (counts : FaultCounts) (turns : List FlaggedTurn) (answers : List TurnAnswer) (now : Moment)
    → Out rules (first_moment list stamps counts) turns answers now → KeepsCommitted rules (first_moment list stamps counts) turns answers now
