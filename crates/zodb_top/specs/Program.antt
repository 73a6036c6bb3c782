-- What the program writes, and what its statuses say of `run`. Own.
use Rattle.std.specs.Prelude.{◌≡◌, ◌≢◌, ◌<◌, ◌⊎◌, ℕ, List, Option, Some, None, false, IfSome}
use Rattle.std.specs.Option.{IsSomeAnd}
use Rattle.zb_base.specs.Counts.{Rose}
use Rattle.zb_script.specs.declared.limits.Limit.{Limit}
use Rattle.zb_script.specs.declared.limits.Limit.TheVariants.{Bytes}
use Rattle.zb_script.specs.declared.line.Turn.{Turn}
use Rattle.zb_script.specs.Limits.{first_limit}
use Rattle.zb_script.specs.Script.{IsBadLine, IsScript}
use Rattle.program_words.specs.declared.command.Command.{Command}
use Rattle.program_words.specs.declared.command.Command.TheVariants.{Gen, Pack, Play, Run, Serve}
use Rattle.script_runs.specs.declared.status.Status.{Status}
use Rattle.script_runs.specs.declared.status.Status.TheVariants.{Done, NoMemory, SourceFault, SinkFault, StoreFault, Damaged, BadLine, Limit as LimitPassed}
use Rattle.script_runs.specs.declared.manner.Manner.{Manner}
use Rattle.zodb_top.specs.Played.{IsCutShort, IsFaulted, IsStarved, IsWhole}
use Rattle.zodb_top.specs.Opened.{FailedToOpen, IsLeft, IsRefused, IsUnfailed, IsUnopened}
use Rattle.zodb_top.specs.Outside.{Outside}
use Rattle.zodb_top.specs.Texts.{bad_line, limit_line, read_fault_line}
use Rattle.script_runs.specs.Outcomes.{has_pack}
use Rattle.script_runs.specs.Written.{IsWritten}

-- the input is the script of these turns, and within the limits
abbrev pub IsInput : List ℕ → List Turn → Type 0
IsInput input turns = (first_limit input ≡ None) × IsScript input turns

-- the input is told, and no script that it is packs
pub record PacksNothing (left : Option (List ℕ)) : Type 0 where
  pub input : List ℕ
  pub told : left ≡ Some input
  pub none : (turns : List Turn) → IsInput input turns → has_pack turns ≡ false

-- and so it is of a script, of one that is made with less than a hundred rounds, and of each command that asks, but not of `pack`, nor of `serve`, whose clients may pack
abbrev pub KeepsSide : Option Command → Option (List ℕ) → Type 0
KeepsSide (Some Run) left = PacksNothing left
KeepsSide (Some Play) left = PacksNothing left
KeepsSide (Some (Pack pack)) left = ⊥
KeepsSide (Some (Serve request)) left = ⊥
KeepsSide (Some (Gen rounds)) left = rounds < 100
KeepsSide _ left = Unit {0}

-- this holds of turns, which are those of the input where the source tells
abbrev pub OfInput : Option (List ℕ) → (List Turn → Type 0) → Type 0
OfInput left holds = (turns : List Turn) × IfSome left (λ input. IsInput input turns) × holds turns

-- the file wasn't opened, and the line of a limit that is passed was written, or that of a bad line
pub record PassesLimit (left : Option (List ℕ)) (before after : Outside) : Type 0 where
  pub limit : Limit
  pub first : IfSome left (λ input. first_limit input ≡ Some limit)
  pub written : IsWritten before.taken after.taken before.sink_faults after.sink_faults (limit_line limit)

pub record HasBadLine (left : Option (List ℕ)) (before after : Outside) : Type 0 where
  pub number : ℕ
  pub bad : IfSome left (λ input. (first_limit input ≡ None) × IsBadLine input number)
  pub written : IsWritten before.taken after.taken before.sink_faults after.sink_faults (bad_line number)

-- What each status of `run` says, and of `play`: its cause, what was written, and what Main stands for. `told` says that the volume tells, and `unread` that the source's
-- count of faults rose; `left` is what the source had left.
abbrev pub RunSays : Manner → Status → Type 0 → Type 0 → Option (List ℕ) → Outside → Outside → Type 0
RunSays manner Done told unread left before after = OfInput left (λ turns. told → IsWhole manner turns before after)
RunSays manner NoMemory told unread left before after =
    ((after.taken ≡ before.taken) × (IsUnopened before after ⊎ (IsLeft told before after × IsUnfailed before after)))
    ⊎ OfInput left (λ turns. told → IsStarved manner turns before after)
RunSays manner SourceFault told unread left before after =
    unread × IsUnopened before after × IsWritten before.taken after.taken before.sink_faults after.sink_faults read_fault_line
RunSays manner SinkFault told unread left before after =
    Rose before.sink_faults after.sink_faults × OfInput left (λ turns. told → IsCutShort manner turns before after)
RunSays manner StoreFault told unread left before after =
    FailedToOpen told before after ⊎ (Rose before.write_faults after.write_faults × OfInput left (λ turns. told → IsFaulted manner turns before after))
RunSays manner Damaged told unread left before after = IsRefused told before after
RunSays manner BadLine told unread left before after = IsUnopened before after × HasBadLine left before after
RunSays manner LimitPassed told unread left before after = IsUnopened before after × PassesLimit left before after
RunSays manner _ told unread left before after = ⊥

-- with this status the source was read to its end; with that of a limit, where the input is told and doesn't pass the limit of its bytes
abbrev pub ReadsToEnd : Status → Option (List ℕ) → Type 0
ReadsToEnd Done left = Unit {0}
ReadsToEnd SinkFault left = Unit {0}
ReadsToEnd StoreFault left = Unit {0}
ReadsToEnd Damaged left = Unit {0}
ReadsToEnd BadLine left = Unit {0}
ReadsToEnd LimitPassed left = IsSomeAnd left (λ input. first_limit input ≢ Some Bytes)
ReadsToEnd _ left = ⊥
