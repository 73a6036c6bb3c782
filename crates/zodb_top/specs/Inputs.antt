-- What is told of a script that isn't run.
use Rattle.std.specs.Prelude.{◌≡◌, ℕ, List, Option, Some, None}
use Rattle.zb_script.specs.declared.limits.Limit.{Limit}
use Rattle.zb_script.specs.Limits.{first_limit}
use Rattle.zb_script.specs.Script.{IsBadLine}
use Rattle.script_runs.specs.declared.status.Status.{Status}
use Rattle.script_runs.specs.declared.status.Status.TheVariants as status
use Rattle.zodb_top.specs.Texts.{bad_line, limit_line}
use Rattle.script_runs.specs.Written.{IsWritten}

-- how many bytes a script has at most: 64 MiB
abbrev pub most_bytes : ℕ
most_bytes = 67108864

-- the line of a limit was written, or that of a bad line; or there was no memory for it
abbrev pub SaysLimit : Limit → Status → Option (List ℕ) → Option (List ℕ) → ℕ → ℕ → Type 0
SaysLimit l status.Limit old new before now = IsWritten old new before now (limit_line l)
SaysLimit l status.NoMemory old new before now = new ≡ old
SaysLimit l _ old new before now = ⊥

abbrev pub SaysBadLine : ℕ → Status → Option (List ℕ) → Option (List ℕ) → ℕ → ℕ → Type 0
SaysBadLine n status.BadLine old new before now = IsWritten old new before now (bad_line n)
SaysBadLine n status.NoMemory old new before now = new ≡ old
SaysBadLine n _ old new before now = ⊥

-- a script is no such one, which was told
pub record TellsLimit (input : List ℕ) (old new : Option (List ℕ)) (before now : ℕ) : Type 0 where
  pub limit : Limit
  pub first : first_limit input ≡ Some limit
  pub written : IsWritten old new before now (limit_line limit)

pub record TellsBadLine (input : List ℕ) (old new : Option (List ℕ)) (before now : ℕ) : Type 0 where
  pub number : ℕ
  pub within : first_limit input ≡ None
  pub bad : IsBadLine input number
  pub written : IsWritten old new before now (bad_line number)

-- what each status says of an input that wasn't read as a script
abbrev pub InputSays : Status → List ℕ → Option (List ℕ) → Option (List ℕ) → ℕ → ℕ → Type 0
InputSays status.NoMemory input old new before now = new ≡ old
InputSays status.BadLine input old new before now = TellsBadLine input old new before now
InputSays status.Limit input old new before now = TellsLimit input old new before now
InputSays _ input old new before now = ⊥
