-- What is said of a file that isn't open.
use Rattle.std.specs.Prelude.{◌≡◌, ℕ, List, Option, codes}
use Rattle.fs_recovery.specs.declared.errors.OpenError.{OpenError}
use Rattle.fs_recovery.specs.declared.errors.OpenError.TheVariants as error
use Rattle.script_runs.specs.declared.status.Status.{Status}
use Rattle.script_runs.specs.declared.status.Status.TheVariants as status
use Rattle.script_runs.specs.Written.{IsWritten}
use Rattle.zodb_top.specs.Texts.{damage_line}
use Rattle.script_runs.specs.Texts.{line, store_fault_line}

-- the line that names the damage
abbrev pub NamesError : OpenError → List ℕ → Type 0
NamesError error.NotFileStorage text = text ≡ line (codes "damaged 0 magic")
NamesError (error.BadRecord at field) text = text ≡ damage_line at field
NamesError error.StoreFault text = ⊥
NamesError error.Memory text = ⊥

-- Each status comes of its error, and its line was written: `old` and `new` are what the sink had taken before and
-- has now, `before` and `now` its count of faults.
abbrev pub SaysUnopened : Status → OpenError → Option (List ℕ) → Option (List ℕ) → ℕ → ℕ → Type 0
SaysUnopened status.StoreFault e old new before now = (e ≡ error.StoreFault) × IsWritten old new before now store_fault_line
SaysUnopened status.Damaged e old new before now = (text : List ℕ) × NamesError e text × IsWritten old new before now text
SaysUnopened status.NoMemory e old new before now = (¬ (e ≡ error.StoreFault)) × (new ≡ old)
SaysUnopened _ e old new before now = ⊥
