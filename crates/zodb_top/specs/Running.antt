-- What the code of a run says of the file in Main. Own.
use Rattle.std.specs.Prelude.{◌≡◌, ◌⊎◌, List}
use Rattle.zb_base.specs.Counts.{Rose}
use Rattle.zb_script.specs.declared.line.Turn.{Turn}
use Rattle.script_runs.specs.declared.status.Status.{Status}
use Rattle.script_runs.specs.declared.status.Status.TheVariants as status
use Rattle.script_runs.specs.declared.manner.Manner.{Manner}
use Rattle.zodb_top.specs.Played.{IsCutShort, IsFaulted, IsStarved, IsWhole}
use Rattle.zodb_top.specs.Opened.{FailedToOpen, IsLeft, IsRefused, IsUnfailed}
use Rattle.zodb_top.specs.Outside.{Outside}

-- ---- the file in Main

-- What each status says of the turns over the file in Main.
abbrev pub FileSays : Manner → Status → Type 0 → List Turn → Outside → Outside → Type 0
FileSays manner status.Done told turns before after = told → IsWhole manner turns before after
FileSays manner status.NoMemory told turns before after =
    ((after.taken ≡ before.taken) × IsLeft told before after × IsUnfailed before after) ⊎ (told → IsStarved manner turns before after)
FileSays manner status.SinkFault told turns before after = Rose before.sink_faults after.sink_faults × (told → IsCutShort manner turns before after)
FileSays manner status.StoreFault told turns before after =
    FailedToOpen told before after ⊎ (Rose before.write_faults after.write_faults × (told → IsFaulted manner turns before after))
FileSays manner status.Damaged told turns before after = IsRefused told before after
FileSays manner _ told turns before after = ⊥
