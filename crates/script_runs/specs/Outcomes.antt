-- Turns that pack, and a status unless memory runs out. Own.
use Rattle.std.specs.Prelude.{◌≡◌, ◌⊎◌, List, Bool}
use Rattle.std.specs.List.{list_any}
use Rattle.zb_script.specs.declared.line.Turn.{Turn}
use Rattle.client_turns.specs.Standing.{packs_list}
use Rattle.script_runs.specs.declared.status.Status.{Status}
use Rattle.script_runs.specs.declared.status.Status.TheVariants.{NoMemory}

-- a turn packs
abbrev pub has_pack : List Turn → Bool
has_pack turns = list_any (λ t. packs_list t.line) turns

-- the status, or want of memory
abbrev pub IsUnlessMemory : Status → Status → Type 0
IsUnlessMemory status expected = (status ≡ expected) ⊎ (status ≡ NoMemory)
