-- How many lines each client has. Own.
use Rattle.std.specs.Prelude.{◌≡◌, ℕ, zero, suc, ◌+◌, ◌%◌, ◌<◌, List, Some, ◌==◌, if◌then◌else◌, slice_get}
use Rattle.gen_script.specs.declared.line.GenLine.{GenLine}
use Rattle.gen_script.specs.Script.{count_of, is_hundredth}

-- of a round, and of so many from round k on
abbrev pub in_round : ℕ → ℕ → ℕ
in_round i k = (if k % 4 == i then 6 else 0) + (if (k + 1) % 4 == i then 6 else 0) + (if is_hundredth k then (if 0 == i then 1 else 0) else 0)

abbrev pub in_rounds : ℕ → ℕ → ℕ → ℕ
in_rounds i zero k = 0
in_rounds i (suc count) k = in_round i k + in_rounds i count (k + 1)

-- of the lines before the rounds
abbrev pub in_setup : ℕ → ℕ
in_setup i = if i == 0 then 7 else 1

-- these are the counts of lines of the four clients
abbrev pub AreCounts : List ℕ → List GenLine → Type 0
AreCounts counts lines = (i : ℕ) → i < 4 → slice_get counts i ≡ Some (count_of i lines)
