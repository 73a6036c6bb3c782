-- What is left of the script. Own.
use Rattle.std.specs.Prelude.{◌≡◌, ℕ, ◌≤◌, ◌<◌, ◌+◌, ◌^◌, List, [], ◌∷◌, ◌++◌, Option, Some, None, drop, length}
use Rattle.std.specs.List.{AllByRecursion}
use Rattle.zb_script.specs.declared.line.Line.{Line}
use Rattle.zb_script.specs.Spelling.{IsLineText}
use Rattle.gen_script.specs.declared.line.GenLine.{GenLine}
use Rattle.gen_script.specs.declared.turns.GenTurn.{GenTurn}
use Rattle.gen_script.specs.declared.turns.GenTurns.{GenTurns}
use Rattle.gen_script.specs.Counting.{AreCounts}
use Rattle.gen_script.specs.Script.{IsTurnOf, is_last_before, rounds}

-- the lines that weren't taken: of the block that was made last, and of the rounds behind it
abbrev pub lines_left : GenTurns → List GenLine
lines_left g = drop g.at g.block ++ rounds g.rounds_left g.round g.x

-- the text is that of a line which a script can have
pub record SaysLine (text : List ℕ) : Type 0 where
  pub line : Line
  pub is : IsLineText text line

-- the counts are those of the lines that are left, each of one of four clients and the text of a line, and the numbers have room
pub record IsReady (g : GenTurns) : Type 0 where
  pub counts : AreCounts g.counts (lines_left g)
  pub within : g.at ≤ length g.block
  pub clients : AllByRecursion (λ l. l.client < 4) (lines_left g)
  pub texts : AllByRecursion (λ l. SaysLine l.text) (lines_left g)
  pub number : g.x < 2 ^ 31
  pub room : g.round + g.rounds_left ≤ 8001

-- what was taken: nothing, where nothing was left, or the turn of the first line, with whether it is its client's last
abbrev pub GivesNext : List GenLine → Option GenTurn → List GenLine → Type 0
GivesNext old None new = (old ≡ []) × (new ≡ [])
GivesNext old (Some t) new = (l : GenLine) × (old ≡ l ∷ new) × IsTurnOf l t.turn × (t.is_last ≡ is_last_before l.client new)
