-- What it is for bytes to be a script, and which line of other bytes is bad. Own.
use Rattle.std.specs.Prelude.{◌≡◌, ℕ, ◌+◌, List, ◌++◌, length, false}
use Rattle.zb_script.specs.declared.line.Turn.{Turn}
use Rattle.zb_script.specs.Lines.{lines_text, Spells, Lacks, IsEnd}
use Rattle.zb_script.specs.Shape.{IsInShape, can_stand}
use Rattle.zb_script.specs.Spelling.{IsTurnText, AreTurnTexts}

-- the bytes are lines that spell these turns, and each stands in its place
pub record IsScript (bytes : List ℕ) (turns : List Turn) : Type 0 where
  pub texts : List (List ℕ)
  pub each : AreTurnTexts texts turns
  pub text : Spells bytes texts
  pub shape : IsInShape turns

-- The bytes' line number n is bad: the lines ahead of it spell turns that stand in their places, and no
-- turn that it spells can stand behind them.
pub record IsBadLine (bytes : List ℕ) (n : ℕ) : Type 0 where
  pub texts : List (List ℕ)
  pub front : List Turn
  pub bad : List ℕ
  pub more : List ℕ
  pub each : AreTurnTexts texts front
  pub shape : IsInShape front
  pub parts : bytes ≡ lines_text texts ++ (bad ++ more)
  pub one_line : Lacks 10 bad
  pub ends : IsEnd bad more
  pub number : n ≡ length front + 1
  pub none : (t : Turn) → IsTurnText bad t → can_stand front t ≡ false
