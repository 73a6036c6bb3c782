-- What a run comes by, with the rules of the program. Own.
use Rattle.std.specs.Prelude.{◌≡◌, ℕ, List, [], ◌∷◌, ◌++◌}
use Rattle.zb_model.specs.declared.data.Transaction.{Transaction}
use Rattle.zb_resolve.specs.References.{stock_references}
use Rattle.zb_resolve.specs.Stock.{stock_rules}
use Rattle.zodb_core.specs.Machine.{Rules}
use Rattle.client_turns.specs.Clients.{Moment}
use Rattle.client_turns.specs.Output.{FlaggedTurn, Out, TurnAnswer}
use Rattle.client_turns.specs.Standing.{IsListIn}

-- the rules that the program has
abbrev pub stock : Rules
stock = record { merging = stock_rules; named = stock_references }

-- A moment that a run came by, between turns: those before it were answered so, and those behind it so.
pub record CameBy (rules : Rules) (m : Moment) (turns : List FlaggedTurn) (given more : List TurnAnswer) (behind : Moment) : Type 0 where
  pub front : List FlaggedTurn
  pub rest : List FlaggedTurn
  pub parts : turns ≡ front ++ rest
  pub at : Moment
  pub before : Out rules m front given at
  pub after : Out rules at rest more behind

-- Before these turns bytes stand for the machine's list, or for what the step of the first of them leaves of it.
abbrev pub IsListNext : (List ℕ → List Transaction → Type 0) → Moment → List FlaggedTurn → List ℕ → Type 0
IsListNext stands m [] = λ bytes. stands bytes m.machine.list
IsListNext stands m (t ∷ later) = IsListIn stands stock m t.turn

-- Bytes stand for the list at a moment that this run came by, or for what the step of the turn that was taken then leaves of it.
pub record IsOfRun (stands : List ℕ → List Transaction → Type 0) (m : Moment) (turns later : List FlaggedTurn) (answers : List TurnAnswer) (behind : Moment) (bytes : List ℕ) : Type 0 where
  pub given : List TurnAnswer
  pub more : List TurnAnswer
  pub parts : answers ≡ given ++ more
  pub came : CameBy stock m turns given more behind
  pub list : IsListNext stands came.at (came.rest ++ later) bytes
