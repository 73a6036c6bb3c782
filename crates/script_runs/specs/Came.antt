-- How far turns came. Own.
use Rattle.std.specs.Prelude.{◌≡◌, ℕ, List, [], ◌∷◌, ◌++◌, Option, Some, None}
use Rattle.std.specs.List.{flat_map}
use Rattle.zb_ids.specs.declared.stamp.Stamp.{Stamp}
use Rattle.zb_model.specs.declared.data.Transaction.{Transaction}
use Rattle.zb_answers.specs.Answers.{reply_lines}
use Rattle.client_turns.specs.declared.errors.TurnError.{TurnError}
use Rattle.client_turns.specs.declared.errors.TurnError.TheVariants.{StoreFault}
use Rattle.client_turns.specs.Clients.{Moment, first_moment}
use Rattle.client_turns.specs.Output.{FlaggedTurn, Out, TurnAnswer}
use Rattle.client_turns.specs.Turns.{IsBroken}
use Rattle.side_by_side.specs.Runs.{IsListNext, IsOfRun, stock}
use Rattle.script_runs.specs.Texts.{joined}

-- the reply lines of answered turns
abbrev pub answers_text : List TurnAnswer → List ℕ
answers_text answers = flat_map (λ o. joined (reply_lines o.client o.answer)) answers

-- What followed on the turns that were answered: nothing, or the first of those that weren't broke off so.
abbrev pub BreaksOff : Moment → List FlaggedTurn → Option TurnError → Moment → Type 0
BreaksOff m later None now = now ≡ m
BreaksOff m [] (Some why) now = ⊥
BreaksOff m (t ∷ later) (Some why) now = IsBroken stock m t.turn t.is_last why now

-- How far turns came: those that were taken were answered so and led to a moment, and `broke` says whether the next one broke off then, and why. It is this
-- moment now.
pub record Came (m : Moment) (turns : List FlaggedTurn) (broke : Option TurnError) (now : Moment) : Type 0 where
  pub taken : List FlaggedTurn
  pub later : List FlaggedTurn
  pub parts : turns ≡ taken ++ later
  pub answers : List TurnAnswer
  pub behind : Moment
  pub answered : Out stock m taken answers behind
  pub ends : BreaksOff behind later broke now

-- the moment before the first turn, with these counts of failed reads and of other failed calls
abbrev pub began : List Transaction → Option (List Stamp) → ℕ → ℕ → Moment
began list stamps reads others = first_moment list stamps (record { reads = reads; others = others })

-- bytes stand for the list as it stands now, behind these turns or behind what memory left of the first of the later ones; where the store failed in that one, for the list
-- before it or for what its step would have left
abbrev pub IsMainBy : (List ℕ → List Transaction → Type 0) → Option TurnError → Moment → List FlaggedTurn → Moment → List ℕ → Type 0
IsMainBy stands (Some StoreFault) m later now bytes = IsListNext stands m later bytes
IsMainBy stands _ m later now bytes = stands bytes now.machine.list

-- bytes stand for the list at a moment that a run which came so far came by, or for what the step of the turn that was taken then leaves of it
abbrev pub IsOfCame : {m : Moment} {turns : List FlaggedTurn} {broke : Option TurnError} {now : Moment} → (List ℕ → List Transaction → Type 0) → Came m turns broke now → List ℕ → Type 0
IsOfCame {m = m} stands c bytes = IsOfRun stands m c.taken c.later c.answers c.behind bytes
