-- The fronts that turns are given: by a begin, a delivery and a commit. Own.
use Rattle.std.specs.Prelude.{◌≡◌, ℕ, ◌+◌, ◌≤◌, List, [], ◌∷◌, ◌++◌, Option, Some, None, Bool, true, false}
use Rattle.zb_answers.specs.declared.answer.Answer.{Answer}
use Rattle.zb_answers.specs.declared.answer.Answer.TheVariants as answer
use Rattle.zb_script.specs.declared.line.Line.{Line}
use Rattle.zb_script.specs.declared.line.Line.TheVariants as line
use Rattle.zodb_core.specs.Machine.{Rules}
use Rattle.client_turns.specs.Clients.{Client, Linked, Local, Moment, Standing, client_named}
use Rattle.client_turns.specs.Output.{FlaggedTurn, Out, TurnAnswer}

-- the front that an answer gives, if it gives one: that of a view, the one that is known now, or the one behind a commit
abbrev pub front_given : Answer → Option ℕ
front_given (answer.Begun front) = Some front
front_given (answer.Delivered front) = Some front
front_given (answer.Committed tid) = Some (tid + 1)
front_given _ = None

abbrev pub is_linked : Standing → Bool
is_linked Local = false
is_linked (Linked known) = true

-- a client with a link begins with the front that it knows, however old that is
abbrev pub begins_known : Option Client → Line → Bool
begins_known (Some c) line.Begin = is_linked c.standing
begins_known _ _ = false

-- a front that a turn is given, with the client's name, and whether the client knew it behind its link
pub record GivenFront : Type 0 where
  pub client : List ℕ
  pub front : ℕ
  pub is_known : Bool

abbrev pub fronts_in : List ℕ → Bool → Option ℕ → List GivenFront
fronts_in name known (Some front) = record { client = name; front = front; is_known = known } ∷ []
fronts_in name known None = []

-- the fronts that turns are given, in their order
abbrev pub fronts_given : (rules : Rules) (m : Moment) (turns : List FlaggedTurn) (out : List TurnAnswer) (now : Moment) → Out rules m turns out now → List GivenFront
fronts_given rules m (t ∷ turns) (o ∷ out) now is = fronts_in t.turn.client (begins_known (client_named t.turn.client m.clients) t.turn.line) (front_given o.answer) ++ fronts_given rules is.0 turns out now is.3
fronts_given rules m _ _ now is = []

-- The later front isn't below the earlier one. Of one that its client knew behind its link this is said where both are the same client's.
abbrev pub IsNotBelow : GivenFront → GivenFront → Type 0
IsNotBelow earlier later = (later.is_known ≡ true → later.client ≡ earlier.client) → earlier.front ≤ later.front
