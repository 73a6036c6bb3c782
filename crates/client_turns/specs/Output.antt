-- What scripts are answered. Own.
use Rattle.std.specs.Prelude.{◌≡◌, ℕ, List, [], ◌∷◌, ◌++◌, Ok, Bool, true, false, not, bytes_eq}
use Rattle.std.specs.List.{list_any}
use Rattle.zb_model.specs.declared.refusal.Refusal.TheVariants as refusal
use Rattle.zb_answers.specs.declared.answer.Answer.{Answer}
use Rattle.zb_answers.specs.declared.answer.Answer.TheVariants as answer
use Rattle.zb_script.specs.declared.line.Turn.{Turn}
use Rattle.zodb_core.specs.Machine.{Rules}
use Rattle.client_turns.specs.Clients.{Moment}
use Rattle.client_turns.specs.Turns.{IsTurn}

-- an answered turn: the client's name, and the answer, whose text is the reply lines
pub record TurnAnswer : Type 0 where
  pub client : List ℕ
  pub answer : Answer

abbrev pub is_turn_of : List ℕ → Turn → Bool
is_turn_of name t = bytes_eq t.client name

-- a turn is its client's last: none of the later ones is of the client
abbrev pub is_last : Turn → List Turn → Bool
is_last t later = not (list_any (is_turn_of t.client) later)

-- a turn, with whether it is its client's last
pub record FlaggedTurn : Type 0 where
  pub turn : Turn
  pub is_last : Bool

-- the turns of a script
abbrev pub flagged : List Turn → List FlaggedTurn
flagged [] = []
flagged (t ∷ later) = record { turn = t; is_last = is_last t later } ∷ flagged later

-- of each turn whether it is its client's last
abbrev pub last_flags : List Turn → List Bool
last_flags [] = []
last_flags (t ∷ later) = is_last t later ∷ last_flags later

-- a name is among these
abbrev pub has : List ℕ → List (List ℕ) → Bool
has name names = list_any (λ n. bytes_eq n name) names

-- names with one more, where it is new
abbrev pub with_name : List (List ℕ) → List ℕ → Bool → List (List ℕ)
with_name names name true = names ++ name ∷ []
with_name names name false = names

-- an answer says that reading failed
abbrev pub is_read_fault : Answer → Bool
is_read_fault (answer.Refused refusal.ReadFault) = true
is_read_fault _ = false

-- and so does one of these
abbrev pub has_read_fault : List TurnAnswer → Bool
has_read_fault answers = list_any (λ o. is_read_fault o.answer) answers

-- The turns are answered so, one after another, and lead from one moment to another. They may be all turns of a script, a front of them, or turns of several clients
-- in whatever order: each comes with whether it is its client's last.
abbrev pub Out : Rules → Moment → List FlaggedTurn → List TurnAnswer → Moment → Type 0
Out rules m [] [] now = now ≡ m
Out rules m [] (o ∷ out) now = ⊥
Out rules m (t ∷ turns) [] now = ⊥
Out rules m (t ∷ turns) (o ∷ out) now =
    (next : Moment) × (o.client ≡ t.turn.client) × IsTurn rules m t.turn t.is_last (Ok o.answer) next × Out rules next turns out now
