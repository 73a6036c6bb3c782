-- In which order the lines of several clients are taken. Own.
use Rattle.std.specs.Prelude.{◌≡◌, ℕ, List, [], ◌∷◌, Bool, Some, map, filter, slice_get, slice_set, true, false}
use Rattle.std.specs.List.{list_all}
use Rattle.zb_script.specs.declared.line.Turn.{Turn}
use Rattle.zb_script.specs.Shape.{openers}
use Rattle.client_turns.specs.Output.{FlaggedTurn, is_turn_of}

-- a client, and what is left of its lines
pub record ClientLeft : Type 0 where
  pub name : List ℕ
  pub left : List Turn

abbrev pub is_done : List Turn → Bool
is_done [] = true
is_done (t ∷ later) = false

-- the clients of a script, in the order of their `open` lines, each with its lines in their order
abbrev pub lines_of_each : List Turn → List ClientLeft
lines_of_each turns = map (λ name. record { name = name; left = filter (is_turn_of name) turns }) (openers turns)

-- Turns are taken in an order, which names for each its client's number: the first line that the client has left each time, and with it whether that is the last.
abbrev pub IsTakenIn : List ClientLeft → List ℕ → List FlaggedTurn → List ClientLeft → Type 0
IsTakenIn clients [] [] left = left ≡ clients
IsTakenIn clients (n ∷ order) (t ∷ taken) left =
    (name : List ℕ) × (later : List Turn) × (slice_get clients n ≡ Some (record { name = name; left = t.turn ∷ later })) × (t.is_last ≡ is_done later)
    × IsTakenIn (slice_set clients n (record { name = name; left = later })) order taken left
IsTakenIn clients [] (t ∷ taken) left = ⊥
IsTakenIn clients (n ∷ order) [] left = ⊥

-- no client has a line left
abbrev pub are_done : List ClientLeft → Bool
are_done clients = list_all (λ c. is_done c.left) clients

-- An order of a script: all lines of all clients are taken, so each client's number stands in it as often as the client has lines.
abbrev pub IsOrderOf : List Turn → List ℕ → List FlaggedTurn → Type 0
IsOrderOf turns order taken = (left : List ClientLeft) × IsTakenIn (lines_of_each turns) order taken left × (are_done left ≡ true)
