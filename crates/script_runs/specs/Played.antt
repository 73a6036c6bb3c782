-- What is written of clients side by side. Own.
use Rattle.std.specs.Prelude.{ℕ, List, [], ◌∷◌, ◌++◌, codes, decimal, filter, bytes_eq}
use Rattle.std.specs.List.{flat_map}
use Rattle.zb_answers.specs.Answers.{reply_lines}
use Rattle.client_turns.specs.Output.{TurnAnswer}
use Rattle.side_by_side.specs.declared.turns.PlayedTurn.{PlayedTurn}
use Rattle.side_by_side.specs.Plays.{order_of}
use Rattle.script_runs.specs.Came.{answers_text}
use Rattle.script_runs.specs.Texts.{line}

-- ---- what is written

-- the numbers of the clients, in the order in which their turns were taken
abbrev pub order_line : List ℕ → List ℕ
order_line order = line (codes "order" ++ flat_map (λ n. 32 ∷ decimal n) order)

-- the answers to a client
abbrev pub answers_to : List ℕ → List TurnAnswer → List TurnAnswer
answers_to name answers = filter (λ o. bytes_eq o.client name) answers

-- the order, and then the replies to each client together, in the order of the clients
abbrev pub played_text : List (List ℕ) → List ℕ → List TurnAnswer → List ℕ
played_text names order answers = order_line order ++ flat_map (λ name. answers_text (answers_to name answers)) names

-- nothing
abbrev pub no_text : List ℕ → List TurnAnswer → List ℕ
no_text order answers = []

-- the lines of the replies to a client, and all lines, from the turns that were taken
abbrev pub replies_to : List ℕ → List PlayedTurn → List (List ℕ)
replies_to name taken = flat_map (λ p. reply_lines p.client p.answer) (filter (λ p. bytes_eq p.client name) taken)

abbrev pub played_lines : List (List ℕ) → List PlayedTurn → List (List ℕ)
played_lines names taken = order_line (order_of taken) ∷ flat_map (λ name. replies_to name taken) names
