-- The lines of turns that were taken, one after another.
use Rattle.std.proofs.Common.{◌≡◌, ℕ, ◌+◌, ◌<◌, ◌≤◌, true, false, List, [], ◌∷◌, ◌++◌, codes, length, drop, get_or, append-nil, append_assoc, refl, sym, ap, ◌∙◌}
use Rattle.std.specs.Prelude.{bytes_eq, decimal, filter, map}
use Rattle.std.specs.List.{flat_map}
use Rattle.std.proofs.lemmas.List.{drop_all, drop_more}
use Rattle.zb_answers.specs.Answers.{reply_lines}
use Rattle.zb_script.specs.declared.line.Turn.{Turn}
use Rattle.zb_script.specs.Shape.{openers}
use Rattle.client_turns.specs.Output.{is_turn_of}
use Rattle.side_by_side.specs.declared.turns.PlayedTurn.{PlayedTurn}
use Rattle.side_by_side.specs.Orders.{ClientLeft, lines_of_each}
use Rattle.side_by_side.specs.Plays.{order_of}
use Rattle.script_runs.specs.Played.{order_line, replies_to}

-- the numbers of clients, a blank before each
abbrev pub numbers_text : List PlayedTurn → List ℕ
numbers_text taken = flat_map (λ (n : ℕ). 32 ∷ decimal n) (order_of taken)

-- the replies to each of the clients
abbrev pub replies_to_each : List PlayedTurn → List (List ℕ) → List (List ℕ)
replies_to_each taken names = flat_map (λ (name : List ℕ). replies_to name taken) names

-- ---- the order

pub number_more : (text whole : List ℕ) (taken : List PlayedTurn) (i : ℕ) (p : PlayedTurn) → i < length taken → p ≡ get_or taken i p → text ++ numbers_text (drop i taken) ≡ whole
    → ((text ++ 32 ∷ []) ++ decimal p.number) ++ numbers_text (drop (i + 1) taken) ≡ whole
number_more text whole taken i p within is so_far =
    let next : drop i taken ≡ p ∷ drop (i + 1) taken = drop_more taken i p within ∙ ap (λ (x : PlayedTurn). x ∷ drop (i + 1) taken) (sym is) in
    append_assoc (text ++ 32 ∷ []) (decimal p.number) (numbers_text (drop (i + 1) taken))
    ∙ append_assoc text (32 ∷ []) (decimal p.number ++ numbers_text (drop (i + 1) taken))
    ∙ ap (λ (ps : List PlayedTurn). text ++ numbers_text ps) (sym next) ∙ so_far

pub numbers_all : (text : List ℕ) (taken : List PlayedTurn) (i : ℕ) → length taken ≤ i → text ++ numbers_text (drop i taken) ≡ codes "order" ++ numbers_text taken → text ++ 10 ∷ [] ≡ order_line (order_of taken)
numbers_all text taken i past so_far =
    let none : text ++ numbers_text (drop i taken) ≡ text = ap (λ (ps : List PlayedTurn). text ++ numbers_text ps) (drop_all i taken past) ∙ append-nil text in
    ap (λ (x : List ℕ). x ++ 10 ∷ []) (sym none ∙ so_far)

-- ---- replies to one client

pub reply_more : (lines whole : List (List ℕ)) (name : List ℕ) (taken : List PlayedTurn) (i : ℕ) (p : PlayedTurn) → i < length taken → p ≡ get_or taken i p → bytes_eq p.client name ≡ true
    → lines ++ replies_to name (drop i taken) ≡ whole → (lines ++ reply_lines p.client p.answer) ++ replies_to name (drop (i + 1) taken) ≡ whole
reply_more lines whole name taken i p within is named so_far =
    let next : drop i taken ≡ p ∷ drop (i + 1) taken = drop_more taken i p within ∙ ap (λ (x : PlayedTurn). x ∷ drop (i + 1) taken) (sym is) in
    let one : replies_to name (p ∷ drop (i + 1) taken) ≡ reply_lines p.client p.answer ++ replies_to name (drop (i + 1) taken) = rw named refl in
    append_assoc lines (reply_lines p.client p.answer) (replies_to name (drop (i + 1) taken))
    ∙ ap (λ (ls : List (List ℕ)). lines ++ ls) (sym (ap (replies_to name) next ∙ one)) ∙ so_far

pub reply_passed : (lines whole : List (List ℕ)) (name : List ℕ) (taken : List PlayedTurn) (i : ℕ) (p : PlayedTurn) → i < length taken → p ≡ get_or taken i p → bytes_eq p.client name ≡ false
    → lines ++ replies_to name (drop i taken) ≡ whole → lines ++ replies_to name (drop (i + 1) taken) ≡ whole
reply_passed lines whole name taken i p within is other so_far =
    let next : drop i taken ≡ p ∷ drop (i + 1) taken = drop_more taken i p within ∙ ap (λ (x : PlayedTurn). x ∷ drop (i + 1) taken) (sym is) in
    let none : replies_to name (p ∷ drop (i + 1) taken) ≡ replies_to name (drop (i + 1) taken) = rw other refl in
    ap (λ (ls : List (List ℕ)). lines ++ ls) (sym (ap (replies_to name) next ∙ none)) ∙ so_far

pub replies_all : (lines whole : List (List ℕ)) (name : List ℕ) (taken : List PlayedTurn) (i : ℕ) → length taken ≤ i → lines ++ replies_to name (drop i taken) ≡ whole → lines ≡ whole
replies_all lines whole name taken i past so_far = sym (ap (λ (ps : List PlayedTurn). lines ++ replies_to name ps) (drop_all i taken past) ∙ append-nil lines) ∙ so_far

-- ---- replies to each

pub client_more : (lines whole : List (List ℕ)) (taken : List PlayedTurn) (names : List (List ℕ)) (i : ℕ) (name : List ℕ) → i < length names → name ≡ get_or names i name
    → lines ++ replies_to_each taken (drop i names) ≡ whole → (lines ++ replies_to name taken) ++ replies_to_each taken (drop (i + 1) names) ≡ whole
client_more lines whole taken names i name within is so_far =
    let next : drop i names ≡ name ∷ drop (i + 1) names = drop_more names i name within ∙ ap (λ (x : List ℕ). x ∷ drop (i + 1) names) (sym is) in
    append_assoc lines (replies_to name taken) (replies_to_each taken (drop (i + 1) names))
    ∙ ap (λ (ns : List (List ℕ)). lines ++ replies_to_each taken ns) (sym next) ∙ so_far

pub clients_all : (lines whole : List (List ℕ)) (taken : List PlayedTurn) (names : List (List ℕ)) (i : ℕ) → length names ≤ i → lines ++ replies_to_each taken (drop i names) ≡ whole → lines ≡ whole
clients_all lines whole taken names i past so_far = sym (ap (λ (ns : List (List ℕ)). lines ++ replies_to_each taken ns) (drop_all i names past) ∙ append-nil lines) ∙ so_far

-- ---- the clients

names_same : (names : List (List ℕ)) (turns : List Turn) → map (λ (c : ClientLeft). c.name) (map (λ (name : List ℕ). record { name = name; left = filter (is_turn_of name) turns }) names) ≡ names
names_same [] turns = refl
names_same (name ∷ names) turns = ap (λ (ns : List (List ℕ)). name ∷ ns) (names_same names turns)

pub names_each : (clients : List ClientLeft) (turns : List Turn) (names : List (List ℕ)) → clients ≡ lines_of_each turns → names ≡ map (λ (c : ClientLeft). c.name) clients → names ≡ openers turns
names_each clients turns names each is = is ∙ ap (λ (cs : List ClientLeft). map (λ (c : ClientLeft). c.name) cs) each ∙ names_same (openers turns) turns
