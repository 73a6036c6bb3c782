-- The lines of each client, one turn of the script after another.
use Rattle.std.proofs.Common.{◌≡◌, ℕ, ◌+◌, ◌<◌, ◌≤◌, Bool, true, false, List, [], ◌∷◌, ◌++◌, length, drop, get_or, map, append-nil, append_assoc, refl, sym, ap, ◌∙◌}
use Rattle.std.specs.Prelude.{bytes_eq, filter}
use Rattle.std.specs.List.{AllByRecursion}
use Rattle.std.proofs.lemmas.List.{drop_all, drop_more}
use Rattle.zb_script.specs.declared.line.Turn.{Turn}
use Rattle.zb_script.specs.Shape.{is_open, openers}
use Rattle.client_turns.specs.Output.{is_turn_of}
use Rattle.client_turns.specs.Refusing.{IsFittingLine}
use Rattle.side_by_side.specs.Orders.{ClientLeft}

-- the clients that open a session in these turns, with all their lines of the script
abbrev pub lines_for : List Turn → List Turn → List ClientLeft
lines_for turns ts = map (λ (name : List ℕ). record { name = name; left = filter (is_turn_of name) turns }) (openers ts)

-- ---- the lines of one client

pub line_more : (lines whole : List Turn) (name : List ℕ) (turns : List Turn) (i : ℕ) (t : Turn) → i < length turns → t ≡ get_or turns i t → bytes_eq t.client name ≡ true
    → lines ++ filter (is_turn_of name) (drop i turns) ≡ whole → (lines ++ t ∷ []) ++ filter (is_turn_of name) (drop (i + 1) turns) ≡ whole
line_more lines whole name turns i t within is named so_far =
    let next : drop i turns ≡ t ∷ drop (i + 1) turns = drop_more turns i t within ∙ ap (λ (x : Turn). x ∷ drop (i + 1) turns) (sym is) in
    let one : filter (is_turn_of name) (t ∷ drop (i + 1) turns) ≡ t ∷ filter (is_turn_of name) (drop (i + 1) turns) = rw named refl in
    append_assoc lines (t ∷ []) (filter (is_turn_of name) (drop (i + 1) turns))
    ∙ ap (λ (ts : List Turn). lines ++ ts) (sym (ap (filter (is_turn_of name)) next ∙ one)) ∙ so_far

pub line_passed : (lines whole : List Turn) (name : List ℕ) (turns : List Turn) (i : ℕ) (t : Turn) → i < length turns → t ≡ get_or turns i t → bytes_eq t.client name ≡ false
    → lines ++ filter (is_turn_of name) (drop i turns) ≡ whole → lines ++ filter (is_turn_of name) (drop (i + 1) turns) ≡ whole
line_passed lines whole name turns i t within is other so_far =
    let next : drop i turns ≡ t ∷ drop (i + 1) turns = drop_more turns i t within ∙ ap (λ (x : Turn). x ∷ drop (i + 1) turns) (sym is) in
    let none : filter (is_turn_of name) (t ∷ drop (i + 1) turns) ≡ filter (is_turn_of name) (drop (i + 1) turns) = rw other refl in
    ap (λ (ts : List Turn). lines ++ ts) (sym (ap (filter (is_turn_of name)) next ∙ none)) ∙ so_far

pub lines_all : (lines whole : List Turn) (name : List ℕ) (turns : List Turn) (i : ℕ) → length turns ≤ i → lines ++ filter (is_turn_of name) (drop i turns) ≡ whole → lines ≡ whole
lines_all lines whole name turns i past so_far = sym (ap (λ (ts : List Turn). lines ++ filter (is_turn_of name) ts) (drop_all i turns past) ∙ append-nil lines) ∙ so_far

-- ---- the clients

pub client_more : (clients whole : List ClientLeft) (turns : List Turn) (i : ℕ) (t : Turn) → i < length turns → t ≡ get_or turns i t → is_open t.line ≡ true
    → clients ++ lines_for turns (drop i turns) ≡ whole → (clients ++ record { name = t.client; left = filter (is_turn_of t.client) turns } ∷ []) ++ lines_for turns (drop (i + 1) turns) ≡ whole
client_more clients whole turns i t within is opens so_far =
    let next : drop i turns ≡ t ∷ drop (i + 1) turns = drop_more turns i t within ∙ ap (λ (x : Turn). x ∷ drop (i + 1) turns) (sym is) in
    let c : ClientLeft = record { name = t.client; left = filter (is_turn_of t.client) turns } in
    let one : lines_for turns (t ∷ drop (i + 1) turns) ≡ c ∷ lines_for turns (drop (i + 1) turns) = rw opens refl in
    append_assoc clients (c ∷ []) (lines_for turns (drop (i + 1) turns))
    ∙ ap (λ (cs : List ClientLeft). clients ++ cs) (sym (ap (lines_for turns) next ∙ one)) ∙ so_far

pub client_passed : (clients whole : List ClientLeft) (turns : List Turn) (i : ℕ) (t : Turn) → i < length turns → t ≡ get_or turns i t → is_open t.line ≡ false
    → clients ++ lines_for turns (drop i turns) ≡ whole → clients ++ lines_for turns (drop (i + 1) turns) ≡ whole
client_passed clients whole turns i t within is other so_far =
    let next : drop i turns ≡ t ∷ drop (i + 1) turns = drop_more turns i t within ∙ ap (λ (x : Turn). x ∷ drop (i + 1) turns) (sym is) in
    let none : lines_for turns (t ∷ drop (i + 1) turns) ≡ lines_for turns (drop (i + 1) turns) = rw other refl in
    ap (λ (cs : List ClientLeft). clients ++ cs) (sym (ap (lines_for turns) next ∙ none)) ∙ so_far

pub clients_all : (clients whole : List ClientLeft) (turns : List Turn) (i : ℕ) → length turns ≤ i → clients ++ lines_for turns (drop i turns) ≡ whole → clients ≡ whole
clients_all clients whole turns i past so_far = sym (ap (λ (ts : List Turn). clients ++ lines_for turns ts) (drop_all i turns past) ∙ append-nil clients) ∙ so_far

-- what holds of all lines holds of a client's
pub fits_filtered : (name : List ℕ) (turns : List Turn) → AllByRecursion (λ t. IsFittingLine t.line) turns → AllByRecursion (λ t. IsFittingLine t.line) (filter (is_turn_of name) turns)
fits_filtered name [] fits = tt
fits_filtered name (t ∷ turns) fits = by_name (is_turn_of name t) refl (fits_filtered name turns fits.1)
  where
    by_name : (b : Bool) → is_turn_of name t ≡ b → AllByRecursion (λ t. IsFittingLine t.line) (filter (is_turn_of name) turns) → AllByRecursion (λ t. IsFittingLine t.line) (filter (is_turn_of name) (t ∷ turns))
    by_name true is rest = rw is (fits.0, rest)
    by_name false is rest = rw is rest
