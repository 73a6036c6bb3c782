-- The steps of the loop over lines.
use Rattle.std.proofs.Common.{◌≡◌, ℕ, ◌+◌, Bool, true, false, cond, List, [], ◌∷◌, ◌++◌, length, map, Some, None, Result, Ok, Err, refl, sym, ap, ◌∙◌, arith}
use Rattle.std.specs.Prelude.{◌==◌, filter}
use Rattle.std.proofs.lemmas.Bool.{eqb-true}
use Rattle.zb_script.specs.declared.line.Line.{Line}
use Rattle.zb_script.specs.declared.line.Turn.{Turn}
use Rattle.zb_script.specs.declared.opened.Opened.{Opened}
use Rattle.zb_script.specs.Lines.{pieces}
use Rattle.zb_script.specs.Reading.{turn_at, turn_placed, turns_at, with_opener}
use Rattle.zb_script.specs.Shape.{is_open, opened_by, opens_link}

kept : (t : Bool) (u : Turn) (longer shorter one : List Turn) → map (λ (t : Turn). t.client) longer ≡ map (λ (t : Turn). t.client) shorter ++ map (λ (t : Turn). t.client) one
    → map (λ (t : Turn). t.client) (cond t (u ∷ longer) longer) ≡ map (λ (t : Turn). t.client) (cond t (u ∷ shorter) shorter) ++ map (λ (t : Turn). t.client) one
kept true u longer shorter one e = ap (λ (x : List (List ℕ)). u.client ∷ x) e
kept false u longer shorter one e = e

-- the clients of one turn more, of lines of whatever kind
named_pushed : (is : Line → Bool) (turns : List Turn) (t : Turn)
    → map (λ (t : Turn). t.client) (filter (λ (t : Turn). is t.line) (turns ++ t ∷ [])) ≡ map (λ (t : Turn). t.client) (filter (λ (t : Turn). is t.line) turns) ++ map (λ (t : Turn). t.client) (filter (λ (t : Turn). is t.line) (t ∷ []))
named_pushed is [] t = refl
named_pushed is (u ∷ turns) t = kept (is u.line) u (filter (λ (t : Turn). is t.line) (turns ++ t ∷ [])) (filter (λ (t : Turn). is t.line) turns) (filter (λ (t : Turn). is t.line) (t ∷ [])) (named_pushed is turns t)

pub opened_kept : (opened new : Opened) (turns : List Turn) (t : Turn) → opened ≡ opened_by turns → new ≡ with_opener opened t → new ≡ opened_by (turns ++ t ∷ [])
opened_kept opened new turns t same is = is ∙ ap (λ (x : Opened). with_opener x t) same ∙ sym (cc (named_pushed is_open turns t, named_pushed opens_link turns t))

pub turn_read : (turns : List Turn) (opened : Opened) (t : Turn) (rest text after : List ℕ) (total : Result (List Turn) ℕ) → pieces rest ≡ text ∷ pieces after
    → opened ≡ opened_by turns → turn_placed opened (turn_at text) ≡ Some t
    → turns_at turns (pieces rest) ≡ total → turns_at (turns ++ t ∷ []) (pieces after) ≡ total
unfolding turns_at
turn_read turns opened t rest text after total e same placed so_far =
    let here : turn_placed (opened_by turns) (turn_at text) ≡ Some t = ap (λ (x : Opened). turn_placed x (turn_at text)) (sym same) ∙ placed in
    let one : turns_at turns (pieces rest) ≡ turns_at (turns ++ t ∷ []) (pieces after) = rw (e, here) refl in
    sym one ∙ so_far

pub turn_refused : (turns : List Turn) (opened : Opened) (rest text after : List ℕ) (n : ℕ) (total : Result (List Turn) ℕ) → pieces rest ≡ text ∷ pieces after
    → opened ≡ opened_by turns → turn_placed opened (turn_at text) ≡ None → n ≡ length turns
    → turns_at turns (pieces rest) ≡ total → total ≡ Err (n + 1)
unfolding turns_at
turn_refused turns opened rest text after n total e same placed number so_far =
    let here : turn_placed (opened_by turns) (turn_at text) ≡ None = ap (λ (x : Opened). turn_placed x (turn_at text)) (sym same) ∙ placed in
    let one : turns_at turns (pieces rest) ≡ Err (length turns + 1) = rw (e, here) refl in
    rw number (sym so_far ∙ one)

pub turns_done : (turns : List Turn) (rest : List ℕ) (total : Result (List Turn) ℕ) → (length rest == 0) ≡ true → turns_at turns (pieces rest) ≡ total → total ≡ Ok turns
unfolding turns_at
turns_done turns [] total e so_far = sym so_far
turns_done turns (b ∷ rest) total e so_far = let none = eqb-true (length (b ∷ rest)) 0 e in absurd (omega (arith, none))
