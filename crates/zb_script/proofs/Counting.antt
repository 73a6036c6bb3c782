-- Loops that count lines and clients.
use Rattle.std.proofs.Common.{◌≡◌, ℕ, ◌+◌, ◌<◌, ◌≤◌, Bool, true, false, cond, List, [], ◌∷◌, ◌++◌, length, arith}
use Rattle.std.specs.Prelude.{nat_lt, ◌==◌, not, ◌&&◌}
use Rattle.std.proofs.lemmas.Bool.{eqb-true, lt-ltb, le-ltb}
use Rattle.std.proofs.lemmas.List.{length-append}
use Rattle.zb_script.specs.Lines.{pieces}
use Rattle.zb_script.specs.Limits.{first_word, with_name, names_of}
use Rattle.zb_script.specs.Names.{is_name}
use Rattle.zb_script.specs.Shape.{is_among}

pub lines_counted : (rest : List ℕ) (n total : ℕ) → (length rest == 0) ≡ true → n + length (pieces rest) ≡ total → n ≡ total
lines_counted [] n total e so_far = omega (arith, so_far)
lines_counted (b ∷ rest) n total e so_far = absurd (omega (arith, eqb-true (length (b ∷ rest)) 0 e))

one_more : (t : Bool) (names : List (List ℕ)) (word : List ℕ) → length names ≤ length (cond t (names ++ word ∷ []) names)
one_more true names word = omega (arith, length-append names (word ∷ []))
one_more false names word = omega arith

pub names_grow : (texts names : List (List ℕ)) → length names ≤ length (names_of names texts)
names_grow [] names = omega arith
names_grow (text ∷ texts) names =
    omega (arith, one_more (is_name (first_word text) && not (is_among (first_word text) names)) names (first_word text), names_grow texts (with_name names (first_word text)))

pub too_many : (names texts total : List (List ℕ)) → names_of names texts ≡ total → 64 < length names → nat_lt 64 (length total) ≡ true
too_many names texts total so_far many = rw (← so_far) (lt-ltb 64 (length (names_of names texts)) (omega (arith, many, names_grow texts names)))

pub few_enough : (rest : List ℕ) (names total : List (List ℕ)) → (length rest == 0) ≡ true → names_of names (pieces rest) ≡ total → length names ≤ 64 → nat_lt 64 (length total) ≡ false
few_enough [] names total e so_far few = rw (← so_far) (le-ltb 64 (length names) few)
few_enough (b ∷ rest) names total e so_far few = absurd (omega (arith, eqb-true (length (b ∷ rest)) 0 e))
