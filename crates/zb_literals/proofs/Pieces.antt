-- Digits that are spelled by pieces.
use Rattle.std.proofs.Common.{◌≡◌, ℕ, ◌+◌, ◌*◌, ◌/◌, ◌%◌, ◌<◌, List, [], ◌∷◌, ◌++◌, length, get_or, set, take, sym, ap, ◌∙◌, append_assoc, arith}
use Rattle.std.proofs.lemmas.List.{length-set, take_more, take_more_set}
use Rattle.std.proofs.lemmas.List.Concat.{flat_map-append}
use Rattle.zb_ids.specs.Hex.{digit_of, hex_text, pair_of}

-- one pair more
pub pair_more : (digits bytes : List ℕ) (i b : ℕ) → 2 * i + 1 < length digits → i < length bytes → get_or bytes i b ≡ b → take (2 * i) digits ≡ hex_text (take i bytes)
    → take (2 * (i + 1)) (set (set digits (2 * i) (digit_of (b / 16))) (2 * i + 1) (digit_of (b % 16))) ≡ hex_text (take (i + 1) bytes)
pair_more digits bytes i b room within byte so_far =
    let high = digit_of (b / 16) in
    let low = digit_of (b % 16) in
    let first = set digits (2 * i) high in
    let count : 2 * (i + 1) ≡ 2 * i + 1 + 1 = omega arith in
    let one : take (2 * i + 1) first ≡ take (2 * i) digits ++ high ∷ [] = take_more_set digits (2 * i) high (omega (arith, room)) in
    let two : take (2 * i + 1 + 1) (set first (2 * i + 1) low) ≡ take (2 * i + 1) first ++ low ∷ [] = take_more_set first (2 * i + 1) low (omega (arith, room, length-set digits (2 * i) high)) in
    let bytes_are : take (i + 1) bytes ≡ take i bytes ++ b ∷ [] = take_more bytes i b within ∙ ap (λ (x : ℕ). take i bytes ++ x ∷ []) byte in
    ap (λ (n : ℕ). take n (set first (2 * i + 1) low)) count
    ∙ two
    ∙ ap (λ (xs : List ℕ). xs ++ low ∷ []) (one ∙ ap (λ (xs : List ℕ). xs ++ high ∷ []) so_far)
    ∙ append_assoc (hex_text (take i bytes)) (high ∷ []) (low ∷ [])
    ∙ sym (ap hex_text bytes_are ∙ flat_map-append pair_of (take i bytes) (b ∷ []))

-- one piece more
pub piece_more : (out next all rest front behind : List ℕ) → next ≡ out ++ hex_text front → rest ≡ front ++ behind → out ++ hex_text rest ≡ all → next ++ hex_text behind ≡ all
piece_more out next all rest front behind more parts so_far =
    ap (λ (xs : List ℕ). xs ++ hex_text behind) more
    ∙ append_assoc out (hex_text front) (hex_text behind)
    ∙ ap (λ (xs : List ℕ). out ++ xs) (sym (ap hex_text parts ∙ flat_map-append pair_of front behind))
    ∙ so_far
