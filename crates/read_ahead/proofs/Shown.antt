-- What a piece that is held shows of a text.
use Rattle.std.proofs.Common.{◌≡◌, ℕ, ◌+◌, ◌-◌, ◌≤◌, List, take, drop, sym, ap, ◌∙◌, arith}
use Rattle.std.proofs.lemmas.List.{drop-drop, drop-take, take-take}
use Rattle.read_ahead.specs.Holding.{Holds, Covers}

inner : (k n count : ℕ) (xs : List ℕ) → k + n ≤ count → take n (drop k (take count xs)) ≡ take n (drop k xs)
inner k n count xs h =
    let e : k + (count - k) ≡ count = omega arith in
    ap (λ (c : ℕ). take n (drop k (take c xs))) (sym e) ∙ ap (take n) (drop-take k (count - k) xs) ∙ take-take n (count - k) (drop k xs) (omega arith)

-- the n bytes from a place on that are held are those of the text
pub shown : (at count from n : ℕ) (held text : List ℕ) → Holds at count held text → Covers at count from n → take n (drop (from - at) held) ≡ take n (drop from text)
shown at count from n held text shows covers =
    let k = from - at in
    let place : at + k ≡ from = omega (arith, covers.no_earlier) in
    let room : k + n ≤ count = omega (arith, covers.no_earlier, covers.no_later) in
    sym (inner k n count held room) ∙ ap (λ (x : List ℕ). take n (drop k x)) shows ∙ inner k n count (drop at text) room
    ∙ ap (take n) (drop-drop k at text) ∙ ap (λ (p : ℕ). take n (drop p text)) place
