-- What a piece of a file shows of it.
use Rattle.std.proofs.Common.{◌≡◌, ℕ, ◌+◌, ◌-◌, ◌≤◌, List, [], ◌∷◌, length, take, drop, refl, sym, ap, ◌∙◌, arith}
use Rattle.std.proofs.lemmas.List.{drop-drop, drop-take, take-take}
use Rattle.fs_records.specs.Headers.{header_of}
use Rattle.fs_records.specs.HeaderLaws.{header_of-take}
use Rattle.fs_reading.specs.declared.piece.Piece.{Piece}
use Rattle.fs_reading.specs.Showing.{Covers, Shows}
use Rattle.fs_reading.specs.Standing.{head_at}

inner : (k n count : ℕ) (xs : List ℕ) → k + n ≤ count → take n (drop k (take count xs)) ≡ take n (drop k xs)
inner k n count xs h =
    let e : k + (count - k) ≡ count = omega arith in
    ap (λ (c : ℕ). take n (drop k (take c xs))) (sym e) ∙ ap (take n) (drop-take k (count - k) xs) ∙ take-take n (count - k) (drop k xs) (omega arith)

-- the n bytes from a place on that are held are those of the file
pub shown : (piece : Piece) (at n : ℕ) (bytes : List ℕ) → Shows piece bytes → Covers piece at n → take n (drop (at - piece.at) piece.bytes) ≡ take n (drop at bytes)
shown piece at n bytes shows covers =
    let k : ℕ = at - piece.at in
    let place : piece.at + k ≡ at = omega (arith, covers.no_earlier) in
    let room : k + n ≤ length piece.bytes = omega (arith, covers.no_earlier, covers.no_later) in
    ap (λ (x : List ℕ). take n (drop k x)) shows ∙ inner k n (length piece.bytes) (drop piece.at bytes) room
    ∙ ap (take n) (drop-drop k piece.at bytes) ∙ ap (λ (p : ℕ). take n (drop p bytes)) place

-- the header that they are
pub head_shown : (piece : Piece) (at : ℕ) (bytes front : List ℕ) → Shows piece bytes → Covers piece at 23 → front ≡ take 23 (drop (at - piece.at) piece.bytes) → header_of front ≡ head_at bytes at
head_shown piece at bytes front shows covers is = ap header_of (is ∙ shown piece at 23 bytes shows covers) ∙ header_of-take (drop at bytes)

-- bytes that were read
pub read_shows : (bytes text : List ℕ) (from count : ℕ) → text ≡ take count (drop from bytes) → length text ≡ count → text ≡ take (length text) (drop from bytes)
read_shows bytes text from count is long = is ∙ ap (λ (n : ℕ). take n (drop from bytes)) (sym long)

-- nothing is shown by no bytes
pub nothing_shown : (piece : Piece) (bytes : List ℕ) → length piece.bytes ≡ 0 → Shows piece bytes
nothing_shown piece bytes none = none_of piece.bytes none ∙ sym (ap (λ (n : ℕ). take n (drop piece.at bytes)) none)
  where
    none_of : (xs : List ℕ) → length xs ≡ 0 → xs ≡ []
    none_of [] is = refl
    none_of (x ∷ xs) is = absurd cc
