-- The lines of bytes. Own.
use Rattle.std.specs.Prelude.{◌≡◌, ◌≢◌, ◌⊎◌, ℕ, ◌<◌, List, [], ◌∷◌, ◌++◌, length, ◌==◌, if◌then◌else◌}
use Rattle.std.specs.List.{flat_map, onto_first, AllByRecursion}

-- the lines of the bytes, without their newlines; behind the last newline there is one where a byte stands
abbrev pub pieces : List ℕ → List (List ℕ)
pieces [] = []
pieces (b ∷ bytes) = if b == 10 then [] ∷ pieces bytes else onto_first b (pieces bytes)

-- each text with a newline behind it
abbrev pub lines_text : List (List ℕ) → List ℕ
lines_text texts = flat_map (λ text. text ++ 10 ∷ []) texts

-- the bytes are these lines; the last newline may be missing
abbrev pub Spells : List ℕ → List (List ℕ) → Type 0
Spells bytes texts = (bytes ≡ lines_text texts) ⊎ (bytes ++ 10 ∷ [] ≡ lines_text texts)

-- none of the bytes is this one
abbrev pub Lacks : ℕ → List ℕ → Type 0
Lacks c bytes = AllByRecursion (λ b. b ≢ c) bytes

-- a line ends before a newline, or at the end of the bytes where it isn't empty
abbrev pub IsEnd : List ℕ → List ℕ → Type 0
IsEnd line [] = 0 < length line
IsEnd line (b ∷ more) = b ≡ 10
