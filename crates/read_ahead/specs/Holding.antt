-- What a piece of a text holds. Source: own.
use Rattle.std.specs.Prelude.{◌≡◌, ℕ, ◌+◌, ◌≤◌, List, take, drop}

-- the first `count` bytes that are held are those of the text from a place on
abbrev pub Holds : ℕ → ℕ → List ℕ → List ℕ → Type 0
Holds at count held text = take count held ≡ take count (drop at text)

-- the n bytes from a place on are among those that are held
pub record Covers (at count from n : ℕ) : Type 0 where
  pub no_earlier : at ≤ from
  pub no_later : from + n ≤ at + count
