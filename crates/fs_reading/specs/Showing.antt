-- A piece of a file that is held. Source: own.
use Rattle.std.specs.Prelude.{◌≡◌, ℕ, ◌+◌, ◌≤◌, List, length, take, drop}
use Rattle.fs_reading.specs.declared.piece.Piece.{Piece}

-- its bytes are those of the file from its place on
abbrev pub Shows : Piece → List ℕ → Type 0
Shows piece bytes = piece.bytes ≡ take (length piece.bytes) (drop piece.at bytes)

-- the n bytes from a place on are among them
pub record Covers (piece : Piece) (at n : ℕ) : Type 0 where
  pub no_earlier : piece.at ≤ at
  pub no_later : at + n ≤ piece.at + length piece.bytes
