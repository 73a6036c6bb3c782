-- How a piece is cut into the payloads of its frames. Own.
use Rattle.std.specs.Prelude.{◌≡◌, ℕ, List}
use Rattle.zeo_frames.specs.Frames.{frames}

-- The piece is whole frames, and these are their payloads, the only ones whose frames it is.
pub record AreItsPayloads (piece : List ℕ) (payloads : List (List ℕ)) : Type 0 where
  pub whole : piece ≡ frames payloads
  pub only : (others : List (List ℕ)) → piece ≡ frames others → payloads ≡ others
