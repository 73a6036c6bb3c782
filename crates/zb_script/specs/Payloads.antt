-- What a line can store. Own.
use Rattle.std.specs.Prelude.{ℕ, ◌<◌, List, All, length}

-- at least one byte
pub record IsPayload (bytes : List ℕ) : Type 0 where
  pub some : 0 < length bytes
  pub are_bytes : All (λ b. b < 256) bytes
