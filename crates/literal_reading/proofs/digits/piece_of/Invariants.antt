use Rattle.std.proofs.Common.{◌≡◌, ◌*◌, drop, take, length, ℕ}
use Rattle.zb_ids.specs.Hex.{bytes_at}
use Rattle.zb_ids.specs.HexLaws.{behind_prefix}
use Rattle.literal_reading.proofs.digits.piece_of.Given as goal

abbrev pub invariant-loop-i : goal.invariant-loop-i
invariant-loop-i l = (behind_prefix (take l.i l.piece) (bytes_at (drop (2 * l.i) l.text)) ≡ bytes_at l.text) × (length l.piece ≡ 32)
