use Rattle.std.proofs.Common.{◌≡◌, ◌%◌, length, ℕ}
use Rattle.zb_ids.specs.Hex.{bytes_at}
use Rattle.zb_ids.specs.HexLaws.{behind_prefix}
use Rattle.literal_reading.proofs.digits.read_digits.Given as goal

abbrev pub invariant-loop-rest : goal.invariant-loop-rest
invariant-loop-rest l = (behind_prefix l.bytes.items (bytes_at l.rest) ≡ bytes_at l.text) × (length l.rest % 2 ≡ 0)

abbrev pub decreases-loop-rest : goal.decreases-loop-rest
decreases-loop-rest l = length l.rest
