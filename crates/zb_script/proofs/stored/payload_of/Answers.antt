use Rattle.std.proofs.Common.{◌≡◌, ℕ, ◌<◌, length, arith}
use Rattle.zb_script.proofs.PayloadLaws.{none_read}
use Rattle.zb_script.proofs.stored.payload_of.Goals as goal

empty : (n : ℕ) → (0 < n → ⊥) → n ≡ 0
empty n h = grind (arith, h)

pub returns-in-None : goal.returns-in-None
returns-in-None c =
    none_read c.args.text.now c.in_ok-bytes.bytes.items (omega arith) c.in_ok-bytes.ensures (empty (length c.in_ok-bytes.bytes.items) (λ h. let some = c.in-None.ensures.some.1 (rw c.from_vec.ensures h) in absurd cc))
