-- By the first bytes of the text.
use Rattle.std.proofs.Common.{arith}
use Rattle.std.specs.Prelude.{slice_index_or, length, ◌-◌}
use Rattle.std.proofs.lemmas.Bool.{eqb-true}
use Rattle.bucket_state.proofs.FlatValues.{head_text, head_bytes, lone_text, none_flat, true_flat, false_flat, float_text, bytes_text, both_parts}
use Rattle.bucket_state.proofs.flat.is_flat_leaf.Goals as goal

pub returns-then-is_head : goal.returns-then-is_head
returns-then-is_head c =
    λ h. head_text c.args.text.now c.split_at.result.0.now c.split_at.result.1.now (both_parts c.args.text.now _ _ c.split_at.ensures.front c.split_at.ensures.back)
    (c.is_head.ensures c.if-is_head.true) (omega (arith, c.split_at.ensures.back_len, c.if-text-gt4294967295.false)) (c.is_text.ensures h)

pub returns-then-is_head-2 : goal.returns-then-is_head-2
returns-then-is_head-2 c =
    λ h. head_bytes c.args.text.now c.split_at.result.0.now c.split_at.result.1.now (both_parts c.args.text.now _ _ c.split_at.ensures.front c.split_at.ensures.back)
    (c.is_head-then-text-ge5.ensures c.if-is_head-2.true) (omega (arith, c.split_at.ensures.back_len, c.if-text-gt4294967295.false)) h

pub returns-then-text-eq78 : goal.returns-then-text-eq78
returns-then-text-eq78 c = λ h. lone_text c.args.text.now 78 c.if-text-eq1.true c.if-text-eq78.true none_flat

pub returns-then-text : goal.returns-then-text
returns-then-text c = λ h. lone_text c.args.text.now 136 c.if-text-eq1.true c.if-text.true true_flat

pub returns-then-text-eq1 : goal.returns-then-text-eq1
returns-then-text-eq1 c = λ h. lone_text c.args.text.now 137 c.if-text-eq1.true (eqb-true (slice_index_or c.args.text.now 0 0) 137 h) false_flat

pub returns-then-text-eq71 : goal.returns-then-text-eq71
returns-then-text-eq71 c = λ h. float_text c.args.text.now c.if-text-eq71.true (eqb-true (length c.args.text.now) 9 h)

pub returns-then-text-eq67 : goal.returns-then-text-eq67
returns-then-text-eq67 c =
    λ h. bytes_text c.args.text.now c.if-text-lt2.false (λ k. omega (arith, c.type_inv.text k)) c.if-text-eq67.true (eqb-true (length c.args.text.now - 2) (slice_index_or c.args.text.now 1 0) h)
