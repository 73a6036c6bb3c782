use Rattle.std.proofs.Common.{◌≡◌, true, false, ◌∙◌, ap}
use Rattle.zb_ids.specs.Spelling.{time_text}
use Rattle.zb_ids.proofs.TimeLaws.{no_time, another_text, reads_none}
use Rattle.zb_ids.proofs.stamp_text.stamp_at.Goals as goal

never : false ≡ true → ⊥
never e = absurd cc

pub returns-in_err-stamp : goal.returns-in_err-stamp
returns-in_err-stamp c = reads_none c.args.bytes.now c.from_residual.result c.from_residual.ensures.0 (no_time c.args.bytes.now (λ h. never (c.in_err-stamp.ensures.exists.1 h)))

pub returns-else-eq : goal.returns-else-eq
returns-else-eq c =
    another_text c.args.bytes.now c.as_slice.result.now (c.as_slice.ensures ∙ c.spelled.ensures ∙ ap time_text c.in_ok-stamp.ensures.value.0) c.if-eq.ensures
