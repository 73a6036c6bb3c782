-- By how long the text is.
use Rattle.std.proofs.Common.{arith}
use Rattle.bucket_state.proofs.FlatValues.{two_text, three_text, five_text}
use Rattle.bucket_state.proofs.flat.is_flat_number.Goals as goal

pub returns-then-text-eq2 : goal.returns-then-text-eq2
returns-then-text-eq2 c = λ h. two_text c.args.kind c.args.text.now c.if-text-eq2.true (λ k. omega (arith, c.type_inv.text k)) h

pub returns-then-text-gt0 : goal.returns-then-text-gt0
returns-then-text-gt0 c = λ h. three_text c.args.kind c.args.text.now c.if-text-eq3.true (λ k. omega (arith, c.type_inv.text k)) c.if-text-gt0.true h

pub returns-then-text-gt0-2 : goal.returns-then-text-gt0-2
returns-then-text-gt0-2 c =
    λ h. five_text c.args.kind c.args.text.now c.if-text-eq5.true (λ k. omega (arith, c.type_inv.text k)) (omega (arith, c.if-text-gt0-2.true)) h

pub returns-then-text-gt0-3 : goal.returns-then-text-gt0-3
returns-then-text-gt0-3 c =
    λ h. five_text c.args.kind c.args.text.now c.if-text-eq5.true (λ k. omega (arith, c.type_inv.text k)) (omega (arith, c.if-text-gt0-3.true)) h
