-- A token that is read stands within the input, and is spelled there.
use Rattle.std.proofs.Common.{◌≡◌, drop, arith}
use Rattle.std.proofs.lemmas.Grind.{common_steps}
use Rattle.pickle_ops.specs.Tokens.{token_at}
use Rattle.pickle_ops.proofs.Placed.{token-stands, within-stands, spelled-stands, fits-stands}
use Rattle.pickle_ops.proofs.token.next_token.Goals as goal

pub returns-clause-within : goal.returns-clause-within
returns-clause-within c =
    let is : c.token_behind.result ≡ token_at c.args.at (drop c.args.at c.args.input.now) = grind (arith, common_steps) in
    within-stands _ _ _ (token-stands _ _ _ c.if-at-input.false is)

pub returns-clause-spelled : goal.returns-clause-spelled
returns-clause-spelled c =
    let is : c.token_behind.result ≡ token_at c.args.at (drop c.args.at c.args.input.now) = grind (arith, common_steps) in
    spelled-stands _ _ _ (token-stands _ _ _ c.if-at-input.false is)

pub returns-clause-fits : goal.returns-clause-fits
returns-clause-fits c =
    let is : c.token_behind.result ≡ token_at c.args.at (drop c.args.at c.args.input.now) = grind (arith, common_steps) in
    fits-stands c.args.input.now _ _ (λ k. omega (arith, c.type_inv.input k)) (token-stands _ _ _ c.if-at-input.false is)
