use Rattle.std.proofs.Common.{ap, ap₂, rules, ◌≡◌, ◌∙◌}
use Rattle.std.proofs.lemmas.Result.{IfOk-weaker}
use Rattle.clap.specs.Words.{App, app_of, rule_of, with_rule, with_subcommand}
use Rattle.program_words.specs.Table.{other, position}
use Rattle.program_words.proofs.table.placed_pair.Goals as goal

pub returns : goal.returns
returns c =
    let position_is : rule_of c.required.result ≡ position = search rules in
    let other_is : rule_of c.required-2.result ≡ other = search rules in
    let once_is = c.in_ok-once.ensures.shape (search rules) ∙ ap₂ with_rule c.new.ensures.app position_is in
    IfOk-weaker c.arg-2.result _ _ (λ r h old new adds.
    adds.shape (search rules) ∙ ap (λ (x : App). with_subcommand (app_of old) x.top) (h.shape (search rules) ∙ ap₂ with_rule once_is other_is)) c.arg-2.ensures
