use Rattle.std.proofs.Common.{ap, rules, ◌∙◌}
use Rattle.clap.specs.Words.{App, app_of, with_subcommand}
use Rattle.program_words.proofs.table.alone.Goals as goal

pub returns : goal.returns
returns c = λ old new adds. adds.shape (search rules) ∙ ap (λ (x : App). with_subcommand (app_of old) x.top) c.new.ensures.app
