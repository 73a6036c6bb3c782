use Rattle.std.proofs.Common.{sym, ◌∙◌}
use Rattle.std.specs.Prelude.{string_bytes}
use Rattle.program_words.proofs.Dashes.{dashed_rest}
use Rattle.program_words.proofs.command.command_of.Goals as goal

pub returns-then-has_dash : goal.returns-then-has_dash
returns-then-has_dash c = dashed_rest string_bytes c.args.words.now c.in-Some.path.now c.in-Some.rest.now c.in-Some.ensures.cases (sym c.has_dash.ensures ∙ c.if-has_dash.true)
