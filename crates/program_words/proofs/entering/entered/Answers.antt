use Rattle.clap.specs.Words.{found_of}
use Rattle.program_words.proofs.Matched.{entered_some}
use Rattle.program_words.proofs.entering.entered.Goals as goal

pub returns-in-Some : goal.returns-in-Some
returns-in-Some c = entered_some c.args.matches.now c.in-Some.name.now (found_of c.in-Some.inner.now) _ _ c.in-Some.ensures.name c.in-Some.ensures.rows c.get_str.ensures c.get_str-in-Some.ensures
