use Rattle.program_words.proofs.Numbers.{number_read, other_text}
use Rattle.program_words.proofs.command.number_word.Goals as goal

pub returns : goal.returns
returns c = number_read c.args.word.now c.format.result.now c.parse.result c.in-Ok.number c.parse.ensures.value.0 c.in-Ok.is c.format.ensures.text c.if-ne.ensures

pub returns-then-ne : goal.returns-then-ne
returns-then-ne c = other_text c.args.word.now c.format.result.now c.parse.result c.in-Ok.number c.parse.ensures.value.0 c.in-Ok.is c.format.ensures.text c.if-ne.ensures
