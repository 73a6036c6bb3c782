use Rattle.std.proofs.Common.{sym, ◌∙◌}
use Rattle.program_words.proofs.Matched.{ok_named, err_named}
use Rattle.program_words.proofs.Walks.{reads}
use Rattle.program_words.proofs.entering.named.Goals as goal

pub returns-in-Ok : goal.returns-in-Ok
returns-in-Ok c = c.entered.ensures ∙ ok_named _ _ _ c.in_ok-program.ensures (reads _ c.requires) c.in-Ok.ensures.kinds (λ simple. (c.in-Ok.ensures.matches simple).1)

pub returns-else-is_starved : goal.returns-else-is_starved
returns-else-is_starved c = sym (err_named _ _ c.in-Err.error c.in_ok-program.ensures (reads _ c.requires) c.in-Err.ensures.kinds (sym c.is_starved.ensures ∙ c.if-is_starved.false))
