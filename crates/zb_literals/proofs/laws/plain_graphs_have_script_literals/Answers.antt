use Rattle.zb_literals.proofs.PlainLaws.{plain_is_literal}
use Rattle.zb_literals.proofs.laws.plain_graphs_have_script_literals.Goals as goal

pub returns : goal.returns
returns c g tree h = plain_is_literal g tree h
