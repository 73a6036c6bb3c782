use Rattle.zb_script.proofs.ScriptLaws.{one_script}
use Rattle.zb_script.proofs.script.one_script.Goals as goal

pub returns : goal.returns
returns c = one_script (record { spelled = c.literals_are_exact.ensures.spelled; literal = c.literals_are_exact.ensures.literal })
