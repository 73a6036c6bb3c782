use Rattle.std.proofs.Common.{rules}
use Rattle.zb_answers.proofs.refusal.push_refusal.Goals as goal

pub returns-in-ReadConflict : goal.returns-in-ReadConflict
returns-in-ReadConflict c = rw c.in-ReadConflict.is (search rules)
