use Rattle.btree_putting.proofs.Tried.{none_case, some_case, tried_end, tried_step, tried_stop}
use Rattle.btree_putting.proofs.trying.keep_all.Goals as goal

pub returns-in_default-2 : goal.returns-in_default-2
returns-in_default-2 c = tried_stop _ _ _ _ _ _ c.in-Some.put c.puts.invariant c.in-Some.ensures (none_case _ _ _ c.in_default-2.is c.in_ok-one.ensures)

pub puts-preserved : goal.puts-preserved
puts-preserved c =
    tried_step _ _ _ _ _ _ _ c.in-Some.put c.in-Some-2.one c.puts.invariant c.in-Some.ensures
    (some_case _ _ _ _ c.in-Some-2.is c.in_ok-one.ensures) c.in_ok-push.ensures

pub returns : goal.returns
returns c = tried_end _ _ _ _ _ c.puts.invariant c.in_default.ensures.0
