-- A call that sets a key is made with copies of its key and its value.
use Rattle.tree_attempts.specs.Calls.{contents_of}
use Rattle.tree_attempts.proofs.Setting.{set_copied}
use Rattle.tree_attempts.proofs.attempt.operate.Goals as goal

pub returns-in_ok-value-in-Set-clause-ends : goal.returns-in_ok-value-in-Set-clause-ends
returns-in_ok-value-in-Set-clause-ends g c =
    set_copied (contents_of g.B.Sight.objects) _ _ c.args.root c.args.operation.now c.in-Set.key c.in_ok-key-in-Set.key c.in-Set.value c.in_ok-value-in-Set.value _ c.set_value.result
    c.in-Set.is c.in_ok-key-in-Set.ensures.cases c.in_ok-value-in-Set.ensures c.set_value.ensures.ends
