use Rattle.pickle_references.proofs.OnePassed.{passed_one}
use Rattle.pickle_references.proofs.passing.pass_values.Goals as goal

pub loop-left-preserved : goal.loop-left-preserved
loop-left-preserved c =
    passed_one c.loop-left.left c.in-Some-Value.value c.in-Some-Value.field-0 c.loop-left.stack c.pop.new.self c.loop-left.seen c.one_passed-seen.result _
    c.loop-left-test.true c.in-Some-Value.ensures c.in-Some-Value.field-0-is c.one_passed-seen.ensures c.loop-left.invariant
