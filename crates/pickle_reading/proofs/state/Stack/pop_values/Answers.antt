use Rattle.pickle_reading.proofs.Stacks.{took_one}
use Rattle.pickle_reading.proofs.state.Stack.pop_values.Goals as goal

pub loop-left-preserved : goal.loop-left-preserved
loop-left-preserved c =
    took_one c.loop-left.left c.in-Some-Value.value c.in-Some-Value.field-0 c.loop-left.self c.pop.new.self c.loop-left.values.items c.push.new.self.items _
    c.loop-left-test.true c.in-Some-Value.ensures c.in-Some-Value.field-0-is c.in_ok-push.ensures.items c.loop-left.invariant
