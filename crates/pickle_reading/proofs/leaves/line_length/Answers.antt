use Rattle.pickle_reading.proofs.Lines.{line_at, line_none}
use Rattle.pickle_reading.proofs.leaves.line_length.Goals as goal

pub returns-then-bytes-end-eq10-clause-first : goal.returns-then-bytes-end-eq10-clause-first
returns-then-bytes-end-eq10-clause-first c = (line_at _ _ c.loop-end.invariant.none c.loop-end-test.true c.if-bytes-end-eq10.true).first

pub returns-then-bytes-end-eq10-clause-behind : goal.returns-then-bytes-end-eq10-clause-behind
returns-then-bytes-end-eq10-clause-behind c = (line_at _ _ c.loop-end.invariant.none c.loop-end-test.true c.if-bytes-end-eq10.true).behind

pub returns-clause-first : goal.returns-clause-first
returns-clause-first c = (line_none _ _ c.loop-end.invariant.none c.loop-end-test.false).first

pub returns-clause-behind : goal.returns-clause-behind
returns-clause-behind c = (line_none _ _ c.loop-end.invariant.none c.loop-end-test.false).behind
