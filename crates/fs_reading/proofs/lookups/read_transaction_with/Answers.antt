use Rattle.std.proofs.Common.{sym}
use Rattle.fs_reading.proofs.Starts.{with_tid, none_with_tid, other_by, other_with_tid, same_by}
use Rattle.fs_reading.proofs.lookups.read_transaction_with.Goals as goal

pub returns-in_default-clause-found : goal.returns-in_default-clause-found
returns-in_default-clause-found g c = λ told reached begins are.
    none_with_tid _ reached c.args.tid c.args.starts.now c.first_from.result begins are c.first_from.ensures c.in_default.is

pub returns-then-ne-clause-found : goal.returns-then-ne-clause-found
returns-then-ne-clause-found g c = λ told reached begins are.
    other_with_tid _ reached c.args.tid c.args.starts.now c.first_from.result c.in-Some.start begins are c.requires.rising c.first_from.ensures c.in-Some.is
    (other_by c.ne.result c.in-Some.start.serial c.args.tid c.ne.ensures c.if-ne.true)

pub read_transaction_at-requires-clause-start : goal.read_transaction_at-requires-clause-start
read_transaction_at-requires-clause-start g c = λ told.
    let file = c.requires.starts told in
    let found = with_tid _ file.reached c.args.tid c.args.starts.now c.first_from.result c.in-Some.start file.begins file.are c.first_from.ensures c.in-Some.is (same_by c.ne.result c.in-Some.start.serial c.args.tid c.ne.ensures c.if-ne.false) in
    record { reached = file.reached; number = found.number; begins = file.begins; is = found.is; short = file.short }

pub returns-clause-found : goal.returns-clause-found
returns-clause-found g c = λ told reached begins are.
    let found = with_tid _ reached c.args.tid c.args.starts.now c.first_from.result c.in-Some.start begins are c.first_from.ensures c.in-Some.is (same_by c.ne.result c.in-Some.start.serial c.args.tid c.ne.ensures c.if-ne.false) in
    sym (found.finds c.in_ok-read_transaction_at.field-0 (c.in_ok-read_transaction_at.ensures.transaction told reached found.number begins found.is))
