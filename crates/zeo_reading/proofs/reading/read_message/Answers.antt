use Rattle.zeo_reading.proofs.MessageRows.{bad_reads}
use Rattle.zeo_reading.proofs.reading.read_message.Goals as goal

pub returns-clause-bad : goal.returns-clause-bad
returns-clause-bad c e = bad_reads c.checked_message.result c.args.payload.now c.checked_message.ensures.exact e
