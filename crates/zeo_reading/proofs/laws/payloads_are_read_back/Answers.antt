use Rattle.zeo_reading.proofs.MessageRows.{read_back}
use Rattle.zeo_reading.proofs.laws.payloads_are_read_back.Goals as goal

pub returns : goal.returns
returns c = read_back
