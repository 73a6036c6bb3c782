use Rattle.zodb_core.proofs.Full.{journal_full}
use Rattle.zodb_core.proofs.laws.journal_is_full.Goals as goal

pub returns : goal.returns
returns c = journal_full
