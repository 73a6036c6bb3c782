use Rattle.bucket_merge.proofs.Theorems.{committed_alone, stored_alone}
use Rattle.bucket_merge.proofs.laws.one_changed_side_is_kept.Goals as goal

pub returns-clause-committed : goal.returns-clause-committed
returns-clause-committed c = committed_alone

pub returns-clause-stored : goal.returns-clause-stored
returns-clause-stored c = stored_alone
