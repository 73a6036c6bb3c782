-- By what is known of each pickle's references.
use Rattle.zb_record.proofs.Read.{read-is_record, record-is_read}
use Rattle.zb_record.proofs.laws.records_are_two_pickles.Goals as goal

pub returns-clause-record : goal.returns-clause-record
returns-clause-record c = read-is_record c.references_are_those_of_nodes.ensures.told

pub returns-clause-read : goal.returns-clause-read
returns-clause-read c = record-is_read
