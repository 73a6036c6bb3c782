-- By what each token of alike texts does.
use Rattle.zb_record.proofs.Kept.{alike_kept}
use Rattle.zb_record.proofs.laws.alike_records_are_kept.Goals as goal

pub returns : goal.returns
returns c =
    alike_kept c.spelled_tokens_are_read.ensures.read c.written_pickles_read_back.ensures c.written_pickles_read_anywhere.ensures c.written_pickles_read_behind.ensures
    c.references_are_those_of_nodes.ensures.told
