-- Each text reads back wherever it stands, and behind whatever was left.
use Rattle.zb_record.proofs.Written.{written-reads_back}
use Rattle.zb_record.proofs.laws.written_records_read_back.Goals as goal

pub returns : goal.returns
returns c =
    let r = c.references_are_those_of_nodes.ensures in
    written-reads_back c.written_pickles_read_anywhere.ensures c.written_pickles_read_behind.ensures r.named r.left r.copies
