use Rattle.zeo_client.proofs.Wholes.{whole_pieces}
use Rattle.zeo_client.proofs.laws.whole_pieces_are_heard.Goals as goal

pub returns : goal.returns
returns c = whole_pieces c.streams_are_cut_one_way.ensures c.payloads_are_read_back.ensures
