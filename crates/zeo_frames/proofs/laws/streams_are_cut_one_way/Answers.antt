use Rattle.zeo_frames.proofs.OneWay.{cut_one_way}
use Rattle.zeo_frames.proofs.laws.streams_are_cut_one_way.Goals as goal

pub returns : goal.returns
returns c = cut_one_way
