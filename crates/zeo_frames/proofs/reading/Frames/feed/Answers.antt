use Rattle.std.proofs.Common.{rules, ◌++◌}
use Rattle.zeo_frames.proofs.Cuts.{come_named}
use Rattle.zeo_frames.proofs.reading.Frames.feed.Goals as goal

pub returns-in_default-excess-clause-come : goal.returns-in_default-excess-clause-come
returns-in_default-excess-clause-come c came given before =
    come_named came (c.self.inside.unfinished.head.items ++ c.self.inside.unfinished.body.items) c.args.piece.now
    c.cut_piece.new.unfinished.head.items c.cut_piece.new.unfinished.body.items given c.in-Ok.field-0.payloads c.self.inside.ended c.in-Ok.field-0.excess
    (search rules) c.in_default-excess.is (search (rules, before)) (search rules)
