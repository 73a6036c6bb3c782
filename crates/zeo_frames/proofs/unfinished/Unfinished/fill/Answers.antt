use Rattle.std.proofs.Common.{rules}
use Rattle.zeo_frames.proofs.Filling.{long_named, taken_named, filled_named}
use Rattle.zeo_frames.proofs.unfinished.Unfinished.fill.Goals as goal

pub returns-then-length-gt-FRAME_LIMIT : goal.returns-then-length-gt-FRAME_LIMIT
returns-then-length-gt-FRAME_LIMIT c =
    long_named c.args.self.now.head.items c.args.self.now.body.items c.args.piece.now c.take_up_to.new.bytes.items c.in_ok-first.first c.in-Some.length
    c.requires.held c.in_ok-first.ensures.count c.in_ok-first.ensures.text
    (search rules) (search rules) c.if-length-gt-FRAME_LIMIT.true

pub returns-then-len-length : goal.returns-then-len-length
returns-then-len-length c =
    taken_named c.args.self.now.head.items c.args.self.now.body.items c.args.piece.now c.take_up_to.new.bytes.items c.split_at.result.1.now c.take_up_to-2.new.bytes.items
    c.in_ok-first.first c.in_ok-second.second c.in-Some.length
    c.requires.held c.in_ok-first.ensures.count c.in_ok-first.ensures.text c.split_at.ensures.back c.in_ok-second.ensures.text
    (search rules) (search rules) c.if-length-gt-FRAME_LIMIT.false c.in_ok-second.ensures.count (search rules)

pub returns-else-len-length : goal.returns-else-len-length
returns-else-len-length c =
    filled_named c.args.self.now.head.items c.args.self.now.body.items c.args.piece.now c.take_up_to.new.bytes.items c.split_at.result.1.now c.take_up_to-2.new.bytes.items
    c.in_ok-first.first c.in_ok-second.second c.in-Some.length
    c.requires.held c.in_ok-first.ensures.count c.in_ok-first.ensures.text c.split_at.ensures.back c.in_ok-second.ensures.text
    (search rules) (search rules) c.if-length-gt-FRAME_LIMIT.false (search rules) c.in_ok-second.ensures.count (search rules)
