use Rattle.fs_index.proofs.Adding.{pushed}
use Rattle.fs_index.proofs.Alone.{alone_next_added, alone_next_keeps}
use Rattle.fs_index.proofs.objects.keep_next.Goals as goal

pub returns-clause-added : goal.returns-clause-added
returns-clause-added c =
    let new_is = pushed c.push.result c.args.alone.now.items c.push.new.self.items c.args.place (c.push.ensures.succeeds c.requires.room) c.push.ensures.items in
    λ rest none. alone_next_added c.args.alone.now.items c.push.new.self.items c.args.oid c.args.place rest c.requires.next new_is none c.requires.there

pub returns-clause-others : goal.returns-clause-others
returns-clause-others c =
    let new_is = pushed c.push.result c.args.alone.now.items c.push.new.self.items c.args.place (c.push.ensures.succeeds c.requires.room) c.push.ensures.items in
    λ rest o other room. alone_next_keeps c.args.alone.now.items c.push.new.self.items c.args.oid c.args.place rest o c.requires.next new_is c.requires.there other room
