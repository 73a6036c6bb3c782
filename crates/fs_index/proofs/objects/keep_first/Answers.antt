use Rattle.fs_index.proofs.Alone.{alone_added, alone_keeps}
use Rattle.fs_index.proofs.objects.keep_first.Goals as goal

pub returns-clause-added : goal.returns-clause-added
returns-clause-added c = λ rest none. alone_added c.args.alone.now.items c.oid.inside.0 c.args.oid c.args.place rest c.oid.view_is c.requires.within c.requires.absent none c.requires.there

pub returns-clause-others : goal.returns-clause-others
returns-clause-others c = λ rest o other room. alone_keeps c.args.alone.now.items c.oid.inside.0 c.args.oid c.args.place rest o c.oid.view_is c.requires.within c.requires.there other room
