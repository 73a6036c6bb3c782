use Rattle.fs_append.proofs.Mixes.{abort_front, abort_leaves}
use Rattle.fs_append.proofs.appending.abort.Goals as goal

pub returns-clause-any_moment : goal.returns-clause-any_moment
returns-clause-any_moment g c told s voted = abort_leaves _ _ s c.args.end (c.requires.within told) voted (c.cut_and_sync.ensures.any_moment told)

pub returns-clause-front : goal.returns-clause-front
returns-clause-front g c told settled = abort_front _ _ c.args.end (c.requires.within told) settled (c.cut_and_sync.ensures.any_moment told)
