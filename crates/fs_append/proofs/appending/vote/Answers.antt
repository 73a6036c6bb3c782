use Rattle.fs_append.proofs.Mixes.{vote_front, vote_leaves}
use Rattle.fs_append.proofs.appending.vote.Goals as goal

pub returns-clause-any_moment : goal.returns-clause-any_moment
returns-clause-any_moment g c told s vote = vote_leaves _ _ s c.args.end c.args.bytes.now vote (c.write_and_sync.ensures.any_moment told)

pub returns-clause-front : goal.returns-clause-front
returns-clause-front g c told settled = vote_front _ _ c.args.end c.args.bytes.now (c.requires.within told) settled (c.write_and_sync.ensures.any_moment told)
