use Rattle.std.proofs.Common.{◌≡◌, ◌++◌, map}
use Rattle.std.specs.Vec.Iter.{into_iter_items}
use Rattle.zeo_news.specs.Notices.{commit_notice, notice_frame}
use Rattle.zeo_news.proofs.telling.push_commits.Given as goal

-- the frames by now with those of the commits that are left are all
abbrev pub invariant-loop-commit : goal.invariant-loop-commit
invariant-loop-commit l =
    l.frames ++ map notice_frame (map (commit_notice l.front) (into_iter_items l.commit-iterator)) ≡ l.fn.frames ++ map notice_frame (map (commit_notice l.front) l.fn.commits)
