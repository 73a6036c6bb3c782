use Rattle.std.proofs.Common.{◌≡◌, ◌-◌, ◌++◌, length}
use Rattle.zeo_reading.specs.Loose.{commits_at, commit_in, behind_commit}
use Rattle.zeo_values.specs.Leaves.{read_items}
use Rattle.zeo_reading.proofs.list_reading.commits_at.Given as goal

abbrev pub invariant-loop-i : goal.invariant-loop-i
invariant-loop-i l = l.commits ++ read_items 0x43 commit_in behind_commit (length l.bytes - l._i) l.rest ≡ commits_at l.bytes
