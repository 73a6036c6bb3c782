use Rattle.std.proofs.Common.{◌≡◌, ◌-◌, ◌++◌, length}
use Rattle.zeo_reading.specs.Loose.{revisions_at, revision_in, behind_revision}
use Rattle.zeo_values.specs.Leaves.{read_items}
use Rattle.zeo_reading.proofs.list_reading.revisions_at.Given as goal

abbrev pub invariant-loop-i : goal.invariant-loop-i
invariant-loop-i l = l.revisions ++ read_items 0x28 revision_in behind_revision (length l.bytes - l._i) l.rest ≡ revisions_at l.bytes
