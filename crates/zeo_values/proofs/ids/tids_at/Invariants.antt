use Rattle.std.proofs.Common.{◌≡◌, ◌-◌, ◌++◌, length}
use Rattle.zeo_values.specs.Leaves.{ids_at, read_items, behind, id_in}
use Rattle.zeo_values.proofs.ids.tids_at.Given as goal

abbrev pub invariant-loop-i : goal.invariant-loop-i
invariant-loop-i l = l.tids ++ read_items 0x43 id_in (behind 10) (length l.bytes - l._i) l.rest ≡ ids_at l.bytes
