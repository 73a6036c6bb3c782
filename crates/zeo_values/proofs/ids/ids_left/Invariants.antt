use Rattle.std.proofs.Common.{◌≡◌, ◌-◌, length}
use Rattle.zeo_values.specs.Leaves.{ids_left, read_left, behind}
use Rattle.zeo_values.proofs.ids.ids_left.Given as goal

abbrev pub invariant-loop-i : goal.invariant-loop-i
invariant-loop-i l = read_left 0x43 (behind 10) (length l.bytes - l._i) l.rest ≡ ids_left l.bytes
