use Rattle.std.proofs.Common.{◌≡◌, ◌-◌, ◌++◌, length}
use Rattle.zeo_reading.specs.Loose.{lines_at, line_in, behind_line}
use Rattle.zeo_values.specs.Leaves.{read_items}
use Rattle.zeo_reading.proofs.list_reading.lines_at.Given as goal

abbrev pub invariant-loop-i : goal.invariant-loop-i
invariant-loop-i l = l.lines ++ read_items 0x43 line_in behind_line (length l.bytes - l._i) l.rest ≡ lines_at l.bytes
