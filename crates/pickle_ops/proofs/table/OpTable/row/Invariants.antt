-- What the rows from here on give is what all give.
use Rattle.std.proofs.Common.{◌≡◌, drop}
use Rattle.pickle_ops.specs.Rows.{row_in}
use Rattle.pickle_ops.proofs.table.OpTable.row.Given as goal

abbrev pub invariant-loop-row : goal.invariant-loop-row
invariant-loop-row g l = row_in (drop l.row-index l.self.rows) l.byte ≡ row_in l.self.rows l.byte
