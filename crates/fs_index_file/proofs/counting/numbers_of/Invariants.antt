use Rattle.std.proofs.Common.{◌≡◌}
use Rattle.fs_index_file.proofs.Totals.{CountsUpTo}
use Rattle.fs_index_file.proofs.counting.numbers_of.Given as goal

abbrev pub invariant-each : goal.invariant-each
invariant-each l = record { number : l.k ≡ l.start-index; so_far : CountsUpTo l.starts l.packed l.counted l.start-index l.numbers }
