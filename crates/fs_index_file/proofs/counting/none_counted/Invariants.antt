use Rattle.std.proofs.Common.{◌≡◌, take}
use Rattle.fs_index_file.specs.Counts.{nothing_counted}
use Rattle.fs_index_file.proofs.counting.none_counted.Given as goal

abbrev pub invariant-each : goal.invariant-each
invariant-each l = l.counted.items ≡ nothing_counted (take l._start-index l.starts)
