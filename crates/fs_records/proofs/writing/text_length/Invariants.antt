use Rattle.std.proofs.Common.{◌≡◌, ◌+◌, drop}
use Rattle.fs_records.specs.Writing.{records_size, text_size}
use Rattle.fs_records.proofs.writing.text_length.Given as goal

-- with what is left it is the whole
abbrev pub invariant-size : goal.invariant-size
invariant-size l = l.length + records_size (drop l.change-index l.new.changes) ≡ text_size l.new
