use Rattle.std.proofs.Common.{◌≡◌, ◌++◌, take}
use Rattle.std.specs.List.{flat_map}
use Rattle.fs_index_file.specs.Hints.{record_text}
use Rattle.fs_index_file.proofs.Texts.{RecordsSmall}
use Rattle.fs_index_file.proofs.writing.put_records.Given as goal

abbrev pub invariant-each : goal.invariant-each
invariant-each l = record { small : RecordsSmall l.records l.entry-index; so_far : l.text.items ≡ l.fn.text.items ++ flat_map record_text (take l.entry-index l.records) }
