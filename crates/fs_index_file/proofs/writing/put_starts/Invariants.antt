use Rattle.std.proofs.Common.{◌≡◌}
use Rattle.fs_index_file.proofs.Texts.{StartsPut, StartsSmall}
use Rattle.fs_index_file.proofs.writing.put_starts.Given as goal

abbrev pub invariant-each : goal.invariant-each
invariant-each l = record {
  number : l.number ≡ l.place-index;
  small : StartsSmall l.places l.numbers.tallies l.place-index;
  so_far : StartsPut l.fn.text.items l.places l.numbers.tallies l.place-index l.text.items;
}
