use Rattle.std.proofs.Common.{◌≡◌, length}
use Rattle.std.specs.Io.KnownBytes.{Keeps}
use Rattle.zb_outside.proofs.read_source.read_again.Given as goal

abbrev pub invariant-loop : goal.invariant-loop
invariant-loop g l = record {
  room : length l.out ≡ length l.fn.out;
  left : Keeps (g.R.Read.remaining l.fn.reader) (g.R.Read.remaining l.reader);
}
