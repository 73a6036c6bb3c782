use Rattle.std.proofs.Common.{◌≡◌, drop, length}
use Rattle.std.specs.Prelude.{◌==◌}
use Rattle.zeo_frames.specs.Frames.{frames}
use Rattle.hub_carrier.proofs.cutting.have_length.Given as goal

abbrev pub invariant-loop-payload : goal.invariant-loop-payload
invariant-loop-payload l = (length (frames l.payloads) == l.count) ≡ (length (frames (drop l.payload-index l.payloads)) == l.left)
