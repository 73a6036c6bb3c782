use Rattle.std.proofs.Common.{◌≡◌, ◌++◌, length}
use Rattle.zeo_frames.specs.Frames.{AreCut, IsHeld}
use Rattle.zeo_frames.proofs.reading.cut_piece.Given as goal

abbrev pub invariant-loop-rest : goal.invariant-loop-rest
invariant-loop-rest l = record {
  cut : AreCut ((l.fn.unfinished.head.items ++ l.fn.unfinished.body.items) ++ l.piece) l.payloads ((l.unfinished.head.items ++ l.unfinished.body.items) ++ l.rest);
  kept : IsHeld l.unfinished.head.items l.unfinished.body.items;
}

abbrev pub decreases-loop-rest : goal.decreases-loop-rest
decreases-loop-rest l = length l.rest
