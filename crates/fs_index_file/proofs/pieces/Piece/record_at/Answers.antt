use Rattle.std.proofs.Common.{ap, ◌∙◌}
use Rattle.fs_index_file.specs.Hints.{record_of}
use Rattle.fs_index_file.proofs.Takes.{record_of-take}
use Rattle.fs_index_file.proofs.pieces.Piece.record_at.Goals as goal

pub returns-clause-value : goal.returns-clause-value
returns-clause-value g c = λ told. c.record_in.ensures ∙ ap record_of (c.in_ok-read.ensures.bytes told) ∙ record_of-take _
