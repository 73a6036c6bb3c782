use Rattle.std.proofs.Common.{ap, ◌∙◌}
use Rattle.fs_index_file.specs.Hints.{start_of}
use Rattle.fs_index_file.proofs.Takes.{start_of-take}
use Rattle.fs_index_file.proofs.pieces.Piece.start_at.Goals as goal

pub returns-clause-value : goal.returns-clause-value
returns-clause-value g c = λ told. c.start_in.ensures ∙ ap start_of (c.in_ok-read.ensures.bytes told) ∙ start_of-take _
