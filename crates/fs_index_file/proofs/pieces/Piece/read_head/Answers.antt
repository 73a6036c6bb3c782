use Rattle.std.proofs.Common.{ap, ◌∙◌}
use Rattle.fs_index_file.specs.Hints.{head_of}
use Rattle.fs_index_file.proofs.Takes.{head_of-take}
use Rattle.fs_index_file.proofs.pieces.Piece.read_head.Goals as goal

pub returns-clause-value : goal.returns-clause-value
returns-clause-value g c = λ told. c.head_in.ensures ∙ ap head_of (c.in_ok-read.ensures.bytes told) ∙ head_of-take _
