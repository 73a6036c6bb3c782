use Rattle.std.proofs.Common.{ap, ◌∙◌}
use Rattle.fs_records.specs.Headers.{header_of}
use Rattle.fs_records.specs.HeaderLaws.{header_of-take}
use Rattle.fs_reading.proofs.pieces.header_at.Goals as goal

pub returns-clause-value : goal.returns-clause-value
returns-clause-value g c = λ told. c.read_header.ensures.value ∙ ap header_of (c.in_ok-read.ensures.bytes told) ∙ header_of-take _
