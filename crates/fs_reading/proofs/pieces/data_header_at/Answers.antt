use Rattle.std.proofs.Common.{ap, ◌∙◌}
use Rattle.fs_records.specs.Headers.{data_header_of}
use Rattle.fs_records.specs.HeaderLaws.{data_header_of-take}
use Rattle.fs_reading.proofs.pieces.data_header_at.Goals as goal

pub returns-clause-value : goal.returns-clause-value
returns-clause-value g c = λ told. c.read_data_header.ensures.value ∙ ap data_header_of (c.in_ok-read.ensures.bytes told) ∙ data_header_of-take _
