use Rattle.std.proofs.Common.{ap, ◌∙◌}
use Rattle.fs_records.specs.Headers.{data_header_of}
use Rattle.fs_records.specs.HeaderLaws.{data_header_of-take}
use Rattle.fs_reading.proofs.front.header_in.Goals as goal

pub returns : goal.returns
returns c = c.read_data_header.ensures.value ∙ ap data_header_of c.copy_from_slice.ensures.after ∙ data_header_of-take _
