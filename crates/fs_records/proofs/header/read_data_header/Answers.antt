use Rattle.fs_records.specs.Headers.{data_header_of}
use Rattle.fs_records.specs.HeaderLaws.{data_header_back}
use Rattle.fs_records.proofs.header.read_data_header.Goals as goal

pub returns-clause-text : goal.returns-clause-text
unfolding data_header_of
returns-clause-text c = let back = data_header_back c.args.bytes.now c.told-bytes c.fits-bytes in cc
