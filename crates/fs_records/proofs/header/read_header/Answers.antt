use Rattle.fs_records.specs.Headers.{header_of}
use Rattle.fs_records.specs.HeaderLaws.{header_back}
use Rattle.fs_records.proofs.header.read_header.Goals as goal

pub returns-clause-text : goal.returns-clause-text
unfolding header_of
returns-clause-text c = let back = header_back c.args.bytes.now c.told-bytes c.fits-bytes in cc
