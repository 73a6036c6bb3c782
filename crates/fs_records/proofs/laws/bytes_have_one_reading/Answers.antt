use Rattle.fs_records.specs.Listed.{reading_is, reading_stands}
use Rattle.fs_records.proofs.laws.bytes_have_one_reading.Goals as goal

pub returns-clause-only : goal.returns-clause-only
returns-clause-only c = reading_is

pub returns-clause-stands : goal.returns-clause-stands
returns-clause-stands c = reading_stands
