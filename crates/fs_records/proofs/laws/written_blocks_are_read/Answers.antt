use Rattle.fs_records.specs.WriteLaws.{block_stands, vote_stands}
use Rattle.fs_records.proofs.laws.written_blocks_are_read.Goals as goal

pub returns-clause-block : goal.returns-clause-block
returns-clause-block c = λ bytes s cut b stands is. block_stands bytes s b stands.begins is

pub returns-clause-vote : goal.returns-clause-vote
returns-clause-vote c = λ bytes s cut rest stands long voted. vote_stands bytes s rest stands.begins long voted
