use Rattle.bucket_merge.proofs.Theorems.{merged_is_map, least_is_named}
use Rattle.bucket_merge.proofs.laws.merges_are_maps.Goals as goal

pub returns-clause-merged : goal.returns-clause-merged
returns-clause-merged c = merged_is_map

pub returns-clause-named : goal.returns-clause-named
returns-clause-named c = least_is_named
