use Rattle.std.proofs.Common.{rules}
use Rattle.std.proofs.lemmas.List.Sorted.{IsPartitionPoint-from_clause, IsPartitionedBy-ltb}
use Rattle.fs_index.specs.Places.{is_place_below}
use Rattle.fs_index.proofs.Finding.{filtered}
use Rattle.fs_index.proofs.search.count_below.Goals as goal

pub returns-clause-first : goal.returns-clause-first
returns-clause-first c =
    let parted = IsPartitionedBy-ltb (λ p. p.serial) c.args.places.now c.args.front c.requires.serials in
    let point = IsPartitionPoint-from_clause (is_place_below c.args.front) _ _ c.partition_point.ensures.partitioned parted (λ a r q k. search rules) in
    filtered c.args.front c.args.places.now c.partition_point.result c.partition_point.ensures.bound point
