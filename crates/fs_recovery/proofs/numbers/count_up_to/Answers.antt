use Rattle.std.proofs.Common.{rules, leb}
use Rattle.std.proofs.lemmas.List.Sorted.{IsPartitionPoint-from_clause, IsPartitionedBy-leb}
use Rattle.fs_recovery.proofs.Tallies.{first_ones}
use Rattle.fs_recovery.proofs.numbers.count_up_to.Goals as goal

pub returns-clause-first : goal.returns-clause-first
returns-clause-first c = λ list same.
    let parted = IsPartitionedBy-leb (λ x. x.serial) c.args.places.now c.args.tid c.requires.serials in
    let point = IsPartitionPoint-from_clause (λ x. leb x.serial c.args.tid) _ _ c.partition_point.ensures.partitioned parted (λ a r q k. search rules) in
    first_ones c.args.tid c.args.places.now c.partition_point.result list c.partition_point.ensures.bound point same
