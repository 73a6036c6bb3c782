use Rattle.std.proofs.Common.{rules}
use Rattle.std.proofs.lemmas.List.Sorted.{IsPartitionPoint-from_clause, IsPartitionedBy-leb}
use Rattle.pack_copy.proofs.Searches.{is_up_to, counted}
use Rattle.pack_copy.proofs.turn.count_up_to.Goals as goal

pub returns : goal.returns
returns c =
    let parted = IsPartitionedBy-leb (λ p. p.serial) c.args.starts.now c.args.tid c.requires.serials in
    let point = IsPartitionPoint-from_clause (is_up_to c.args.tid) _ _ c.partition_point.ensures.partitioned parted (λ a r q k. search rules) in
    counted c.args.tid c.args.starts.now c.partition_point.result c.partition_point.ensures.bound point
