use Rattle.std.proofs.Common.{arith, rules}
use Rattle.std.proofs.lemmas.List.Sorted.{IsPartitionPoint-from_clause, IsPartitionedBy-leb}
use Rattle.pack_copy.proofs.Searches.{is_up_to, none_up_to, one_up_to}
use Rattle.pack_copy.proofs.filtering.serial_among.Goals as goal

pub returns-then-n-eq0 : goal.returns-then-n-eq0
returns-then-n-eq0 c =
    let parted = IsPartitionedBy-leb (λ p. p.serial) c.args.places.now c.args.tid c.requires.serials in
    let point = IsPartitionPoint-from_clause (is_up_to c.args.tid) _ _ c.partition_point-n.ensures.partitioned parted (λ a r q k. search rules) in
    none_up_to c.args.tid c.args.places.now c.partition_point-n.result c.partition_point-n.ensures.bound point c.if-n-eq0.true

pub returns : goal.returns
returns c =
    let parted = IsPartitionedBy-leb (λ p. p.serial) c.args.places.now c.args.tid c.requires.serials in
    let point = IsPartitionPoint-from_clause (is_up_to c.args.tid) _ _ c.partition_point-n.ensures.partitioned parted (λ a r q k. search rules) in
    one_up_to c.args.tid c.args.places.now c.partition_point-n.result c.index-places-n.result c.partition_point-n.ensures.bound point (omega arith)
