use Rattle.std.proofs.Common.{ltb, rules}
use Rattle.std.proofs.lemmas.List.Sorted.{IsPartitionPoint-from_clause, IsPartitionedBy-ltb}
use Rattle.fs_index.specs.declared.place.Place.{Place}
use Rattle.fs_index_file.proofs.Summing.{Parts, all_before, none_before_it}
use Rattle.fs_index_file.proofs.counting.place_of.Goals as goal
use Rattle.fs_index_file.proofs.counting.place_of.Goals.{After-partition_point}

parts : (c : After-partition_point) → Parts c.args.serial c.args.starts.now c.partition_point.result
parts c =
    let parted = IsPartitionedBy-ltb (λ (p : Place). p.serial) c.args.starts.now c.args.serial c.requires.serials in
    IsPartitionPoint-from_clause (λ (p : Place). ltb p.serial c.args.serial) _ _ c.partition_point.ensures.partitioned parted (λ a r q k. search rules)

pub returns-clause-before : goal.returns-clause-before
returns-clause-before c = all_before c.args.serial c.args.starts.now c.partition_point.result (parts (goal.at.returns-clause-before c).After-partition_point)

pub returns-clause-behind : goal.returns-clause-behind
returns-clause-behind c = none_before_it c.args.serial c.args.starts.now c.partition_point.result (parts (goal.at.returns-clause-behind c).After-partition_point)
