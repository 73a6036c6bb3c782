use Rattle.std.proofs.Common.{◌≡◌, false, length, ◌∙◌, rules, ltb}
use Rattle.std.proofs.lemmas.List.Sorted.{IsPartitionPoint-from_clause, IsPartitionedBy-ltb}
use Rattle.fs_index.specs.declared.place.Place.{Place}
use Rattle.fs_index.proofs.Finding.{found_at, none_found}
use Rattle.fs_index.proofs.search.any_at.Goals as goal

pub returns-then-n-places : goal.returns-then-n-places
returns-then-n-places c =
    let parted = IsPartitionedBy-ltb (λ p. p.at) c.args.places.now c.args.at c.requires.places_rise in
    let point = IsPartitionPoint-from_clause (λ (p : Place). ltb p.at c.args.at) _ _ c.partition_point-n.ensures.partitioned parted (λ a r q k. search rules) in
    found_at c.args.at c.args.places.now c.partition_point-n.result _ (search rules) point c.requires.places_rise

pub returns-else-n-places : goal.returns-else-n-places
returns-else-n-places c =
    let parted = IsPartitionedBy-ltb (λ p. p.at) c.args.places.now c.args.at c.requires.places_rise in
    let point = IsPartitionPoint-from_clause (λ (p : Place). ltb p.at c.args.at) _ _ c.partition_point-n.ensures.partitioned parted (λ a r q k. search rules) in
    let test : ltb c.partition_point-n.result (length c.args.places.now) ≡ false = search rules in
    test ∙ none_found c.args.at c.args.places.now c.partition_point-n.result (search rules) point
