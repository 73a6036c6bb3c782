use Rattle.std.proofs.Common.{ℕ, List, eqb, sym, subst}
use Rattle.std.specs.List.{Contains}
use Rattle.std.specs.List.Sorted.{IsStrictlyIncreasing}
use Rattle.std.proofs.lemmas.List.Filters.{dedup_is}
use Rattle.std.proofs.lemmas.List.Kept.{Contains-dedup_nat}
use Rattle.std.proofs.lemmas.List.Sorted.{Contains-permutation}
use Rattle.std.proofs.lemmas.Map.Keys.{IsStrictlyIncreasing-dedup}
use Rattle.fs_index.proofs.listing.in_order.Goals as goal

pub returns-clause-rising : goal.returns-clause-rising
returns-clause-rising c = subst (λ (xs : List ℕ). IsStrictlyIncreasing xs) (sym (dedup_is eqb c.sort.new.self.items c.dedup.new.self.items c.dedup.ensures.filtered)) (IsStrictlyIncreasing-dedup c.sort.new.self.items c.in_ok-sort.ensures.sorted)

pub returns-clause-kept : goal.returns-clause-kept
returns-clause-kept c = λ o there. subst (λ (xs : List ℕ). Contains xs o) (sym (dedup_is eqb c.sort.new.self.items c.dedup.new.self.items c.dedup.ensures.filtered)) (Contains-dedup_nat c.sort.new.self.items o (Contains-permutation c.args.oids.items c.sort.new.self.items o c.sort.ensures.permutation there))
