use Rattle.std.proofs.Common.{◌≡◌, ◌≤◌, drop, length}
use Rattle.btree_checking.specs.Verdicts.{leaf_in, first_wrong, names_first, names_next}
use Rattle.btree_checking.proofs.links.wrong_link.Given as goal

abbrev pub invariant-loop-place : goal.invariant-loop-place
invariant-loop-place l = record {
  within : l.place ≤ length l.fn.visits.entries;
  leaf : l.leaf ≡ leaf_in (drop l.place l.fn.visits.entries);
  first : l.first ≡ first_wrong names_first (drop l.place l.fn.visits.entries);
  next : l.next ≡ first_wrong names_next (drop l.place l.fn.visits.entries);
}

abbrev pub decreases-loop-place : goal.decreases-loop-place
decreases-loop-place l = l.place
