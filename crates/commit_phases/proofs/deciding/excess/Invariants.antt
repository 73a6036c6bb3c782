use Rattle.std.proofs.Common.{◌≡◌, ◌+◌, ◌*◌, ◌≤◌, drop, map}
use Rattle.std.specs.List.{sum_by}
use Rattle.commit_phases.specs.Decision.{excess_of}
use Rattle.commit_phases.specs.Pending.{object_limit, transaction_limit}
use Rattle.commit_phases.specs.Resolving.{length_of_new, record_count}
use Rattle.commit_phases.proofs.Settling.{excess_from}
use Rattle.commit_phases.proofs.deciding.excess.Given as goal

-- there is room for the bytes of the changes that are left
abbrev pub invariant-loop-change : goal.invariant-loop-change
invariant-loop-change l = record {
  room : l.sum + object_limit * sum_by (λ c. record_count c.content) (drop l.change-index l.changes) ≤ object_limit * transaction_limit;
  rest : excess_from l.sum (map (λ c. length_of_new c.content) (drop l.change-index l.changes)) ≡ excess_of (map (λ c. length_of_new c.content) l.changes);
}
