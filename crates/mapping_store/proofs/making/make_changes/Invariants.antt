use Rattle.std.proofs.Common.{◌≡◌, ◌++◌, drop, map}
use Rattle.zb_model.specs.Voting.{voted_change}
use Rattle.mapping_store.proofs.making.make_changes.Given as goal

abbrev pub invariant-loop-change : goal.invariant-loop-change
invariant-loop-change l = l.made ++ map (voted_change l.fn.list) (drop l.change-index l.changes) ≡ map (voted_change l.fn.list) l.changes
