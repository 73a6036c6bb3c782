use Rattle.std.proofs.Common.{◌≡◌, drop}
use Rattle.std.specs.Prelude.{map}
use Rattle.btree_shapes.specs.Ways.{stands_in, step_oid}
use Rattle.btree_shapes.proofs.path.Path.contains.Given as goal

abbrev pub invariant-loop-step : goal.invariant-loop-step
invariant-loop-step l = stands_in (map step_oid (drop l.step-index l.step-items)) l.fn.oid ≡ stands_in (map step_oid l.step-items) l.fn.oid
