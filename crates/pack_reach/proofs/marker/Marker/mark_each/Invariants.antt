use Rattle.std.proofs.Common.{◌≡◌, take}
use Rattle.pack_reach.specs.Marking.{with_marks}
use Rattle.pack_reach.proofs.marker.Marker.mark_each.Given as goal

abbrev pub invariant-loop-oid : goal.invariant-loop-oid
invariant-loop-oid l = l.self ≡ with_marks l.fn.self (take l.oid-index l.oids)
