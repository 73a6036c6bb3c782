use Rattle.std.proofs.Common.{◌-◌, ◌+◌, ◌≤◌, vec_len}
use Rattle.std.specs.Io.KnownBytes.{Consumes}
use Rattle.zb_outside.proofs.reading.read_with.Given as goal

abbrev pub invariant-reading : goal.invariant-reading
invariant-reading g l =
    let S = g.S.Source in
    record {
      within : vec_len l.all ≤ l.limit + 1;
      given : Consumes (S.left l.fn.source) (S.left l.source) l.all.items;
      sure : S.sure l.fn.source → S.sure l.source;
      counted : S.faults l.fn.source ≤ S.faults l.source;
    }

abbrev pub decreases-reading : goal.decreases-reading
decreases-reading g l = l.limit + 1 - vec_len l.all
