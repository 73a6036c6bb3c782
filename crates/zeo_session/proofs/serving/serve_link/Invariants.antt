use Rattle.std.proofs.Common.{◌<◌, ◌≤◌, length}
use Rattle.zeo_session.specs.Serving.{HasServedSoFar}
use Rattle.zeo_session.proofs.serving.serve_link.Given as goal

abbrev pub invariant-serving : goal.invariant-serving
invariant-serving g l =
    let J = g.J.Origin in
    let I = g.I.Source in
    let O = g.O.Sink in
    record {
      can : (goal.iterator-serving g).can_next l.iterator';
      finite : (goal.iterator-serving g).is_finite l.iterator';
      some : 0 < length l.piece.items;
      counted_in : I.faults l.fn.link_in ≤ I.faults l.link_in;
      counted_out : O.faults l.fn.link_out ≤ O.faults l.link_out;
      served : HasServedSoFar g.St.Store.told J.rules J.list J.counts l.fn.pass l.now l.desk l.frames (I.left l.fn.link_in) (I.left l.link_in) (O.taken l.fn.link_out) (O.taken l.link_out);
    }
