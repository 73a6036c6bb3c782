use Rattle.std.proofs.Common.{◌≡◌, ◌≤◌, length}
use Rattle.std.specs.Vec.Iter.{into_iter_items, into_iter_len}
use Rattle.zeo_session.specs.Served.{Progress}
use Rattle.zeo_session.proofs.Links.{TakesFront}
use Rattle.zeo_session.proofs.serving.serve_payloads.Given as goal

abbrev pub invariant-loop-payload : goal.invariant-loop-payload
invariant-loop-payload g l =
    let J = g.J.Origin in
    let O = g.O.Sink in
    record {
      ends : into_iter_len l.payload-iterator ≡ length (into_iter_items l.payload-iterator);
      counted : O.faults l.fn.link_out ≤ O.faults l.link_out;
      taken : (s : Progress) → s.known ≡ l.fn.pass
          → TakesFront g.St.Store.told J.rules J.list J.counts s l.now l.fn.desk l.desk l.fn.payloads (into_iter_items l.payload-iterator) (O.taken l.fn.link_out) (O.taken l.link_out);
    }
