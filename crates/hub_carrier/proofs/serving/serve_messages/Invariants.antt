use Rattle.std.proofs.Common.{◌≡◌, length}
use Rattle.std.specs.Vec.Iter.{into_iter_items, into_iter_len}
use Rattle.hub_carrier.specs.Ends.{StepsThere, end_at}
use Rattle.hub_carrier.proofs.Serves.{IsSentSoFar}
use Rattle.hub_carrier.proofs.serving.serve_messages.Given as goal

abbrev pub invariant-loop-payload : goal.invariant-loop-payload
invariant-loop-payload g l =
    let St = g.St.Store in
    let stamps = g.C.Clock.stamps in
    record {
      ends : into_iter_len l.payload-iterator ≡ length (into_iter_items l.payload-iterator);
      so : IsSentSoFar (StepsThere St.told St.lasts St.stands g.R.Resolver.rules g.F.Refs.named l.fn.session) l.fn.desk l.fn.payloads (into_iter_items l.payload-iterator)
          (end_at l.fn.hub (stamps l.fn.clock) l.fn.packs l.fn.trouble) (end_at l.hub (stamps l.clock) l.fn.packs l.trouble) l.desk l.fn.text.items l.text.items;
    }
