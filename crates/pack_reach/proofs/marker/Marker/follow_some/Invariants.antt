use Rattle.std.proofs.Common.{◌≡◌}
use Rattle.zb_model.specs.Stores.{ReadKeepsRest}
use Rattle.pack_reach.specs.Marking.{IsMarking, KeepsMarks}
use Rattle.pack_reach.proofs.marker.Marker.follow_some.Given as goal

abbrev pub invariant-loop-i : goal.invariant-loop-i
invariant-loop-i g l =
    let named = g.F.Refs.named l.refs in
    let old = g.St.Store.state l.fn.store in
    let now = g.St.Store.state l.store in
    record {
      same : ReadKeepsRest old now;
      faults : now.read_faults ≡ old.read_faults;
      keeps : KeepsMarks l.fn.self l.self;
      counted : l.self.counted ≡ l.fn.self.counted;
      marks : g.St.Store.told → IsMarking named old.list l.fn.self → IsMarking named old.list l.self;
    }
