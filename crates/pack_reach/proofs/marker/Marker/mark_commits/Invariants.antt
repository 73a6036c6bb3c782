use Rattle.std.proofs.Common.{◌≡◌, ◌≤◌, List}
use Rattle.zb_model.specs.declared.data.Transaction.{Transaction}
use Rattle.zb_model.specs.Stores.{ReadKeepsRest}
use Rattle.pack_reach.specs.Marking.{HasGrown, IsMarkedWhole, IsMarking, KeepsMarks, MayMark}
use Rattle.pack_reach.proofs.Overtaking.{ComesLate}
use Rattle.pack_reach.proofs.marker.Marker.mark_commits.Given as goal

abbrev pub invariant-loop-i : goal.invariant-loop-i
invariant-loop-i g l =
    let named = g.F.Refs.named l.refs in
    let old = g.St.Store.state l.fn.store in
    let now = g.St.Store.state l.store in
    record {
      same : ReadKeepsRest old now;
      faults : now.read_faults ≡ old.read_faults;
      keeps : KeepsMarks l.fn.self l.self;
      counted : l.self.counted ≡ l.fn.self.counted;
      may_mark : g.St.Store.told → MayMark named old.list l.fn.self → IsMarking named old.list l.self;
      seen : g.St.Store.told → l._i ≤ l.self.seen;
      late : g.St.Store.told → (front commits : List Transaction) → HasGrown l.fn.self.tid front commits old.list → IsMarkedWhole named front l.fn.self → ComesLate named front commits l.fn.self l.self l.late;
    }
