use Rattle.std.proofs.Common.{◌≡◌, ◌+◌, ◌-◌, ◌^◌, List, None, length}
use Rattle.std.specs.Ordering.{nat_cmp}
use Rattle.std.specs.FinSet.{FinSet, len}
use Rattle.zb_model.specs.declared.data.Transaction.{Transaction}
use Rattle.zb_model.specs.Stores.{ReadKeepsRest}
use Rattle.pack_reach.specs.Marking.{HasGrown, IsLeastFollowed, IsMarking, KeepsMarks}
use Rattle.pack_reach.proofs.marker.Marker.follow_all.Given as goal

abbrev pub invariant-follow : goal.invariant-follow
invariant-follow g l =
    let named = g.F.Refs.named l.refs in
    let old = g.St.Store.state l.fn.store in
    let now = g.St.Store.state l.store in
    record {
      same : ReadKeepsRest old now;
      faults : now.read_faults ≡ old.read_faults;
      keeps : KeepsMarks l.fn.self l.self;
      counted : l.self.counted ≡ l.fn.self.counted;
      seen : l.self.seen ≡ l.fn.self.seen;
      marks : g.St.Store.told → (front later : List Transaction) → HasGrown l.fn.self.tid front later old.list → IsMarking named front l.fn.self → IsMarking named front l.self;
      least : g.St.Store.told → (before : FinSet nat_cmp) → IsLeastFollowed old.list before l.fn.self None → IsLeastFollowed old.list before l.self l.least;
    }

abbrev pub decreases-follow : goal.decreases-follow
decreases-follow g l = 2 ^ 63 + length l.self.waiting - len l.self.set
