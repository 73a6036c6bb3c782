use Rattle.std.proofs.Common.{◌≡◌, List, Some, take}
use Rattle.std.specs.List.{AllByRecursion}
use Rattle.zb_model.specs.declared.data.Transaction.{Transaction}
use Rattle.zb_model.specs.Queries.{transaction_at}
use Rattle.zb_model.specs.Stores.{ReadKeepsRest}
use Rattle.pack_reach.specs.Marking.{IsChangeRead, IsSound, MayReadTransaction, OnlyMarks}
use Rattle.pack_reach.proofs.marker.Marker.read_transaction.Given as goal

abbrev pub invariant-loop-number : goal.invariant-loop-number
invariant-loop-number g l =
    let named = g.F.Refs.named l.refs in
    let old = g.St.Store.state l.fn.store in
    let now = g.St.Store.state l.store in
    record {
      same : ReadKeepsRest old now;
      faults : now.read_faults ≡ old.read_faults;
      only : OnlyMarks l.fn.self l.self;
      sound : g.St.Store.told → (list : List Transaction) (x : Transaction) → transaction_at l.tid old.list ≡ Some x → MayReadTransaction named l.fn.self.tid list x → IsSound named list l.fn.self l.self;
      read : g.St.Store.told → (x : Transaction) → transaction_at l.tid old.list ≡ Some x → AllByRecursion (IsChangeRead named l.self x.tid) (take l.number x.changes);
    }
