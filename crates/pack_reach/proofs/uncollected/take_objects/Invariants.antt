use Rattle.std.proofs.Common.{◌≡◌, Some, take}
use Rattle.zb_model.specs.declared.data.Transaction.{Transaction}
use Rattle.zb_model.specs.Queries.{transaction_at}
use Rattle.zb_model.specs.Stores.{ReadKeepsRest}
use Rattle.pack_reach.specs.Uncollected.{with_changes}
use Rattle.pack_reach.proofs.uncollected.take_objects.Given as goal

abbrev pub invariant-loop-number : goal.invariant-loop-number
invariant-loop-number g l =
    let old = g.St.Store.state l.fn.store in
    let now = g.St.Store.state l.store in
    record {
      same : ReadKeepsRest old now;
      faults : now.read_faults ≡ old.read_faults;
      taken : g.St.Store.told → (x : Transaction) → transaction_at l.tid old.list ≡ Some x → l.marks ≡ with_changes l.fn.marks (take l.number x.changes);
    }
