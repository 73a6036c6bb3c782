use Rattle.std.proofs.Common.{◌≡◌, drop}
use Rattle.zb_model.specs.Stores.{ReadKeepsRest}
use Rattle.undo_records.specs.Undone.{undone_changes}
use Rattle.undo_records.proofs.undoing.undo_changes.Given as goal

-- what was written, and then the changes that are left taken back, is all of them taken back
abbrev pub invariant-loop-change : goal.invariant-loop-change
invariant-loop-change g l =
    let old = g.St.Store.state l.fn.store in
    record {
      same : ReadKeepsRest old (g.St.Store.state l.store);
      counted : (g.St.Store.state l.store).read_faults ≡ old.read_faults;
      rest : g.St.Store.told → undone_changes (g.R.Resolver.rules l.resolver) old.list l.tid l.written (drop l.change-index l.changes)
          ≡ undone_changes (g.R.Resolver.rules l.resolver) old.list l.tid l.fn.written l.changes;
    }
