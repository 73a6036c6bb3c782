use Rattle.std.proofs.Common.{◌≡◌, [], drop}
use Rattle.zb_model.specs.Stores.{ReadKeepsRest}
use Rattle.undo_records.specs.Undone.{undone_from}
use Rattle.undo_records.proofs.undoing.undo_in_turn.Given as goal

-- what was written, and then the transactions that are left taken back, is all of them taken back
abbrev pub invariant-loop-tid : goal.invariant-loop-tid
invariant-loop-tid g l =
    let old = g.St.Store.state l.fn.store in
    record {
      same : ReadKeepsRest old (g.St.Store.state l.store);
      counted : (g.St.Store.state l.store).read_faults ≡ old.read_faults;
      rest : g.St.Store.told → undone_from (g.R.Resolver.rules l.resolver) old.list l.written (drop l.tid-index l.tids)
          ≡ undone_from (g.R.Resolver.rules l.resolver) old.list [] l.tids;
    }
