use Rattle.std.proofs.Common.{◌≡◌, length}
use Rattle.zb_model.specs.Stores.{ReadKeepsRest}
use Rattle.zodb_core.proofs.Behind.{AreTold}
use Rattle.zodb_core.proofs.since.commits_behind.Given as goal

abbrev pub invariant-loop-i : goal.invariant-loop-i
invariant-loop-i g l =
    let old = g.St.Store.state l.fn.store in
    let now = g.St.Store.state l.store in
    record {
      same : ReadKeepsRest old now;
      counted : now.read_faults ≡ old.read_faults;
      count : length l.commits ≡ l._i;
      told : g.St.Store.told → AreTold old.list l.fn.tid l.commits l.at;
    }
