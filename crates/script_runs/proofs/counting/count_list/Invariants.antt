use Rattle.std.proofs.Common.{◌≡◌}
use Rattle.zb_model.specs.Stores.{ReadKeepsRest}
use Rattle.script_runs.specs.Counted.{AreCounted}
use Rattle.script_runs.proofs.counting.count_list.Given as goal

abbrev pub invariant-loop-count : goal.invariant-loop-count
invariant-loop-count g l =
    let old = g.St.Store.state l.fn.store in
    let now = g.St.Store.state l.store in
    record {
      same : ReadKeepsRest old now;
      faults : now.read_faults ≡ old.read_faults;
      counted : g.St.Store.told → AreCounted old.list l.seen l.count l.found;
    }
