use Rattle.std.proofs.Common.{◌≡◌}
use Rattle.zb_model.specs.Stores.{ReadKeepsRest}
use Rattle.script_runs.proofs.Held.{Taken}
use Rattle.script_runs.proofs.counting.find_objects.Given as goal

abbrev pub invariant-loop-number : goal.invariant-loop-number
invariant-loop-number g l =
    let old = g.St.Store.state l.fn.store in
    let now = g.St.Store.state l.store in
    record {
      same : ReadKeepsRest old now;
      faults : now.read_faults ≡ old.read_faults;
      found : g.St.Store.told → Taken old.list l.tid l.number l.fn.found l.found;
    }
