use Rattle.std.proofs.Common.{◌≡◌, ◌≤◌}
use Rattle.zb_model.specs.Stores.{ReadKeepsRest}
use Rattle.pack_reach.specs.Uncollected.{AreTaken}
use Rattle.pack_reach.proofs.uncollected.take_list.Given as goal

abbrev pub invariant-loop-i : goal.invariant-loop-i
invariant-loop-i g l =
    let old = g.St.Store.state l.fn.store in
    let now = g.St.Store.state l.store in
    record {
      same : ReadKeepsRest old now;
      faults : now.read_faults ≡ old.read_faults;
      taken : g.St.Store.told → AreTaken old.list l.seen l.marks;
      count : g.St.Store.told → l._i ≤ l.seen;
    }
