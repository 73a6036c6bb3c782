use Rattle.std.proofs.Common.{◌≡◌, ℕ, false}
use Rattle.btree_checking.specs.Fed.{IsCheckOf, room_of}
use Rattle.zodb_core.specs.HubState.{StandsForMachine, counts_of}
use Rattle.zodb_core.specs.Machine.{Machine, front_of}
use Rattle.zodb_core.specs.Outcomes.{AreLaterCounts}
use Rattle.zodb_top.specs.Asked.{last_contents}
use Rattle.zodb_top.specs.Asking.{KeepsList}
use Rattle.zodb_top.proofs.checking.run.Given as goal

abbrev pub invariant-steps : goal.invariant-steps
invariant-steps g l = record {
  check : g.St.Store.told → (m : Machine) → StandsForMachine l.fn.hub m → l.fn.hub.store.broken ≡ false → l.fn.front ≡ front_of m.list → (root : ℕ) → IsCheckOf (last_contents m.list) root l.fn.check
      → IsCheckOf (last_contents m.list) root l.check;
  keeps : g.St.Store.told → (m : Machine) → StandsForMachine l.fn.hub m → l.fn.hub.store.broken ≡ false → KeepsList m l.fn.hub l.hub (g.C.Clock.stamps l.fn.clock) (g.C.Clock.stamps l.clock);
  calm : counts_of l.hub.store ≡ counts_of l.fn.hub.store;
  others : l.hub.store.faults ≡ l.fn.hub.store.faults;
  later : AreLaterCounts (counts_of l.fn.hub.store) (counts_of l.hub.store);
}

abbrev pub decreases-steps : goal.decreases-steps
decreases-steps g l = room_of l.check
