use Rattle.std.proofs.Common.{◌≡◌, ◌≤◌, false, take, drop}
use Rattle.zb_volume.specs.declared.areas.Area.TheVariants.{Side}
use Rattle.zb_volume.specs.Moments.{StaysAs}
use Rattle.client_turns.specs.Clients.{Moment}
use Rattle.client_turns.specs.Output.{flagged}
use Rattle.client_turns.specs.Standing.{StandsForMoment}
use Rattle.script_runs.specs.Outcomes.{has_pack}
use Rattle.script_runs.specs.Running.{RunsOn}
use Rattle.script_runs.proofs.replying.take_turns.Given as goal

abbrev pub invariant-loop-at : goal.invariant-loop-at
invariant-loop-at g l =
    let C = g.C.Clock in
    let K = g.K.Sink in
    let St = g.St.Store in
    record {
      runs : St.told → (m : Moment) → StandsForMoment l.fn.clients (C.stamps l.fn.clock) m → m.machine.failed ≡ false
          → RunsOn St.lasts St.stands m (take l.at (flagged l.turns)) (drop l.at (flagged l.turns)) (K.taken l.fn.sink) (K.taken l.sink) l.fn.clients.hub.store.log l.clients (C.stamps l.clock);
      sink_counted : K.faults l.fn.sink ≤ K.faults l.sink;
      read_counted : l.fn.clients.hub.store.read_faults ≤ l.clients.hub.store.read_faults;
      counted : l.fn.clients.hub.store.faults ≤ l.clients.hub.store.faults;
      others : l.clients.hub.store.faults ≡ l.fn.clients.hub.store.faults;
      side : St.lasts → has_pack l.turns ≡ false → StaysAs Side l.fn.clients.hub.store.log l.clients.hub.store.log;
    }
