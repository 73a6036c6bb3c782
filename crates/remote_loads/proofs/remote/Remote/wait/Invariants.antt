use Rattle.std.proofs.Common.{◌≤◌}
use Rattle.remote_loads.specs.Keeping.{KeepsWay}
use Rattle.remote_loads.proofs.remote.Remote.wait.Given as goal

abbrev pub invariant-waiting : goal.invariant-waiting
invariant-waiting g l =
    let W = g.W.Carrier in
    record {
      counted : W.faults l.fn.self.carrier ≤ W.faults l.self.carrier;
      never_falls : l.fn.self.client.now.held.standing.known ≤ l.self.client.now.held.standing.known;
      keeps : KeepsWay W.session W.place W.later l.fn.self.carrier l.self.carrier l.fn.self.client.ghost_name l.self.client.ghost_name;
    }
