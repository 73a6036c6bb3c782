use Rattle.std.proofs.Common.{map, take}
use Rattle.zeo_client.specs.Asking.{store_call}
use Rattle.remote_loads.specs.Making.{AreHeld}
use Rattle.remote_loads.proofs.holding.stores_are_held.Given as goal

abbrev pub invariant-loop-store : goal.invariant-loop-store
invariant-loop-store l = AreHeld (map store_call (take l.store-index l.stores))
