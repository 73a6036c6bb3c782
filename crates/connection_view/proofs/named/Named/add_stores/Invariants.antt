use Rattle.std.proofs.Common.{take}
use Rattle.connection_view.specs.Named.{CoversNamed}
use Rattle.connection_view.specs.Views.{stored_in}
use Rattle.connection_view.proofs.named.Named.add_stores.Given as goal

abbrev pub invariant-loop-store : goal.invariant-loop-store
invariant-loop-store l = CoversNamed (stored_in (take l.store-index l.stores)) l.fn.self l.self
