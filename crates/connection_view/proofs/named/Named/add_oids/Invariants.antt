use Rattle.std.proofs.Common.{take}
use Rattle.connection_view.specs.Named.{CoversNamed}
use Rattle.connection_view.specs.Views.{is_one_of}
use Rattle.connection_view.proofs.named.Named.add_oids.Given as goal

abbrev pub invariant-loop-oid : goal.invariant-loop-oid
invariant-loop-oid l = CoversNamed (is_one_of (take l.oid-index l.oids)) l.fn.self l.self
