use Rattle.std.proofs.Common.{take}
use Rattle.connection_view.proofs.Naming.{KeepsBut}
use Rattle.connection_view.proofs.named.forget.Given as goal

abbrev pub invariant-loop-oid : goal.invariant-loop-oid
invariant-loop-oid l = KeepsBut (take l.oid-index l.named.oids) l.fn.cache.objects l.cache.objects
