use Rattle.std.proofs.Common.{◌≡◌, take}
use Rattle.connection_view.specs.Views.{is_one_of}
use Rattle.zeo_client.specs.Renewing.{HoldsUnless}
use Rattle.zeo_client.proofs.client.drop_all.Given as goal

abbrev pub invariant-loop-oid : goal.invariant-loop-oid
invariant-loop-oid l = record { dropped : HoldsUnless (λ oid. is_one_of (take l.oid-index l.oids) oid) l.fn.cache.entries l.cache.entries; capacity : l.cache.capacity ≡ l.fn.cache.capacity }
