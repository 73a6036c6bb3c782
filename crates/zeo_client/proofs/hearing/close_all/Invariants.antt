use Rattle.std.proofs.Common.{◌≡◌, take}
use Rattle.zeo_client.specs.Hearing.{ChangedBy, closed_all}
use Rattle.zeo_client.proofs.hearing.close_all.Given as goal

abbrev pub invariant-loop-oid : goal.invariant-loop-oid
invariant-loop-oid l = record { closed : ChangedBy (closed_all (take l.oid-index l.oids) l.tid) l.fn.cache.entries l.cache.entries; capacity : l.cache.capacity ≡ l.fn.cache.capacity }
