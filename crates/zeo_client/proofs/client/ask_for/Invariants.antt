use Rattle.std.proofs.Common.{◌≡◌, ◌++◌, map, take}
use Rattle.zb_model.specs.declared.pending.PendingStore.{PendingStore}
use Rattle.zeo_client.proofs.client.ask_for.Given as goal

abbrev pub invariant-loop-store : goal.invariant-loop-store
invariant-loop-store l = l.asked ≡ record l.fn.asked { oids = l.fn.asked.oids ++ map (λ (p : PendingStore). p.oid) (take l.store-index l.stores) }
