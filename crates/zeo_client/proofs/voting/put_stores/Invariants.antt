use Rattle.std.proofs.Common.{map, take}
use Rattle.zeo_client.specs.Asking.{SpellsBehind, store_call}
use Rattle.zeo_client.proofs.voting.put_stores.Given as goal

abbrev pub invariant-loop-store : goal.invariant-loop-store
invariant-loop-store l = SpellsBehind (map store_call (take l.store-index l.stores)) l.fn.calls.text l.fn.calls.number l.calls.text l.calls.number
