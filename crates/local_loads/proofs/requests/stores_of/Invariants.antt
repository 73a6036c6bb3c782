use Rattle.std.proofs.Common.{◌≡◌, [], length}
use Rattle.std.specs.Prelude.{All}
use Rattle.std.specs.Vec.Iter.{into_iter_items, into_iter_len}
use Rattle.zb_model.specs.Database.{IsRecord}
use Rattle.local_loads.proofs.Waiting.{waiting_with}
use Rattle.local_loads.proofs.requests.stores_of.Given as goal

-- with those that are left behind those that wait by now all wait
abbrev pub invariant-loop-store : goal.invariant-loop-store
invariant-loop-store l =
    let left = into_iter_items l.store-iterator in
    record {
      ends : into_iter_len l.store-iterator ≡ length left;
      left_filled : All (λ p. IsRecord p.content) left;
      rest : waiting_with l.pending.stores left ≡ l.fn.stores;
      checks : l.pending.checks ≡ [];
    }
