use Rattle.std.proofs.Common.{◌≡◌, ◌<◌, ◌++◌, length}
use Rattle.std.specs.Prelude.{All}
use Rattle.std.specs.Vec.Iter.{into_iter_items, into_iter_len}
use Rattle.zb_model.specs.Database.{IsRecord}
use Rattle.client_turns.specs.Trees.{stores_put}
use Rattle.client_turns.proofs.trees.stores_put.Given as goal

-- the stores so far, and then those of the puts that are left, are those of all
abbrev pub invariant-loop-put : goal.invariant-loop-put
invariant-loop-put l =
    let left = into_iter_items l.put-iterator in
    record {
      ends : into_iter_len l.put-iterator ≡ length left;
      filled : All (λ p. 0 < length p.bytes) left;
      records : All (λ p. IsRecord p.content) l.stores;
      rest : l.stores ++ stores_put left ≡ stores_put l.fn.puts;
    }
