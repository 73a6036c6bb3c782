use Rattle.std.proofs.Common.{◌≡◌}
use Rattle.std.specs.Vec.Iter.{into_iter_items, into_iter_len}
use Rattle.commit_phases.specs.Kept.{restored, stores_of}
use Rattle.commit_phases.specs.Pending.{size_of_stores, stores_after, AreStores}
use Rattle.commit_phases.specs.TakingLaws.{AreLeft}
use Rattle.commit_phases.proofs.several.put_each.Given as goal

-- what becomes of the stores by now with those that are left is what becomes of the first ones by all
abbrev pub invariant-loop-store : goal.invariant-loop-store
invariant-loop-store l =
    let left = into_iter_items l.store-iterator in
    record {
      are_left : AreLeft (into_iter_len l.store-iterator) left;
      are : AreStores (stores_of l.stores.entries);
      size : l.size ≡ size_of_stores (stores_of l.stores.entries);
      restored : restored l.stores.entries l.done.items ≡ restored l.fn.stores.entries l.fn.done.items;
      rest : stores_after (stores_of l.fn.stores.entries) l.fn.list ≡ stores_after (stores_of l.stores.entries) left;
    }
