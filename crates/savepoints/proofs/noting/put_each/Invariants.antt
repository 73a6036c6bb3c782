use Rattle.std.proofs.Common.{◌≡◌}
use Rattle.std.specs.Vec.Iter.{into_iter_items, into_iter_len}
use Rattle.commit_phases.specs.Pending.{stores_after}
use Rattle.commit_phases.specs.TakingLaws.{AreLeft}
use Rattle.savepoints.specs.Log.{all_whole, Notes}
use Rattle.savepoints.proofs.noting.put_each.Given as goal

-- what becomes of the stores by now with those that are left is what becomes of the first ones by all, and what was replaced is noted
abbrev pub invariant-loop-store : goal.invariant-loop-store
invariant-loop-store l =
    let left = into_iter_items l.store-iterator in
    record {
      are_left : AreLeft (into_iter_len l.store-iterator) left;
      notes : Notes l.fn.pending.stores l.pending.stores l.fn.log.items l.log.items;
      contents : Notes l.fn.pending.stores l.pending.stores (all_whole l.fn.contents.items) (all_whole l.contents.items);
      checks : l.pending.checks ≡ l.fn.pending.checks;
      rest : stores_after l.fn.pending.stores l.fn.stores ≡ stores_after l.pending.stores left;
    }
