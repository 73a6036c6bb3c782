use Rattle.std.proofs.Common.{◌+◌, ◌++◌, ◌∷◌, [], List, ℕ, arith, sym, subst}
use Rattle.fs_index.specs.declared.place.Placed.{Placed}
use Rattle.fs_records.proofs.RecordsInRow.{PlacedSoFar, next_within, one_placed}
use Rattle.fs_records.proofs.placing.placed_records.Goals as goal

pub overflow_add-at : goal.overflow_add-at
overflow_add-at c =
    let n = next_within c.args.from c.place.at c.place.count c.args.changes.now c.index-changes-count.result c.place-test.true c.index-changes-count.is c.place.invariant.so_far.at_is in
    omega (arith, n, c.requires, c.record_length-at.ensures)

pub place-preserved : goal.place-preserved
place-preserved c =
    let more = one_placed c.args.tid c.args.from c.place.at c.place.count c.args.changes.now c.place.placed.items c.index-changes-count.result c.place-test.true c.index-changes-count.is c.place.invariant.so_far in
    record {
      so_far = subst (λ (ps : List Placed). PlacedSoFar c.args.tid c.args.from (c.place.at + c.record_length-at.result) (c.place.count + 1) c.args.changes.now ps) (sym c.in_ok-push.ensures.items)
          (subst (λ (n : ℕ). PlacedSoFar c.args.tid c.args.from (c.place.at + n) (c.place.count + 1) c.args.changes.now (c.place.placed.items ++ record { oid = c.index-changes-count.result.oid; place = record { serial = c.args.tid; at = c.place.at } } ∷ [])) (sym c.record_length-at.ensures) more);
    }
