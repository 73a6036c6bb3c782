use Rattle.fs_index.proofs.Adding.{of_ok}
use Rattle.fs_index.proofs.Keeping.{next_room, one_kept}
use Rattle.fs_index.proofs.index.keep_each.Goals as goal

pub each-preserved : goal.each-preserved
each-preserved c =
    let n = next_room c.args.objects.now.entries c.each.objects.entries c.each.objects.room c.each.one-index c.args.placed.now c.one-item.result c.each-test.true c.one-item.is c.each.invariant.kept in
    record {
      kept = one_kept c.args.objects.now.entries c.each.objects.entries c.keep.new.self.entries c.each.objects.room c.keep.new.self.room c.each.one-index c.args.placed.now c.one-item.result c.each-test.true c.one-item.is c.each.invariant.kept
          (of_ok c.keep.result (c.keep.ensures.succeeds n.0 n.1) c.keep.ensures.ok) c.keep.ensures.others c.keep.ensures.room;
    }
