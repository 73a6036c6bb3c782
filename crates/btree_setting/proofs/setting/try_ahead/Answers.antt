use Rattle.std.proofs.Common.{subst, sym}
use Rattle.btree_setting.specs.Sets.{AreZero}
use Rattle.btree_setting.proofs.Ahead.{is_ahead}
use Rattle.btree_setting.proofs.Trying.{some_case}
use Rattle.btree_setting.proofs.setting.try_ahead.Goals as goal

pub returns : goal.returns
returns c =
    is_ahead c.alike_records_are_kept.ensures c.same_graphs_hold_the_same.ensures c.links_stand_apart.ensures c.written_objects_read_back.ensures
    _ _ _ _ _ _ _ _ c.in_ok-puts.puts _ c.in-Some.kept
    (subst AreZero (sym c.as_slice.ensures) c.in_ok-zeros.ensures) c.in_ok-_zero.ensures.drawn c.in_ok-_zero.ensures.set
    c.in-Ok.ensures.drawn c.in-Ok.ensures.set c.len-count.ensures c.in_ok-puts.ensures (some_case _ _ _ _ c.in-Some.is c.in_ok-kept.ensures)
