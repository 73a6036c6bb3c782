use Rattle.std.proofs.Common.{arith, refl}
use Rattle.btree_setting.proofs.Ahead.{ahead_ends}
use Rattle.btree_setting.proofs.setting.put_ahead.Goals as goal

pub returns-clause-writes : goal.returns-clause-writes
returns-clause-writes g c =
    ahead_ends g.S.Space.told _ _ _ _ _ _ _ _ c.requires _ _ _ _ _ _ _ c.in_ok-drawn.drawn c.store_all.result c.in_ok-drawn.ensures.contents c.in_ok-drawn.ensures.count
    c.as_slice.ensures (c.if-not-begins_with.ensures refl) c.in_ok-drawn.ensures.numbers (omega arith) c.in_ok-drawn.ensures.ok c.store_all.ensures.ok c.store_all.ensures.err c.store_all.ensures.free
