-- Bounds of keys that are widened.
use Rattle.std.specs.Prelude.{Option, Some, None}
use Rattle.btree_family.specs.declared.key.Key.{Key}
use Rattle.btree_family.specs.OrderLaws.{below_below, from_from}
use Rattle.btree_shapes.specs.Shapes.{IsFrom, IsUpTo}

pub from_wider : (low : Option Key) (mid key : Key) → IsFrom low mid → IsFrom (Some mid) key → IsFrom low key
from_wider None mid key l h = tt
from_wider (Some low) mid key l h = from_from low mid key l h

pub upto_wider : (high : Option Key) (mid key : Key) → IsUpTo high mid → IsUpTo (Some mid) key → IsUpTo high key
upto_wider None mid key l h = tt
upto_wider (Some high) mid key l h = below_below key mid high h l
