-- What may be written as a key.
use Rattle.std.specs.Prelude.{List, [], ◌∷◌, length, ◌^◌, ◌<◌}
use Rattle.pickle_ops.specs.Fits.{IsShortText}
use Rattle.btree_family.specs.declared.key.Key.{Key}
use Rattle.btree_family.specs.declared.key.Key.TheVariants.{Text, Bytes, Number}
use Rattle.btree_family.specs.Buckets.{keys_of}
use Rattle.bucket_state.specs.declared.tree.TreeState.{TreeState}
use Rattle.bucket_state.specs.declared.tree.TreeState.TheVariants.{Empty, Leaf, Children}

-- a text is UTF-8, and no text or bytes is too long for a token
abbrev pub IsWritable : Key → Type 0
IsWritable (Text text) = IsShortText text
IsWritable (Bytes bytes) = length bytes < 2 ^ 32
IsWritable (Number n) = Unit {0}

abbrev pub AreWritable : List Key → Type 0
AreWritable [] = Unit {0}
AreWritable (key ∷ keys) = IsWritable key × AreWritable keys

-- the keys of the one leaf
abbrev pub IsWritableTree : TreeState → Type 0
IsWritableTree Empty = Unit {0}
IsWritableTree (Leaf leaf) = AreWritable (keys_of leaf.items)
IsWritableTree (Children inner) = Unit {0}
