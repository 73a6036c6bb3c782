-- The kinds of keys. From: the BTrees package.
use Rattle.std.specs.Prelude.{Bool, true, List, [], ◌∷◌, ◌==◌}
use Rattle.btree_family.specs.declared.key.Key.{Key}
use Rattle.btree_family.specs.Keys.{rank_of}

-- the key is of the kind of these, which are all of one kind
abbrev pub is_kind_of : List Key → Key → Bool
is_kind_of [] key = true
is_kind_of (first ∷ rest) key = rank_of first == rank_of key
