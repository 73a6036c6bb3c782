-- Items in the order of their keys, as a finite map. Own.
use Rattle.std.specs.Prelude.{Bool, ℕ, List, [], ◌∷◌, ◌++◌, filter, Option, Some, None, if◌then◌else◌, not}
use Rattle.std.specs.Option.{option_eq}
use Rattle.std.specs.Prelude.{eqb}
use Rattle.std.specs.Cmp.Lexicographic.{pointwise}
use Rattle.btree_family.specs.declared.key.Key.{Key}
use Rattle.btree_family.specs.declared.bucket.Item.{Item}
use Rattle.btree_family.specs.Keys.{key_eq, is_below}

-- What stands at a key, absence being a value of its own: of a bucket a spelling, of a set the one value that its members have.
abbrev pub value_at : List Item → Key → Option (Option (List ℕ))
value_at [] key = None
value_at (item ∷ items) key = if key_eq item.key key then Some item.value else value_at items key

-- what stands at a key is not the same: one is absent alone, or their spellings differ
abbrev pub differ : Option (Option (List ℕ)) → Option (Option (List ℕ)) → Bool
differ one other = not (option_eq (option_eq (pointwise eqb)) one other)

-- the least key, if there is one
abbrev pub least_key : List Item → Option Key
least_key [] = None
least_key (item ∷ items) = Some item.key

-- the keys of two rising lists in one rising list, each once: those of the second one below the next key of the first, and so on
abbrev pub joined : List Key → List Key → List Key
joined [] others = others
joined (key ∷ keys) others =
    filter (λ other. is_below other key) others ++ key ∷ joined keys (filter (λ other. is_below key other) others)
