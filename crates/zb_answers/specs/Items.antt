-- Items of trees as answers show them. Own.
use Rattle.std.specs.Prelude.{ℕ, List, [], ◌∷◌, ◌++◌, Bool, true, false, Option, Some, None}
use Rattle.std.specs.List.{flat_map}
use Rattle.btree_family.specs.declared.bucket.Item.{Item}
use Rattle.zb_script.specs.Keys.{key_literal}
use Rattle.zb_answers.specs.Objects.{key_text}

-- a colon, and the literal of a value
abbrev pub value_behind : Option (List ℕ) → List ℕ
value_behind (Some value) = 58 ∷ key_text value
value_behind None = []

-- a member of a set is shown by its key, an item of a mapping by its key and its value
abbrev pub item_text : Bool → Item → List ℕ
item_text true item = key_literal item.key
item_text false item = key_literal item.key ++ value_behind item.value

-- further items, each behind a comma
abbrev pub more_items : Bool → List Item → List ℕ
more_items is_set items = flat_map (λ item. 44 ∷ item_text is_set item) items

-- items with a comma between each two
abbrev pub items_within : Bool → List Item → List ℕ
items_within is_set [] = []
items_within is_set (item ∷ items) = item_text is_set item ++ more_items is_set items

-- `[k,..]` for a set, `{k:v,..}` for a mapping
abbrev pub items_text : Bool → List Item → List ℕ
items_text true items = 91 ∷ (items_within true items ++ 93 ∷ [])
items_text false items = 123 ∷ (items_within false items ++ 125 ∷ [])
