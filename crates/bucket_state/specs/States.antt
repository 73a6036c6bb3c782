-- The states of buckets and sets. From: the BTrees package, whose objects give and take these states.
use Rattle.std.specs.Prelude.{ℕ, Bool, true, false, List, [], ◌∷◌, Option, Some, None, Ok, Err, slice_get, ◌==◌, ◌&&◌, if◌then◌else◌}
use Rattle.std.specs.Option.{option_map, option_and_then}
use Rattle.std.specs.Ordering.{is_lt}
use Rattle.pickle_graph.specs.declared.node.Node.{Node}
use Rattle.pickle_graph.specs.declared.node.Node.TheVariants as nodes
use Rattle.pickle_graph.specs.Graph.{Graph}
use Rattle.pickle_references.specs.References.{named_by}
use Rattle.pickle_references.specs.Named.{with_name}
use Rattle.pickle_writing.specs.Spelling.{Spelled, spelling_of}
use Rattle.btree_family.specs.declared.key.Key.{Key}
use Rattle.btree_family.specs.declared.key.Key.TheVariants as keys
use Rattle.btree_family.specs.declared.table.Kind.{Kind}
use Rattle.btree_family.specs.declared.table.Kind.TheVariants as kinds
use Rattle.btree_family.specs.declared.table.KeyKind.{KeyKind}
use Rattle.btree_family.specs.declared.table.ValueKind.{ValueKind}
use Rattle.btree_family.specs.declared.table.ValueKind.TheVariants as values
use Rattle.btree_family.specs.Classes.{Class}
use Rattle.btree_family.specs.declared.bucket.Item.{Item}
use Rattle.btree_family.specs.Keys.{key_cmp, rank_of}
use Rattle.btree_family.specs.Families.{key_fits, number_fits}
use Rattle.btree_family.specs.Buckets.{BucketContents, keys_of}
use Rattle.bucket_state.specs.declared.entries.Entry.{Entry}

-- both, where both are found
abbrev pub found_both : {A B C : Type 0} → (A → B → C) → Option A → Option B → Option C
found_both f None b = None
found_both f (Some a) None = None
found_both f (Some a) (Some b) = Some (f a b)

-- what is found for each of these, where it is found for all
abbrev pub found_all : {A B : Type 0} → (A → Option B) → List A → Option (List B)
found_all f [] = Some []
found_all f (x ∷ xs) = found_both (λ y ys. y ∷ ys) (f x) (found_all f xs)

-- the items of a tuple
abbrev pub tuple_in : Option Node → Option (List ℕ)
tuple_in (Some (nodes.Tuple items)) = Some items
tuple_in _ = None

abbrev pub members_at : List Node → ℕ → Option (List ℕ)
members_at ns n = tuple_in (slice_get ns n)

-- the key that a node is: a text, bytes, or a whole number
abbrev pub key_in : Option Node → Option Key
key_in (Some (nodes.Text text)) = Some (keys.Text text)
key_in (Some (nodes.Bytes bytes)) = Some (keys.Bytes bytes)
key_in (Some (nodes.Number n)) = Some (keys.Number n)
key_in _ = None

-- a key that is one of the family
abbrev pub fitting_key : KeyKind → Key → Option Key
fitting_key kind key = if key_fits kind key then Some key else None

abbrev pub key_at : KeyKind → List Node → ℕ → Option Key
key_at kind ns n = option_and_then (fitting_key kind) (key_in (slice_get ns n))

-- the node may be a value of the family: any node, or a number that is one of it
abbrev pub value_fits : ValueKind → Node → Bool
value_fits values.Object value = true
value_fits kind (nodes.Number n) = number_fits kind n
value_fits kind value = false

-- a spelling, if there is one
abbrev pub spelled_text : Spelled → Option (List ℕ)
spelled_text (Ok text) = Some text
spelled_text (Err e) = None

-- the spelling of a node that may be a value of the family and can be written
abbrev pub fitting_value : ValueKind → List Node → ℕ → Node → Option (List ℕ)
fitting_value kind ns n node = if value_fits kind node then spelled_text (spelling_of ns n) else None

abbrev pub family_value_at : ValueKind → List Node → ℕ → Option (List ℕ)
family_value_at kind ns n = option_and_then (fitting_value kind ns n) (slice_get ns n)

-- the objects of such a class, or their leaves, have values beside their keys
abbrev pub has_values : Kind → Bool
has_values kinds.Bucket = true
has_values kinds.Set = false
has_values kinds.Tree = true
has_values kinds.TreeSet = false

-- keys alone
abbrev pub single_entries : List ℕ → List Entry
single_entries [] = []
single_entries (key ∷ rest) = record { key = key; value = None } ∷ single_entries rest

-- keys, each with its value behind it; none where the last key has no value
abbrev pub pair_entries : List ℕ → Option (List Entry)
pair_entries [] = Some []
pair_entries (key ∷ []) = None
pair_entries (key ∷ value ∷ rest) = option_map (λ entries. record { key = key; value = Some value } ∷ entries) (pair_entries rest)

-- what stands in the tuple of a bucket or of a set
abbrev pub entries_in : Bool → List ℕ → Option (List Entry)
entries_in true members = pair_entries members
entries_in false members = Some (single_entries members)

-- the value of an entry, if it has one
abbrev pub entry_value : ValueKind → List Node → Option ℕ → Option (Option (List ℕ))
entry_value kind ns None = Some None
entry_value kind ns (Some n) = option_map (λ text. Some text) (family_value_at kind ns n)

abbrev pub entry_item : Class → List Node → Entry → Option Item
entry_item class ns entry =
    found_both (λ key value. record { key = key; value = value }) (key_at class.key ns entry.key) (entry_value class.value ns entry.value)

-- the key is above the one before it, if there is one, and of its kind
abbrev pub follows : Option Key → Key → Bool
follows None key = true
follows (Some before) key = is_lt (key_cmp before key) && rank_of before == rank_of key

-- each key follows the one before it: they rise strictly and are all of one kind
abbrev pub stand_in_row : Option Key → List Key → Bool
stand_in_row before [] = true
stand_in_row before (key ∷ keys) = if follows before key then stand_in_row (Some key) keys else false

abbrev pub standing_items : List Item → Option (List Item)
standing_items items = if stand_in_row None (keys_of items) then Some items else None

-- the items that the members of a tuple are
abbrev pub member_items : Class → List Node → List ℕ → Option (List Item)
member_items class ns members = option_and_then standing_items (option_and_then (found_all (entry_item class ns)) (entries_in (has_values class.kind) members))

abbrev pub state_items : Class → List Node → ℕ → Option (List Item)
state_items class ns n = option_and_then (member_items class ns) (members_at ns n)

-- the oid, where just one is named
abbrev pub one_oid : Option (List ℕ) → Option ℕ
one_oid (Some (oid ∷ [])) = Some oid
one_oid _ = None

-- the oid that a reference has; a weak or foreign one has none
abbrev pub link_in : List Node → Option Node → Option ℕ
link_in ns (Some (nodes.Reference id)) = one_oid (with_name (named_by ns (slice_get ns id)) (Some []))
link_in ns _ = None

abbrev pub link_at : List Node → ℕ → Option ℕ
link_at ns n = link_in ns (slice_get ns n)

-- these items, and the bucket that follows, if one does
abbrev pub with_next : Option ℕ → Option (List Item) → Option BucketContents
with_next next None = None
with_next next (Some items) = Some (record { items = items; next = next })

-- these items, and the bucket that follows, where there is one
abbrev pub linked : Option ℕ → Option (List Item) → Option BucketContents
linked None items = None
linked (Some oid) items = with_next (Some oid) items

-- a tuple of keys and values, and the bucket that follows, if one does
abbrev pub bucket_in : Class → List Node → List ℕ → Option BucketContents
bucket_in class ns (items ∷ []) = with_next None (state_items class ns items)
bucket_in class ns (items ∷ next ∷ []) = linked (link_at ns next) (state_items class ns items)
bucket_in class ns _ = None

abbrev pub bucket_at : Class → List Node → ℕ → Option BucketContents
bucket_at class ns n = option_and_then (bucket_in class ns) (members_at ns n)

-- the bucket whose state a graph is, if it is one
abbrev pub bucket_of : Class → Graph → Option BucketContents
bucket_of class g = bucket_at class g.nodes g.root
