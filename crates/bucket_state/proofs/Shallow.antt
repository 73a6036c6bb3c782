-- The values of a state that can be written are not too deep for one.
use Rattle.std.proofs.Common.{◌≡◌, ℕ, suc, ◌<◌, Bool, true, false, cond, List, [], ◌∷◌, length, Option, Some, None, Ok, Err, inl, inr, refl, sym, ◌∙◌, ap, subst}
use Rattle.std.specs.Prelude.{slice_get}
use Rattle.std.specs.Option.{option_map, option_and_then}
use Rattle.std.proofs.lemmas.Bool.{cases_lt}
use Rattle.pickle_graph.specs.declared.node.Node.{Node}
use Rattle.pickle_graph.specs.declared.node.Node.TheVariants as nodes
use Rattle.pickle_reading.specs.declared.reading.TheConstants.{NODE_LIMIT}
use Rattle.pickle_graph.specs.Graph.{Graph, IsGraph}
use Rattle.pickle_round_trip.specs.Laws.{WrittenReadsBack}
use Rattle.pickle_graph.specs.Same.{IsSame}
use Rattle.pickle_writing.specs.Spelling.{Spelled, spelling_of, pickled, root_piece}
use Rattle.pickle_graph.specs.Walks.{some_item, has_walk}
use Rattle.btree_family.specs.declared.table.ValueKind.{ValueKind}
use Rattle.btree_family.specs.declared.bucket.Item.{Item}
use Rattle.btree_family.specs.Classes.{Class}
use Rattle.btree_family.specs.Buckets.{BucketContents}
use Rattle.bucket_state.specs.declared.entries.Entry.{Entry}
use Rattle.bucket_state.specs.declared.tree.TreeState.TheVariants.{Leaf, Children}
use Rattle.bucket_state.specs.Depths.{IsShallow, AreShallow, ReadIsShallow, ReadLeafIsShallow}
use Rattle.bucket_state.specs.States.{found_all, tuple_in, members_at, key_at, value_fits, spelled_text, fitting_value, family_value_at, has_values, single_entries, pair_entries, entries_in, entry_value, entry_item, standing_items, stand_in_row, member_items, state_items, with_next, linked, link_at, bucket_in}
use Rattle.bucket_state.specs.Trees.{leaf_before, lone_leaf, embedded_in, tree_members, tree_in, inner_in, children_in}
use Rattle.btree_family.specs.Buckets.{keys_of}
use Rattle.bucket_state.specs.Written.{leaf_graph, value_pickle, value_graph, graph_found}
use Rattle.bucket_state.proofs.Depths.{tuple_walk, none_short}
use Rattle.bucket_state.proofs.Sound.{in_range, passed, of_both}
use Rattle.bucket_state.proofs.Ways.{walks_alike}

-- ---- one value

spelled_as : (t : Bool) (s : Spelled) (text : List ℕ) → cond t (spelled_text s) None ≡ Some text → s ≡ Ok text
spelled_as true (Ok out) text h = (let same : out ≡ text = cc in ap Ok same)
spelled_as true (Err e) text h = cc
spelled_as false s text h = cc

value_by : (kind : ValueKind) (ns : List Node) (m : ℕ) (o : Option Node) (text : List ℕ) → slice_get ns m ≡ o → option_and_then (fitting_value kind ns m) o ≡ Some text → (spelling_of ns m ≡ Ok text) × (m < length ns)
value_by kind ns m None text e h = cc
value_by kind ns m (Some node) text e h = (spelled_as (value_fits kind node) (spelling_of ns m) text h, in_range ns m node e)

-- what a spelling is read as is no deeper than the node
node_shallow : WrittenReadsBack → (n : ℕ) (ns : List Node) (m : ℕ) (text : List ℕ) → IsGraph ns m → spelling_of ns m ≡ Ok text → has_walk (suc n) ns m ≡ false → IsShallow (suc n) (Some text)
unfolding value_graph
node_shallow law n ns m text sound spelled short =
    let g : Graph = record { nodes = ns; root = m } in
    let back = law g (value_pickle text) sound (ap pickled spelled) in
    elim (cases_lt NODE_LIMIT (root_piece ns m).made) [
      | inl l ↦
          let is : value_graph text ≡ leaf_graph nodes.None = ap graph_found (back.beyond l).refused in
          ap (λ (x : Graph). has_walk (suc n) x.nodes x.root) is ∙ none_short n
      | inr le ↦
          let read = back.within le in
          let copy : Graph = read.copy in
          let is : value_graph text ≡ copy = ap graph_found read.reads in
          let same : IsSame g copy = read.same in
          ap (λ (x : Graph). has_walk (suc n) x.nodes x.root) is ∙ walks_alike (suc n) same.origin ns copy.nodes copy.root m same.each same.root ∙ short
    ]

-- ---- the entries of a tuple

first_false : (t b : Bool) → cond t true b ≡ false → (t ≡ false) × (b ≡ false)
first_false true b h = cc
first_false false b h = (refl, h)

-- no walk of so many edges starts at the value, if there is one
abbrev IsShortEntry : ℕ → List Node → Option ℕ → Type 0
IsShortEntry n ns None = Unit {0}
IsShortEntry n ns (Some m) = has_walk n ns m ≡ false

abbrev AreShortEntries : ℕ → List Node → List Entry → Type 0
AreShortEntries n ns [] = Unit {0}
AreShortEntries n ns (entry ∷ entries) = IsShortEntry n ns entry.value × AreShortEntries n ns entries

singles_short : (n : ℕ) (ns : List Node) (ms : List ℕ) → AreShortEntries n ns (single_entries ms)
singles_short n ns [] = tt
singles_short n ns (m ∷ ms) = (tt, singles_short n ns ms)

cons_short : (n : ℕ) (ns : List Node) (k v : ℕ) (o : Option (List Entry)) (entries : List Entry) → has_walk n ns v ≡ false → ((es : List Entry) → o ≡ Some es → AreShortEntries n ns es) → option_map (λ es. record { key = k; value = Some v } ∷ es) o ≡ Some entries → AreShortEntries n ns entries
cons_short n ns k v None entries h rest e = cc
cons_short n ns k v (Some es) entries h rest e =
    let same : record { key = k; value = Some v } ∷ es ≡ entries = cc in
    subst (AreShortEntries n ns) same (h, rest es refl)

pairs_short : (n : ℕ) (ns : List Node) (ms : List ℕ) (entries : List Entry) → some_item (has_walk n ns) ms ≡ false → pair_entries ms ≡ Some entries → AreShortEntries n ns entries
pairs_short n ns [] entries h e = (let same : [] ≡ entries = cc in subst (AreShortEntries n ns) same tt)
pairs_short n ns (k ∷ []) entries h e = cc
pairs_short n ns (k ∷ v ∷ rest) entries h e =
    let first = first_false (has_walk n ns k) (some_item (has_walk n ns) (v ∷ rest)) h in
    let second = first_false (has_walk n ns v) (some_item (has_walk n ns) rest) first.1 in
    cons_short n ns k v (pair_entries rest) entries second.0 (λ es g. pairs_short n ns rest es second.1 g) e

entries_short : (n : ℕ) (values : Bool) (ns : List Node) (ms : List ℕ) (entries : List Entry) → some_item (has_walk n ns) ms ≡ false → entries_in values ms ≡ Some entries → AreShortEntries n ns entries
entries_short n true ns ms entries h e = pairs_short n ns ms entries h e
entries_short n false ns ms entries h e = (let same : single_entries ms ≡ entries = cc in subst (AreShortEntries n ns) same (singles_short n ns ms))

-- ---- items

value_shallow : WrittenReadsBack → (n : ℕ) (kind : ValueKind) (ns : List Node) (root : ℕ) (o : Option ℕ) (value : Option (List ℕ)) → IsGraph ns root → IsShortEntry (suc n) ns o → entry_value kind ns o ≡ Some value → IsShallow (suc n) value
value_shallow law n kind ns root None value sound h e = (let same : None ≡ value = cc in subst (IsShallow (suc n)) same tt)
value_shallow law n kind ns root (Some m) value sound h e = found (family_value_at kind ns m) refl e
  where
    found : (o : Option (List ℕ)) → family_value_at kind ns m ≡ o → option_map (λ text. Some text) o ≡ Some value → IsShallow (suc n) value
    found None is g = cc
    found (Some text) is g =
        let same : Some text ≡ value = cc in
        let at = value_by kind ns m (slice_get ns m) text refl is in
        subst (IsShallow (suc n)) same (node_shallow law n ns m text (record { each = sound.each; rooted = at.1 }) at.0 h)

all_shallow : WrittenReadsBack → (n : ℕ) (class : Class) (ns : List Node) (root : ℕ) (entries : List Entry) (items : List Item) → IsGraph ns root → AreShortEntries (suc n) ns entries → found_all (entry_item class ns) entries ≡ Some items → AreShallow (suc n) items
all_shallow law n class ns root [] [] sound s h = tt
all_shallow law n class ns root [] (item ∷ items) sound s h = cc
all_shallow law n class ns root (entry ∷ entries) items sound s h =
    let all = of_both (λ y ys. y ∷ ys) (entry_item class ns entry) (found_all (entry_item class ns) entries) items h in
    let parts = of_both (λ key value. record { key = key; value = value }) (key_at class.key ns entry.key) (entry_value class.value ns entry.value) all.0 all.2 in
    let value : parts.1 ≡ all.0.value = ap (λ (item : Item). item.value) parts.4 in
    subst (AreShallow (suc n)) all.4
    (subst (IsShallow (suc n)) value (value_shallow law n class.value ns root entry.value parts.1 sound s.0 parts.3), all_shallow law n class ns root entries all.1 sound s.1 all.3)

-- what goes on from something that is found
of_then : {A B : Type 0} (f : A → Option B) (o : Option A) (y : B) → option_and_then f o ≡ Some y → (x : A) × (o ≡ Some x) × (f x ≡ Some y)
of_then f None y h = cc
of_then f (Some x) y h = (x, refl, h)

tuple_is : (o : Option Node) (items : List ℕ) → tuple_in o ≡ Some items → o ≡ Some (nodes.Tuple items)
tuple_is None items h = cc
tuple_is (Some (nodes.Tuple xs)) items h = (let same : xs ≡ items = cc in ap (λ (ys : List ℕ). Some (nodes.Tuple ys)) same)
tuple_is (Some nodes.None) items h = cc
tuple_is (Some _) items h = cc

members_shallow : WrittenReadsBack → (n : ℕ) (class : Class) (ns : List Node) (root : ℕ) (ms : List ℕ) (items : List Item) → IsGraph ns root → some_item (has_walk (suc n) ns) ms ≡ false → member_items class ns ms ≡ Some items → AreShallow (suc n) items
members_shallow law n class ns root ms items sound short h =
    let standing = of_then standing_items (option_and_then (found_all (entry_item class ns)) (entries_in (has_values class.kind) ms)) items h in
    let found = of_then (found_all (entry_item class ns)) (entries_in (has_values class.kind) ms) standing.0 standing.1 in
    let same = passed (stand_in_row None (keys_of standing.0)) standing.0 items standing.2 in
    subst (AreShallow (suc n)) same.1 (all_shallow law n class ns root found.0 standing.0 sound (entries_short (suc n) (has_values class.kind) ns ms found.0 short found.1) found.2)

items_shallow : WrittenReadsBack → (n : ℕ) (class : Class) (ns : List Node) (root i : ℕ) (items : List Item) → IsGraph ns root → has_walk (suc (suc n)) ns i ≡ false → state_items class ns i ≡ Some items → AreShallow (suc n) items
items_shallow law n class ns root i items sound short h =
    let m = of_then (member_items class ns) (members_at ns i) items h in
    let walk = tuple_walk (suc n) ns i m.0 (tuple_is (slice_get ns i) m.0 m.1) in
    members_shallow law n class ns root m.0 items sound (sym walk ∙ short) m.2

-- the tuple of keys and values is the first member
with_items : (next : Option ℕ) (o : Option (List Item)) (bucket : BucketContents) → with_next next o ≡ Some bucket → o ≡ Some bucket.items
with_items next None bucket h = cc
with_items next (Some items) bucket h = (let same : record { items = items; next = next } ≡ bucket = cc in ap (λ (b : BucketContents). Some b.items) same)

linked_items : (next : Option ℕ) (o : Option (List Item)) (bucket : BucketContents) → linked next o ≡ Some bucket → o ≡ Some bucket.items
linked_items None o bucket h = cc
linked_items (Some oid) o bucket h = with_items (Some oid) o bucket h

in_shallow : WrittenReadsBack → (n : ℕ) (class : Class) (ns : List Node) (root : ℕ) (members : List ℕ) (bucket : BucketContents) → IsGraph ns root → some_item (has_walk (suc (suc n)) ns) members ≡ false → bucket_in class ns members ≡ Some bucket → AreShallow (suc n) bucket.items
in_shallow law n class ns root [] bucket sound short h = cc
in_shallow law n class ns root (i ∷ []) bucket sound short h =
    items_shallow law n class ns root i bucket.items sound (first_false (has_walk (suc (suc n)) ns i) false short).0 (with_items None (state_items class ns i) bucket h)
in_shallow law n class ns root (i ∷ next ∷ []) bucket sound short h =
    items_shallow law n class ns root i bucket.items sound (first_false (has_walk (suc (suc n)) ns i) (some_item (has_walk (suc (suc n)) ns) (next ∷ [])) short).0 (linked_items (link_at ns next) (state_items class ns i) bucket h)
in_shallow law n class ns root (i ∷ next ∷ more ∷ rest) bucket sound short h = cc

pub read_shallow : WrittenReadsBack → ReadIsShallow
read_shallow law class g bucket sound h short =
    let m = of_then (bucket_in class g.nodes) (members_at g.nodes g.root) bucket h in
    let walk = tuple_walk 200 g.nodes g.root m.0 (tuple_is (slice_get g.nodes g.root) m.0 m.1) in
    in_shallow law 198 class g.nodes g.root m.0 bucket sound (sym walk ∙ short) m.2

-- ---- trees of one leaf

lone_is : (found leaf : BucketContents) (next : Option ℕ) → leaf_before next found ≡ Some (Leaf leaf) → found ≡ leaf
lone_is found leaf None h = cc
lone_is found leaf (Some oid) h = cc

embedded_shallow : WrittenReadsBack → (n : ℕ) (class : Class) (ns : List Node) (root : ℕ) (members : List ℕ) (leaf : BucketContents) → IsGraph ns root → some_item (has_walk (suc (suc (suc n))) ns) members ≡ false → embedded_in class ns members ≡ Some (Leaf leaf) → AreShallow (suc n) leaf.items
embedded_shallow law n class ns root [] leaf sound short h = cc
embedded_shallow law n class ns root (i ∷ []) leaf sound short h =
    let lone = of_then lone_leaf (option_and_then (bucket_in class ns) (members_at ns i)) (Leaf leaf) h in
    let m = of_then (bucket_in class ns) (members_at ns i) lone.0 lone.1 in
    let at = (first_false (has_walk (suc (suc (suc n))) ns i) false short).0 in
    let walk = tuple_walk (suc (suc n)) ns i m.0 (tuple_is (slice_get ns i) m.0 m.1) in
    let same : lone.0 ≡ leaf = lone_is lone.0 leaf lone.0.next lone.2 in
    subst (λ (b : BucketContents). AreShallow (suc n) b.items) same (in_shallow law n class ns root m.0 lone.0 sound (sym walk ∙ at) m.2)
embedded_shallow law n class ns root (i ∷ j ∷ rest) leaf sound short h = cc

not_inner : (class : Class) (ns : List Node) (children first : ℕ) (leaf : BucketContents) → inner_in class.key ns children first ≡ Some (Leaf leaf) → ⊥
not_inner class ns children first leaf h =
    let b = of_both (λ found oid. Children (record { head = found.0; tail = found.1; first = oid })) (option_and_then (children_in class.key ns) (members_at ns children)) (link_at ns first) (Leaf leaf) h in
    cc (b.4)

parts_shallow : WrittenReadsBack → (n : ℕ) (class : Class) (ns : List Node) (root : ℕ) (members : List ℕ) (leaf : BucketContents) → IsGraph ns root → some_item (has_walk (suc (suc (suc (suc n)))) ns) members ≡ false → tree_members class ns members ≡ Some (Leaf leaf) → AreShallow (suc n) leaf.items
parts_shallow law n class ns root [] leaf sound short h = cc
parts_shallow law n class ns root (i ∷ []) leaf sound short h =
    let m = of_then (embedded_in class ns) (members_at ns i) (Leaf leaf) h in
    let at = (first_false (has_walk (suc (suc (suc (suc n)))) ns i) false short).0 in
    let walk = tuple_walk (suc (suc (suc n))) ns i m.0 (tuple_is (slice_get ns i) m.0 m.1) in
    embedded_shallow law n class ns root m.0 leaf sound (sym walk ∙ at) m.2
parts_shallow law n class ns root (i ∷ j ∷ []) leaf sound short h = absurd (not_inner class ns i j leaf h)
parts_shallow law n class ns root (i ∷ j ∷ k ∷ rest) leaf sound short h = cc

tree_tuple : (class : Class) (ns : List Node) (o : Option Node) (leaf : BucketContents) → tree_in class ns o ≡ Some (Leaf leaf) → (members : List ℕ) × (o ≡ Some (nodes.Tuple members)) × (tree_members class ns members ≡ Some (Leaf leaf))
tree_tuple class ns None leaf h = cc
tree_tuple class ns (Some nodes.None) leaf h = cc
tree_tuple class ns (Some (nodes.Tuple members)) leaf h = (members, refl, h)
tree_tuple class ns (Some _) leaf h = cc

pub read_leaf_shallow : WrittenReadsBack → ReadLeafIsShallow
read_leaf_shallow law class g leaf sound h short =
    let t = tree_tuple class g.nodes (slice_get g.nodes g.root) leaf h in
    let walk = tuple_walk 200 g.nodes g.root t.0 t.1 in
    parts_shallow law 196 class g.nodes g.root t.0 leaf sound (sym walk ∙ short) t.2
