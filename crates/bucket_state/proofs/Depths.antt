-- How deep written states are.
use Rattle.std.proofs.Common.{◌≡◌, ℕ, zero, suc, ◌+◌, ◌<◌, ◌≤◌, Bool, true, false, cond, List, [], ◌∷◌, ◌++◌, map, length, Option, Some, None, inl, inr, refl, sym, ◌∙◌, ap, subst, arith, length-append}
use Rattle.std.specs.Prelude.{slice_get}
use Rattle.std.proofs.lemmas.Bool.{cases_lt}
use Rattle.pickle_graph.specs.declared.node.Node.{Node}
use Rattle.pickle_graph.specs.declared.node.Node.TheVariants as nodes
use Rattle.pickle_graph.specs.declared.parts.Part.TheVariants.{Byte}
use Rattle.pickle_reading.specs.declared.reading.TheConstants.{NODE_LIMIT}
use Rattle.pickle_graph.specs.Graph.{Graph, AllBelow}
use Rattle.pickle_round_trip.specs.Laws.{WrittenReadsBack}
use Rattle.pickle_graph.specs.Parts.{items_in, items_of, item_parts, tuple_parts}
use Rattle.pickle_graph.specs.Same.{IsSame}
use Rattle.pickle_writing.specs.Spelling.{pickled, root_piece}
use Rattle.pickle_graph.specs.Walks.{some_item, has_walk}
use Rattle.btree_family.specs.declared.key.Key.{Key}
use Rattle.btree_family.specs.declared.key.Key.TheVariants as keys
use Rattle.btree_family.specs.declared.bucket.Item.{Item}
use Rattle.btree_family.specs.Classes.{Class}
use Rattle.btree_family.specs.Buckets.{BucketContents, IsSpelling, IsValue, AreValues}
use Rattle.bucket_state.specs.Depths.{IsShallow, AreShallow, WrittenIsShallow, WrittenLeafIsShallow}
use Rattle.bucket_state.specs.Written.{shifted, leaf_graph, key_graph, link_graph, value_pickle, value_graph, graph_found, Laid, no_graphs, laid_on, laid_all, closed, tuple_graph, with_value, item_graphs, next_graphs, bucket_graph, embedded_graph}
use Rattle.bucket_state.proofs.Graphs.{below_more, pairs_more, acts_more, below_shifted, pairs_shifted, acts_shifted, length_laid, below_append}
use Rattle.bucket_state.proofs.Parts.{copied}
use Rattle.bucket_state.proofs.Shifts.{NamesBelow, AllNameBelow, copies_below, as_many, walks_within}
use Rattle.bucket_state.proofs.Sound.{in_range}
use Rattle.bucket_state.proofs.Back.{Extends, laid_extends, laid_within, closed_extends, tuple_last}

-- nodes that name each other, and a root from which no walk of so many edges starts
pub record IsFlat (n : ℕ) (g : Graph) : Type 0 where
  pub below : AllNameBelow (length g.nodes) g.nodes
  pub rooted : g.root < length g.nodes
  pub short : has_walk n g.nodes g.root ≡ false

-- ---- names among more nodes

names_more : (n m : ℕ) (x : Node) → n ≤ m → NamesBelow n x → NamesBelow m x
names_more n m (nodes.Tuple items) l h = below_more n m items l h
names_more n m (nodes.List items) l h = below_more n m items l h
names_more n m (nodes.Dict pairs) l h = pairs_more n m pairs l h
names_more n m (nodes.Reference id) l h = omega (arith, h)
names_more n m (nodes.Object callee arguments by_new acts) l h = (omega (arith, h.0), omega (arith, h.1), acts_more n m acts l h.2)
names_more n m nodes.None l h = tt
names_more n m (nodes.Bool b) l h = tt
names_more n m (nodes.Number k) l h = tt
names_more n m (nodes.Wide b) l h = tt
names_more n m (nodes.Float b) l h = tt
names_more n m (nodes.Bytes b) l h = tt
names_more n m (nodes.OldText b) l h = tt
names_more n m (nodes.Text b) l h = tt
names_more n m (nodes.Global a b) l h = tt

all_more : (n m : ℕ) (xs : List Node) → n ≤ m → AllNameBelow n xs → AllNameBelow m xs
all_more n m [] l h = tt
all_more n m (x ∷ xs) l h = (names_more n m x l h.0, all_more n m xs l h.1)

names_shifted : (by n : ℕ) (x : Node) → NamesBelow n x → NamesBelow (by + n) (shifted by x)
names_shifted by n (nodes.Tuple items) h = below_shifted by n items h
names_shifted by n (nodes.List items) h = below_shifted by n items h
names_shifted by n (nodes.Dict pairs) h = pairs_shifted by n pairs h
names_shifted by n (nodes.Reference id) h = omega (arith, h)
names_shifted by n (nodes.Object callee arguments by_new acts) h = (omega (arith, h.0), omega (arith, h.1), acts_shifted by n acts h.2)
names_shifted by n nodes.None h = tt
names_shifted by n (nodes.Bool b) h = tt
names_shifted by n (nodes.Number k) h = tt
names_shifted by n (nodes.Wide b) h = tt
names_shifted by n (nodes.Float b) h = tt
names_shifted by n (nodes.Bytes b) h = tt
names_shifted by n (nodes.OldText b) h = tt
names_shifted by n (nodes.Text b) h = tt
names_shifted by n (nodes.Global a b) h = tt

all_shifted : (by n : ℕ) (xs : List Node) → AllNameBelow n xs → AllNameBelow (by + n) (map (shifted by) xs)
all_shifted by n [] h = tt
all_shifted by n (x ∷ xs) h = (names_shifted by n x h.0, all_shifted by n xs h.1)

all_append : (n : ℕ) (xs ys : List Node) → AllNameBelow n xs → AllNameBelow n ys → AllNameBelow n (xs ++ ys)
all_append n [] ys h g = g
all_append n (x ∷ xs) ys h g = (h.0, all_append n xs ys h.1 g)

-- ---- graphs side by side

first_passes : (t b : Bool) (rest : Bool) → cond t true b ≡ false → (b ≡ false → rest ≡ false) → cond t true rest ≡ false
first_passes true b rest h f = cc
first_passes false b rest h f = f h

some_append : (test : ℕ → Bool) (xs : List ℕ) (y : ℕ) → some_item test xs ≡ false → test y ≡ false → some_item test (xs ++ y ∷ []) ≡ false
some_append test [] y h g = ap (λ (t : Bool). cond t true false) g
some_append test (x ∷ xs) y h g = first_passes (test x) (some_item test xs) (some_item test (xs ++ y ∷ [])) h (λ e. some_append test xs y e g)

-- graphs side by side, of which none is deep
record AreFlat (n : ℕ) (laid : Laid) : Type 0 where
  below : AllNameBelow (length laid.nodes) laid.nodes
  rooted : AllBelow (length laid.nodes) laid.roots
  short : (big : List Node) → Extends laid.nodes big → some_item (has_walk n big) laid.roots ≡ false

flat_start : (n : ℕ) → AreFlat n no_graphs
flat_start n = record { below = tt; rooted = tt; short = λ big ext. refl }

flat_more : (n : ℕ) (laid : Laid) (g : Graph) → AreFlat n laid → IsFlat n g → AreFlat n (laid_on laid g)
flat_more n laid g h f =
    let all : List Node = (laid_on laid g).nodes in
    let size : length all ≡ length laid.nodes + length g.nodes = length_laid laid.nodes g.nodes in
    let long : length laid.nodes ≤ length all = omega (arith, size) in
    let low : length laid.nodes + g.root < length all = omega (arith, size, f.rooted) in
    record {
      below = all_append (length all) laid.nodes (map (shifted (length laid.nodes)) g.nodes)
          (all_more (length laid.nodes) (length all) laid.nodes long h.below)
          (subst (λ (k : ℕ). AllNameBelow k (map (shifted (length laid.nodes)) g.nodes)) (sym size) (all_shifted (length laid.nodes) (length g.nodes) g.nodes f.below));
      rooted = below_append (length all) laid.roots (length laid.nodes + g.root) (below_more (length laid.nodes) (length all) laid.roots long h.rooted) low;
      short = λ big ext. some_append (has_walk n big) laid.roots (length laid.nodes + g.root)
          (h.short big (λ k x e. ext k x (laid_extends laid g k x e)))
          (walks_within n big g.nodes (length laid.nodes) g.root (laid_within laid g big ext) f.below f.rooted ∙ f.short);
    }

abbrev pub EachFlat : ℕ → List Graph → Type 0
EachFlat n [] = Unit {0}
EachFlat n (g ∷ gs) = IsFlat n g × EachFlat n gs

flat_all : (n : ℕ) (laid : Laid) (gs : List Graph) → AreFlat n laid → EachFlat n gs → AreFlat n (laid_all laid gs)
flat_all n laid [] h f = h
flat_all n laid (g ∷ gs) h f = flat_all n (laid_on laid g) gs (flat_more n laid g h f.0) f.1

pub items_many : (items : List ℕ) (byte : ℕ) → items_in (item_parts items ++ Byte byte ∷ []) ≡ items
items_many [] byte = refl
items_many (x ∷ items) byte = ap (λ (xs : List ℕ). x ∷ xs) (items_many items byte)

pub tuple_items : (items : List ℕ) → items_in (tuple_parts items) ≡ items
tuple_items [] = refl
tuple_items (a ∷ []) = refl
tuple_items (a ∷ b ∷ []) = refl
tuple_items (a ∷ b ∷ c ∷ []) = refl
tuple_items (a ∷ b ∷ c ∷ d ∷ items) = items_many (a ∷ b ∷ c ∷ d ∷ items) 0x74

-- a walk from a tuple goes on from one of its items
pub tuple_walk : (n : ℕ) (ns : List Node) (m : ℕ) (items : List ℕ) → slice_get ns m ≡ Some (nodes.Tuple items) → has_walk (suc n) ns m ≡ some_item (has_walk n ns) items
unfolding has_walk
tuple_walk n ns m items there = ap (λ (o : Option Node). some_item (has_walk n ns) (items_of o)) there ∙ ap (some_item (has_walk n ns)) (tuple_items items)

flat_closed : (n : ℕ) (laid : Laid) → AreFlat n laid → IsFlat (suc n) (closed laid)
flat_closed n laid h =
    let all : List Node = (closed laid).nodes in
    let size : length all ≡ length laid.nodes + 1 = length-append laid.nodes (nodes.Tuple laid.roots ∷ []) in
    let long : length laid.nodes ≤ length all = omega (arith, size) in
    record {
      below = all_append (length all) laid.nodes (nodes.Tuple laid.roots ∷ []) (all_more (length laid.nodes) (length all) laid.nodes long h.below)
          (below_more (length laid.nodes) (length all) laid.roots long h.rooted, tt);
      rooted = omega (arith, size);
      short = tuple_walk n all (length laid.nodes) laid.roots (tuple_last laid.nodes laid.roots) ∙ h.short all (closed_extends laid);
    }

pub flat_tuple : (n : ℕ) (gs : List Graph) → EachFlat n gs → IsFlat (suc n) (tuple_graph gs)
flat_tuple n gs f = flat_closed n (laid_all no_graphs gs) (flat_all n no_graphs gs (flat_start n) f)

-- ---- keys, links and values

pub key_flat : (n : ℕ) (key : Key) → IsFlat (suc n) (key_graph key)
unfolding has_walk
key_flat n (keys.Text text) = record { below = (tt, tt); rooted = omega arith; short = refl }
key_flat n (keys.Bytes bytes) = record { below = (tt, tt); rooted = omega arith; short = refl }
key_flat n (keys.Number k) = record { below = (tt, tt); rooted = omega arith; short = refl }

none_flat : (n : ℕ) → IsFlat (suc n) (leaf_graph nodes.None)
unfolding has_walk
none_flat n = record { below = (tt, tt); rooted = omega arith; short = refl }

pub link_flat : (n oid : ℕ) (m k : List ℕ) → IsFlat (suc (suc (suc n))) (link_graph oid m k)
unfolding link_graph has_walk
link_flat n oid m k = record { below = (tt, (tt, ((omega arith, (omega arith, tt)), (omega arith, tt)))); rooted = omega arith; short = refl }

pub zero_walk : (ns : List Node) (m : ℕ) → has_walk zero ns m ≡ true
unfolding has_walk
zero_walk ns m = refl

pub none_short : (n : ℕ) → has_walk (suc n) (leaf_graph nodes.None).nodes 0 ≡ false
unfolding has_walk
none_short n = refl

-- what a spelling is read as is no deeper than the node that it is the spelling of
pub value_flat : WrittenReadsBack → (n : ℕ) (text : List ℕ) → IsSpelling text → IsShallow (suc n) (Some text) → IsFlat (suc n) (value_graph text)
unfolding value_graph
value_flat law n text s short =
    let back = law s.graph (value_pickle text) s.sound (ap pickled s.spelled) in
    elim (cases_lt NODE_LIMIT (root_piece s.graph.nodes s.graph.root).made) [
      | inl l ↦
          let refused = back.beyond l in
          let is : value_graph text ≡ leaf_graph nodes.None = ap graph_found refused.refused in
          subst (IsFlat (suc n)) (sym is) (none_flat n)
      | inr g ↦
          let read = back.within g in
          let copy : Graph = read.copy in
          let is : value_graph text ≡ copy = ap graph_found read.reads in
          let same : IsSame s.graph copy = read.same in
          let root = copied same.origin s.graph.nodes copy.nodes same.origin copy.root s.graph.root same.each same.root in
          let many = as_many same.origin s.graph.nodes copy.nodes same.origin same.each in
          let all : IsFlat (suc n) copy = record {
            below = subst (λ (k : ℕ). AllNameBelow k copy.nodes) many (copies_below same.origin s.graph.nodes copy.nodes same.origin same.each);
            rooted = in_range copy.nodes copy.root root.0 root.1;
            short = ap (λ (g : Graph). has_walk (suc n) g.nodes g.root) (sym is) ∙ short;
          } in
          subst (IsFlat (suc n)) (sym is) all
    ]

item_flat : WrittenReadsBack → (n : ℕ) (items : List Item) → AreValues items → AreShallow (suc n) items → EachFlat (suc n) (item_graphs items)
item_flat law n [] v h = tt
item_flat law n (item ∷ items) v h = (key_flat n item.key, with_flat item.value v.0 h.0 (item_flat law n items v.1 h.1))
  where
    with_flat : (o : Option (List ℕ)) → IsValue o → IsShallow (suc n) o → EachFlat (suc n) (item_graphs items) → EachFlat (suc n) (with_value o (item_graphs items))
    with_flat None p q rest = rest
    with_flat (Some text) p q rest = (value_flat law n text p q, rest)

-- ---- whole states

none_or_link : (n : ℕ) (class : Class) (next : Option ℕ) → EachFlat (suc (suc (suc n))) (next_graphs class next)
none_or_link n class None = tt
none_or_link n class (Some oid) = (link_flat n oid class.module_name class.class_name, tt)

bucket_flat : WrittenReadsBack → (n : ℕ) (class : Class) (bucket : BucketContents) → AreValues bucket.items → AreShallow (suc (suc n)) bucket.items → IsFlat (suc (suc (suc (suc n)))) (bucket_graph class bucket)
bucket_flat law n class bucket v h =
    flat_tuple (suc (suc (suc n))) (tuple_graph (item_graphs bucket.items) ∷ next_graphs class bucket.next)
    (flat_tuple (suc (suc n)) (item_graphs bucket.items) (item_flat law (suc n) bucket.items v h), none_or_link n class bucket.next)

pub written_shallow : WrittenReadsBack → WrittenIsShallow
written_shallow law class bucket v h = (bucket_flat law 197 class bucket v h).short

embedded_flat : WrittenReadsBack → (n : ℕ) (items : List Item) → AreValues items → AreShallow (suc n) items → IsFlat (suc (suc (suc (suc (suc n))))) (embedded_graph items)
embedded_flat law n [] v h = none_flat (suc (suc (suc (suc n))))
embedded_flat law n (item ∷ items) v h =
    let t = flat_tuple (suc n) (item_graphs (item ∷ items)) (item_flat law n (item ∷ items) v h) in
    let leaf = flat_tuple (suc (suc n)) (tuple_graph (item_graphs (item ∷ items)) ∷ []) (t, tt) in
    let inner = flat_tuple (suc (suc (suc n))) (tuple_graph (tuple_graph (item_graphs (item ∷ items)) ∷ []) ∷ []) (leaf, tt) in
    flat_tuple (suc (suc (suc (suc n)))) (tuple_graph (tuple_graph (tuple_graph (item_graphs (item ∷ items)) ∷ []) ∷ []) ∷ []) (inner, tt)

pub written_leaf_shallow : WrittenReadsBack → WrittenLeafIsShallow
written_leaf_shallow law items v h = (embedded_flat law 196 items v h).short
