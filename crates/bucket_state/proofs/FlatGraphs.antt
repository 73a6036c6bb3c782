-- The graphs of flat states hold what their kinds say, and their references name something.
use Rattle.std.proofs.Common.{◌≡◌, ℕ, zero, suc, ◌+◌, ◌<◌, ◌≤◌, ◌^◌, Bool, true, false, List, [], ◌∷◌, ◌++◌, map, length, Option, Some, None, Ok, refl, sym, ◌∙◌, ap, subst, arith}
use Rattle.std.specs.Prelude.{slice_get, ◌==◌, if◌then◌else◌}
use Rattle.std.specs.Option.{IsSome}
use Rattle.byteorder.specs.Endian.{big_bytes, big_number}
use Rattle.pickle_graph.specs.declared.node.Node.{Node}
use Rattle.pickle_graph.specs.declared.node.Node.TheVariants as nodes
use Rattle.pickle_graph.specs.Graph.{Graph, IsNode, AreNodes, IsGraph, IsGlobal, IsSigned128, IsWide}
use Rattle.pickle_ops.specs.Fits.{IsShortText}
use Rattle.pickle_graph.specs.Parts.{is_held}
use Rattle.pickle_graph.specs.Same.{IsCopy, AllCopies, IsSame}
use Rattle.pickle_graph.specs.Walks.{has_walk}
use Rattle.pickle_reading.specs.declared.reading.TheConstants.{NODE_LIMIT}
use Rattle.pickle_references.specs.References.{named_by, oid_of}
use Rattle.pickle_references.specs.Named.{with_name, named_in, oids_of}
use Rattle.pickle_round_trip.specs.Laws.{WrittenReadsBack}
use Rattle.pickle_writing.specs.Spelling.{leaf_text, piece_of, root_piece, spelling_of, pickled}
use Rattle.btree_family.specs.declared.key.Key.{Key}
use Rattle.btree_family.specs.declared.key.Key.TheVariants as keys
use Rattle.btree_family.specs.declared.table.KeyKind.{KeyKind}
use Rattle.btree_family.specs.declared.table.ValueKind.{ValueKind}
use Rattle.btree_family.specs.declared.bucket.Item.{Item}
use Rattle.btree_family.specs.Classes.{Class}
use Rattle.btree_family.specs.Buckets.{BucketContents, keys_of}
use Rattle.bucket_state.specs.declared.tree.Branch.{Branch}
use Rattle.bucket_state.specs.declared.tree.Inner.{Inner}
use Rattle.bucket_state.specs.States.{has_values}
use Rattle.bucket_state.specs.Trees.{separators_of}
use Rattle.bucket_state.specs.Writable.{IsWritable, AreWritable}
use Rattle.bucket_state.specs.Written.{shifted, IsLaid, Laid, no_graphs, laid_on, laid_all, closed, tuple_graph, leaf_graph, key_graph, graph_found, value_pickle, value_graph, link_graph, with_value, item_graphs, next_graphs, bucket_graph, none_graph, embedded_graph, child_graphs, inner_graph}
use Rattle.bucket_state.specs.Flat.{IsFlatValue, FlatStands, AreFlat, FlatItems}
use Rattle.bucket_state.specs.FlatGraphs.{IsSignedKey, AreSignedKeys, FlatIsSound, FlatIsNamed, InnerIsSound, InnerIsNamed}
use Rattle.bucket_state.specs.LoneText.{LoneIsSound, LoneIsNamed}
use Rattle.bucket_state.proofs.Back.{Extends, laid_extends, laid_within, closed_extends}
use Rattle.bucket_state.proofs.Graphs.{laid_sound, closed_sound}
use Rattle.bucket_state.proofs.Parts.{copied}
use Rattle.bucket_state.proofs.Shifts.{Within}
use Rattle.bucket_state.proofs.Sound.{in_range}

-- ---- leaves

-- a node that names none, in every graph
abbrev IsPlain : Node → Type 0
IsPlain x = (is_held x ≡ false) × ((ns : List Node) → IsNode ns x)

abbrev ArePlain : List Node → Type 0
ArePlain [] = Unit {0}
ArePlain (x ∷ xs) = IsPlain x × ArePlain xs

leaf_plain : (leaf : Node) → IsNode (leaf ∷ []) leaf → is_held leaf ≡ false → IsPlain leaf
leaf_plain nodes.None s l = (refl, λ ns. tt)
leaf_plain (nodes.Bool b) s l = (refl, λ ns. tt)
leaf_plain (nodes.Number n) s l = (refl, λ ns. s)
leaf_plain (nodes.Wide bytes) s l = (refl, λ ns. s)
leaf_plain (nodes.Float bytes) s l = (refl, λ ns. s)
leaf_plain (nodes.Bytes bytes) s l = (refl, λ ns. s)
leaf_plain (nodes.OldText bytes) s l = (refl, λ ns. s)
leaf_plain (nodes.Text bytes) s l = (refl, λ ns. s)
leaf_plain (nodes.Tuple []) s l = (refl, λ ns. tt)
leaf_plain (nodes.Tuple (x ∷ xs)) s l = absurd cc
leaf_plain (nodes.List items) s l = absurd cc
leaf_plain (nodes.Dict pairs) s l = absurd cc
leaf_plain (nodes.Global a b) s l = (refl, λ ns. s)
leaf_plain (nodes.Reference id) s l = absurd cc
leaf_plain (nodes.Object a b c d) s l = absurd cc

leaf_spelled : (leaf : Node) → is_held leaf ≡ false → spelling_of (leaf ∷ []) 0 ≡ Ok (leaf_text leaf)
unfolding piece_of has_walk
leaf_spelled nodes.None l = refl
leaf_spelled (nodes.Bool b) l = refl
leaf_spelled (nodes.Number n) l = refl
leaf_spelled (nodes.Wide bytes) l = refl
leaf_spelled (nodes.Float bytes) l = refl
leaf_spelled (nodes.Bytes bytes) l = refl
leaf_spelled (nodes.OldText bytes) l = refl
leaf_spelled (nodes.Text bytes) l = refl
leaf_spelled (nodes.Tuple []) l = refl
leaf_spelled (nodes.Tuple (x ∷ xs)) l = absurd cc
leaf_spelled (nodes.List items) l = absurd cc
leaf_spelled (nodes.Dict pairs) l = absurd cc
leaf_spelled (nodes.Global a b) l = refl
leaf_spelled (nodes.Reference id) l = absurd cc
leaf_spelled (nodes.Object a b c d) l = absurd cc

leaf_made : (leaf : Node) → is_held leaf ≡ false → (root_piece (leaf ∷ []) 0).made ≡ 1
unfolding piece_of has_walk
leaf_made nodes.None l = refl
leaf_made (nodes.Bool b) l = refl
leaf_made (nodes.Number n) l = refl
leaf_made (nodes.Wide bytes) l = refl
leaf_made (nodes.Float bytes) l = refl
leaf_made (nodes.Bytes bytes) l = refl
leaf_made (nodes.OldText bytes) l = refl
leaf_made (nodes.Text bytes) l = refl
leaf_made (nodes.Tuple []) l = refl
leaf_made (nodes.Tuple (x ∷ xs)) l = absurd cc
leaf_made (nodes.List items) l = absurd cc
leaf_made (nodes.Dict pairs) l = absurd cc
leaf_made (nodes.Global a b) l = refl
leaf_made (nodes.Reference id) l = absurd cc
leaf_made (nodes.Object a b c d) l = absurd cc

-- what stands for a leaf is one
copy_plain : (origin : List ℕ) (x leaf : Node) → IsCopy origin x (Some leaf) → IsPlain leaf → IsPlain x
copy_plain origin nodes.None leaf h p = (refl, λ ns. tt)
copy_plain origin (nodes.Bool b) leaf h p = (refl, λ ns. tt)
copy_plain origin (nodes.Number n) (nodes.Number m) h p = (refl, λ ns. subst IsSigned128 (sym h) (p.1 ns))
copy_plain origin (nodes.Number n) _ h p = absurd h
copy_plain origin (nodes.Wide n) (nodes.Wide m) h p = (refl, λ ns. subst IsWide (sym h) (p.1 ns))
copy_plain origin (nodes.Wide n) _ h p = absurd h
copy_plain origin (nodes.Float n) (nodes.Float m) h p = (refl, λ ns. ap length h ∙ p.1 ns)
copy_plain origin (nodes.Float n) _ h p = absurd h
copy_plain origin (nodes.Bytes n) (nodes.Bytes m) h p = (refl, λ ns. subst (λ (b : List ℕ). length b < 2 ^ 32) (sym h) (p.1 ns))
copy_plain origin (nodes.Bytes n) _ h p = absurd h
copy_plain origin (nodes.OldText n) (nodes.OldText m) h p = (refl, λ ns. subst (λ (b : List ℕ). length b < 2 ^ 31) (sym h) (p.1 ns))
copy_plain origin (nodes.OldText n) _ h p = absurd h
copy_plain origin (nodes.Text n) (nodes.Text m) h p = (refl, λ ns. subst IsShortText (sym h) (p.1 ns))
copy_plain origin (nodes.Text n) _ h p = absurd h
copy_plain origin (nodes.Global a b) (nodes.Global c d) h p = (refl, λ ns. subst (λ (x : List ℕ). IsGlobal x b) (sym h.0) (subst (λ (y : List ℕ). IsGlobal c y) (sym h.1) (p.1 ns)))
copy_plain origin (nodes.Global a b) _ h p = absurd h
copy_plain origin (nodes.Tuple []) leaf h p = (refl, λ ns. tt)
copy_plain origin (nodes.Tuple (x ∷ xs)) (nodes.Tuple []) h p = absurd h
copy_plain origin (nodes.Tuple (x ∷ xs)) (nodes.Tuple (y ∷ ys)) h p = (let k = p.0 in absurd cc)
copy_plain origin (nodes.Tuple (x ∷ xs)) _ h p = absurd h
copy_plain origin (nodes.List xs) (nodes.List ys) h p = (let k = p.0 in absurd cc)
copy_plain origin (nodes.List xs) _ h p = absurd h
copy_plain origin (nodes.Dict xs) (nodes.Dict ys) h p = (let k = p.0 in absurd cc)
copy_plain origin (nodes.Dict xs) _ h p = absurd h
copy_plain origin (nodes.Reference id) (nodes.Reference m) h p = (let k = p.0 in absurd cc)
copy_plain origin (nodes.Reference id) _ h p = absurd h
copy_plain origin (nodes.Object a b c d) (nodes.Object e f g i) h p = (let k = p.0 in absurd cc)
copy_plain origin (nodes.Object a b c d) _ h p = absurd h

no_copy : (origin : List ℕ) (x : Node) → IsCopy origin x None → ⊥
no_copy origin nodes.None h = h
no_copy origin (nodes.Bool b) h = h
no_copy origin (nodes.Number n) h = h
no_copy origin (nodes.Wide bytes) h = h
no_copy origin (nodes.Float bytes) h = h
no_copy origin (nodes.Bytes bytes) h = h
no_copy origin (nodes.OldText bytes) h = h
no_copy origin (nodes.Text bytes) h = h
no_copy origin (nodes.Tuple items) h = h
no_copy origin (nodes.List items) h = h
no_copy origin (nodes.Dict pairs) h = h
no_copy origin (nodes.Global a b) h = h
no_copy origin (nodes.Reference id) h = h
no_copy origin (nodes.Object a b c d) h = h

copies_plain : (origin : List ℕ) (leaf : Node) (ns : List Node) (ms : List ℕ) → IsPlain leaf → AllCopies origin (leaf ∷ []) ns ms → ArePlain ns
copies_plain origin leaf [] ms p h = tt
copies_plain origin leaf (x ∷ ns) [] p h = absurd h
copies_plain origin leaf (x ∷ ns) (zero ∷ ms) p h = (copy_plain origin x leaf h.0 p, copies_plain origin leaf ns ms p h.1)
copies_plain origin leaf (x ∷ ns) (suc m ∷ ms) p h = absurd (no_copy origin x h.0)

-- ---- references

-- the number is that of a tuple that begins with the eight bytes of an oid
record NamesEight (ns : List Node) (id : ℕ) : Type 0 where
  first : ℕ
  rest : List ℕ
  oid : ℕ
  tuple : slice_get ns id ≡ Some (nodes.Tuple (first ∷ rest))
  there : slice_get ns first ≡ Some (nodes.Bytes (big_bytes 8 oid))

abbrev NamesWell : List Node → Node → Type 0
NamesWell ns (nodes.Reference id) = NamesEight ns id
NamesWell ns _ = Unit {0}

abbrev AllNameWell : List Node → List Node → Type 0
AllNameWell ns [] = Unit {0}
AllNameWell ns (x ∷ xs) = NamesWell ns x × AllNameWell ns xs

well_more : (ns big : List Node) (x : Node) → Extends ns big → NamesWell ns x → NamesWell big x
well_more ns big (nodes.Reference id) ext h =
    record { first = h.first; rest = h.rest; oid = h.oid; tuple = ext id (nodes.Tuple (h.first ∷ h.rest)) h.tuple; there = ext h.first (nodes.Bytes (big_bytes 8 h.oid)) h.there }
well_more ns big _ ext h = tt

all_well_more : (ns big rest : List Node) → Extends ns big → AllNameWell ns rest → AllNameWell big rest
all_well_more ns big [] ext h = tt
all_well_more ns big (x ∷ rest) ext h = (well_more ns big x ext h.0, all_well_more ns big rest ext h.1)

well_within : (big small : List Node) (by : ℕ) (x : Node) → Within big small by → NamesWell small x → NamesWell big (shifted by x)
well_within big small by (nodes.Reference id) within h = record {
  first = by + h.first;
  rest = map (λ n. by + n) h.rest;
  oid = h.oid;
  tuple = within id (nodes.Tuple (h.first ∷ h.rest)) h.tuple;
  there = within h.first (nodes.Bytes (big_bytes 8 h.oid)) h.there;
}
well_within big small by _ within h = tt

all_well_within : (big small : List Node) (by : ℕ) (rest : List Node) → Within big small by → AllNameWell small rest → AllNameWell big (map (shifted by) rest)
all_well_within big small by [] within h = tt
all_well_within big small by (x ∷ rest) within h = (well_within big small by x within h.0, all_well_within big small by rest within h.1)

well_append : (ns xs ys : List Node) → AllNameWell ns xs → AllNameWell ns ys → AllNameWell ns (xs ++ ys)
well_append ns [] ys h g = g
well_append ns (x ∷ xs) ys h g = (h.0, well_append ns xs ys h.1 g)

-- ---- graphs side by side

record IsGood (g : Graph) : Type 0 where
  sound : IsGraph g.nodes g.root
  well : AllNameWell g.nodes g.nodes

record LaidGood (laid : Laid) : Type 0 where
  sound : IsLaid laid.nodes laid.roots
  well : AllNameWell laid.nodes laid.nodes

abbrev EachGood : List Graph → Type 0
EachGood [] = Unit {0}
EachGood (g ∷ gs) = IsGood g × EachGood gs

good_on : (laid : Laid) (g : Graph) → LaidGood laid → IsGood g → LaidGood (laid_on laid g)
good_on laid g h f =
    let all : List Node = (laid_on laid g).nodes in
    record {
      sound = laid_sound laid.nodes g.nodes laid.roots g.root h.sound f.sound;
      well = well_append all laid.nodes (map (shifted (length laid.nodes)) g.nodes)
          (all_well_more laid.nodes all laid.nodes (laid_extends laid g) h.well)
          (all_well_within all g.nodes (length laid.nodes) g.nodes (laid_within laid g all (λ n x e. e)) f.well);
    }

good_all : (laid : Laid) (gs : List Graph) → LaidGood laid → EachGood gs → LaidGood (laid_all laid gs)
good_all laid [] h f = h
good_all laid (g ∷ gs) h f = good_all (laid_on laid g) gs (good_on laid g h f.0) f.1

good_closed : (laid : Laid) → LaidGood laid → IsGood (closed laid)
good_closed laid h = record {
  sound = closed_sound laid.nodes laid.roots h.sound;
  well = well_append (closed laid).nodes laid.nodes (nodes.Tuple laid.roots ∷ [])
      (all_well_more laid.nodes (closed laid).nodes laid.nodes (closed_extends laid) h.well) (tt, tt);
}

good_tuple : (gs : List Graph) → EachGood gs → IsGood (tuple_graph gs)
good_tuple gs f = good_closed (laid_all no_graphs gs) (good_all no_graphs gs (record { sound = record { each = tt; rooted = tt }; well = tt }) f)

-- ---- keys, values and links

plain_well : (ns : List Node) (x : Node) → IsPlain x → NamesWell ns x
plain_well ns (nodes.Reference id) p = (let k = p.0 in absurd cc)
plain_well ns _ p = tt

plain_nodes : (ns rest : List Node) → ArePlain rest → AreNodes ns rest × AllNameWell ns rest
plain_nodes ns [] p = (tt, tt)
plain_nodes ns (x ∷ rest) p = let q = plain_nodes ns rest p.1 in ((p.0.1 ns, q.0), (plain_well ns x p.0, q.1))

plain_good : (g : Graph) → ArePlain g.nodes → g.root < length g.nodes → IsGood g
plain_good g p low = let q = plain_nodes g.nodes g.nodes p in record { sound = record { each = q.0; rooted = low }; well = q.1 }

key_good : (key : Key) → IsWritable key → IsSignedKey key → IsGood (key_graph key)
key_good (keys.Text text) w s = record { sound = record { each = (w, tt); rooted = omega arith }; well = (tt, tt) }
key_good (keys.Bytes bytes) w s = record { sound = record { each = (w, tt); rooted = omega arith }; well = (tt, tt) }
key_good (keys.Number n) w s = record { sound = record { each = (s, tt); rooted = omega arith }; well = (tt, tt) }

value_good : WrittenReadsBack → (kind : ValueKind) (text : List ℕ) → IsFlatValue kind text → IsGood (value_graph text)
unfolding value_graph
value_good law kind text f =
    let g : Graph = leaf_graph f.leaf in
    let plain = leaf_plain f.leaf f.sound f.lone in
    let sound : IsGraph g.nodes g.root = record { each = (f.sound, tt); rooted = omega arith } in
    let spelled : spelling_of g.nodes g.root ≡ Ok text = leaf_spelled f.leaf f.lone ∙ ap Ok f.spelled in
    let made = leaf_made f.leaf f.lone in
    let read = (law g (value_pickle text) sound (ap pickled spelled)).within (omega (arith, made)) in
    let copy : Graph = read.copy in
    let is : value_graph text ≡ copy = ap graph_found read.reads in
    let same : IsSame g copy = read.same in
    let root = copied same.origin g.nodes copy.nodes same.origin copy.root g.root same.each same.root in
    subst IsGood (sym is) (plain_good copy (copies_plain same.origin f.leaf copy.nodes same.origin plain same.each) (in_range copy.nodes copy.root root.0 root.1))

link_good : (oid : ℕ) (m n : List ℕ) → IsGlobal m n → IsGood (link_graph oid m n)
unfolding link_graph
link_good oid m n g = record {
  sound = record { each = (omega arith, (g, ((omega arith, (omega arith, tt)), (omega arith, tt)))); rooted = omega arith };
  well = (tt, (tt, (tt, (record { first = 0; rest = 1 ∷ []; oid = oid; tuple = refl; there = refl }, tt))));
}

items_good : WrittenReadsBack → (values : Bool) (key_kind : KeyKind) (kind : ValueKind) (items : List Item) → AreFlat values key_kind kind items → AreWritable (keys_of items) → AreSignedKeys (keys_of items) → EachGood (item_graphs items)
items_good law values key_kind kind [] f w s = tt
items_good law values key_kind kind (item ∷ items) f w s =
    (key_good item.key w.0 s.0, with_good values item.value f.1 (items_good law values key_kind kind items f.2 w.1 s.1))
  where
    with_good : (values : Bool) (o : Option (List ℕ)) → FlatStands values kind o → EachGood (item_graphs items) → EachGood (with_value o (item_graphs items))
    with_good true None h rest = absurd h
    with_good true (Some text) h rest = (value_good law kind text h, rest)
    with_good false None h rest = rest
    with_good false (Some text) h rest = absurd h

next_good : (class : Class) (next : Option ℕ) → IsGlobal class.module_name class.class_name → EachGood (next_graphs class next)
next_good class None g = tt
next_good class (Some oid) g = (link_good oid class.module_name class.class_name g, tt)

bucket_good : WrittenReadsBack → (class : Class) (bucket : BucketContents) → IsGlobal class.module_name class.class_name → AreWritable (keys_of bucket.items) → AreSignedKeys (keys_of bucket.items) → FlatItems class bucket.items → IsGood (bucket_graph class bucket)
bucket_good law class bucket g w s f =
    good_tuple (tuple_graph (item_graphs bucket.items) ∷ next_graphs class bucket.next)
    (good_tuple (item_graphs bucket.items) (items_good law (has_values class.kind) class.key class.value bucket.items f w s), next_good class bucket.next g)

children_good : (child : Class) (branches : List Branch) → IsGlobal child.module_name child.class_name → AreWritable (separators_of branches) → AreSignedKeys (separators_of branches) → EachGood (child_graphs child branches)
children_good child [] g w s = tt
children_good child (branch ∷ branches) g w s =
    (key_good branch.key w.0 s.0, (link_good branch.child child.module_name child.class_name g, children_good child branches g w.1 s.1))

inner_good : (child leaf : Class) (inner : Inner) → IsGlobal child.module_name child.class_name → IsGlobal leaf.module_name leaf.class_name → AreWritable (separators_of inner.tail) → AreSignedKeys (separators_of inner.tail) → IsGood (inner_graph child leaf inner)
inner_good child leaf inner g h w s =
    let head : IsGood (link_graph inner.head child.module_name child.class_name) = link_good inner.head child.module_name child.class_name g in
    let first : IsGood (link_graph inner.first leaf.module_name leaf.class_name) = link_good inner.first leaf.module_name leaf.class_name h in
    let children : List Graph = link_graph inner.head child.module_name child.class_name ∷ child_graphs child inner.tail in
    good_tuple (tuple_graph children ∷ link_graph inner.first leaf.module_name leaf.class_name ∷ [])
    (good_tuple children (head, children_good child inner.tail g w s), (first, tt))

none_good : IsGood none_graph
none_good = record { sound = record { each = (tt, tt); rooted = omega arith }; well = (tt, tt) }

embedded_good : WrittenReadsBack → (class : Class) (items : List Item) → AreWritable (keys_of items) → AreSignedKeys (keys_of items) → FlatItems class items → IsGood (embedded_graph items)
embedded_good law class [] w s f = none_good
embedded_good law class (item ∷ items) w s f =
    let all : List Graph = item_graphs (item ∷ items) in
    let one = good_tuple all (items_good law (has_values class.kind) class.key class.value (item ∷ items) f w s) in
    let two = good_tuple (tuple_graph all ∷ []) (one, tt) in
    let three = good_tuple (tuple_graph (tuple_graph all ∷ []) ∷ []) (two, tt) in
    good_tuple (tuple_graph (tuple_graph (tuple_graph all ∷ []) ∷ []) ∷ []) (three, tt)

-- ---- the laws

oid_named : (oid : ℕ) (o : Option (List ℕ)) → IsSome o → IsSome (with_name (oid_of (Some (nodes.Bytes (big_bytes 8 oid)))) o)
oid_named oid None h = absurd cc
oid_named oid (Some oids) h = refl

some_named : (ns rest : List Node) → AllNameWell ns rest → IsSome (named_in ns rest)
some_named ns [] h = refl
some_named ns (nodes.Reference id ∷ rest) h =
    let e : NamesEight ns id = h.0 in
    subst (λ (x : Option Node). IsSome (with_name (named_by ns x) (named_in ns rest))) (sym e.tuple)
    (subst (λ (x : Option Node). IsSome (with_name (oid_of x) (named_in ns rest))) (sym e.there) (oid_named e.oid (named_in ns rest) (some_named ns rest h.1)))
some_named ns (_ ∷ rest) h = some_named ns rest h.1

pub flat_sound : WrittenReadsBack → FlatIsSound
flat_sound law class bucket g w s f = (bucket_good law class bucket g w s f).sound

pub flat_named : WrittenReadsBack → FlatIsNamed
flat_named law class bucket g w s f = some_named (bucket_graph class bucket).nodes (bucket_graph class bucket).nodes (bucket_good law class bucket g w s f).well

pub inner_sound : InnerIsSound
inner_sound child leaf inner g h w s = (inner_good child leaf inner g h w s).sound

pub inner_named : InnerIsNamed
inner_named child leaf inner g h w s = some_named (inner_graph child leaf inner).nodes (inner_graph child leaf inner).nodes (inner_good child leaf inner g h w s).well

pub lone_sound : WrittenReadsBack → LoneIsSound
lone_sound law class items w s f = (embedded_good law class items w s f).sound

pub lone_named : WrittenReadsBack → LoneIsNamed
lone_named law class items w s f = some_named (embedded_graph items).nodes (embedded_graph items).nodes (embedded_good law class items w s f).well
