-- What is written of a bucket reads back as it.
use Rattle.std.proofs.Common.{◌≡◌, ℕ, ◌+◌, ◌<◌, ◌^◌, Bool, true, false, cond, List, [], ◌∷◌, ◌++◌, map, length, Option, Some, None, Ok, refl, sym, ◌∙◌, ap, subst, arith, append_assoc, append-nil}
use Rattle.std.specs.Prelude.{slice_get}
use Rattle.std.specs.Option.{option_map, option_and_then}
use Rattle.byteorder.specs.Endian.{big_bytes}
use Rattle.byteorder.specs.Numbers.{big_number-reads_back}
use Rattle.pickle_graph.specs.declared.node.Node.{Node}
use Rattle.pickle_graph.specs.declared.node.Node.TheVariants as nodes
use Rattle.pickle_graph.specs.declared.node.Act.{Act}
use Rattle.pickle_graph.specs.declared.node.Act.TheVariants.{Append, Set, Build}
use Rattle.pickle_references.specs.References.{named_by, oid_of}
use Rattle.pickle_references.specs.Named.{with_name}
use Rattle.pickle_graph.specs.Graph.{Graph}
use Rattle.pickle_round_trip.specs.Laws.{WrittenReadsBack}
use Rattle.pickle_graph.specs.Same.{IsCopy, IsSame}
use Rattle.pickle_writing.specs.Spelling.{spelling_of, pickled}
use Rattle.btree_family.specs.declared.key.Key.{Key}
use Rattle.btree_family.specs.declared.key.Key.TheVariants as keys
use Rattle.btree_family.specs.declared.table.KeyKind.{KeyKind}
use Rattle.btree_family.specs.declared.table.ValueKind.{ValueKind}
use Rattle.btree_family.specs.declared.table.ValueKind.TheVariants as values
use Rattle.btree_family.specs.Classes.{Class}
use Rattle.btree_family.specs.declared.bucket.Item.{Item}
use Rattle.btree_family.specs.Families.{key_fits}
use Rattle.btree_family.specs.Buckets.{keys_of}
use Rattle.bucket_state.specs.declared.entries.Entry.{Entry}
use Rattle.bucket_state.specs.States.{found_both, found_all, key_in, fitting_key, key_at, value_fits, spelled_text, fitting_value, family_value_at, entries_in, entry_item, has_values, stand_in_row, standing_items, member_items, state_items, with_next, linked, tuple_in, one_oid, link_in, link_at, bucket_in, bucket_of}
use Rattle.bucket_state.specs.Written.{shifted, shifted_pair, shifted_act, tuple_graph, link_graph, bucket_graph, Laid, no_graphs, laid_on, laid_all, closed, key_node, key_graph, graph_found, value_pickle, value_graph, item_graphs}
use Rattle.bucket_state.specs.Laws.{node_fits, IsFamilyValue, ValueStands, ItemsStand, IsLink, WrittenBucketReadsBack}
use Rattle.bucket_state.proofs.Graphs.{get_front, get_behind, get_map}
use Rattle.bucket_state.proofs.Parts.{copied}
use Rattle.bucket_state.proofs.Shifts.{AllNameBelow, Within, copies_below, as_many, spelled_within}
use Rattle.bucket_state.proofs.Sound.{in_range}
use Rattle.bucket_state.proofs.Spelled.{same_spelled}

-- ---- values

-- a graph that is spelled so, whose root may be a value of the family
pub record IsRead (kind : ValueKind) (text : List ℕ) (g : Graph) : Type 0 where
  pub root : Node
  pub at : slice_get g.nodes g.root ≡ Some root
  pub fits : value_fits kind root ≡ true
  pub spelled : spelling_of g.nodes g.root ≡ Ok text
  pub below : AllNameBelow (length g.nodes) g.nodes

copy_fits : (kind : ValueKind) (origin : List ℕ) (x : Node) (o : Option Node) → IsCopy origin x o → node_fits kind o ≡ true → value_fits kind x ≡ true
copy_fits values.Object origin x o h fits = refl
copy_fits values.Int32 origin (nodes.Number n) (Some (nodes.Number m)) h fits = ap (λ k. value_fits values.Int32 (nodes.Number k)) h ∙ fits
copy_fits values.Int64 origin (nodes.Number n) (Some (nodes.Number m)) h fits = ap (λ k. value_fits values.Int64 (nodes.Number k)) h ∙ fits
copy_fits kind origin x None h fits = cc
copy_fits values.Int32 origin (nodes.Number n) (Some _) h fits = absurd h
copy_fits values.Int64 origin (nodes.Number n) (Some _) h fits = absurd h
copy_fits values.Int32 origin x (Some (nodes.Number m)) h fits = absurd h
copy_fits values.Int64 origin x (Some (nodes.Number m)) h fits = absurd h
copy_fits kind origin x (Some y) h fits = cc

value_read : WrittenReadsBack → (kind : ValueKind) (text : List ℕ) → IsFamilyValue kind text → IsRead kind text (value_graph text)
unfolding value_graph
value_read law kind text f =
    let back = law f.graph (value_pickle text) f.sound (ap pickled f.spelled) in
    let read = back.within f.room in
    let copy : Graph = read.copy in
    let is : value_graph text ≡ copy = ap graph_found read.reads in
    let same : IsSame f.graph copy = read.same in
    let root = copied same.origin f.graph.nodes copy.nodes same.origin copy.root f.graph.root same.each same.root in
    let many = as_many same.origin f.graph.nodes copy.nodes same.origin same.each in
    let all : IsRead kind text copy = record {
      root = root.0;
      at = root.1;
      fits = copy_fits kind same.origin root.0 (slice_get f.graph.nodes f.graph.root) root.2 f.fits;
      spelled = same_spelled f.graph copy same ∙ f.spelled;
      below = subst (λ (n : ℕ). AllNameBelow n copy.nodes) many (copies_below same.origin f.graph.nodes copy.nodes same.origin same.each);
    } in
    subst (IsRead kind text) (sym is) all

shifted_fits : (kind : ValueKind) (by : ℕ) (x : Node) → value_fits kind (shifted by x) ≡ value_fits kind x
shifted_fits values.Object by x = refl
shifted_fits values.Int32 by nodes.None = refl
shifted_fits values.Int32 by _ = refl
shifted_fits values.Int64 by nodes.None = refl
shifted_fits values.Int64 by _ = refl

-- ---- places

-- what stands in a list stands at the same place in a longer one
abbrev pub Extends : List Node → List Node → Type 0
Extends xs big = (n : ℕ) (x : Node) → slice_get xs n ≡ Some x → slice_get big n ≡ Some x

pub laid_extends : (laid : Laid) (g : Graph) → Extends laid.nodes (laid_on laid g).nodes
laid_extends laid g n x h = get_front laid.nodes (map (shifted (length laid.nodes)) g.nodes) n x h

pub laid_within : (laid : Laid) (g : Graph) (big : List Node) → Extends (laid_on laid g).nodes big → Within big g.nodes (length laid.nodes)
laid_within laid g big ext n x h =
    ext (length laid.nodes + n) (shifted (length laid.nodes) x)
    (get_behind laid.nodes (map (shifted (length laid.nodes)) g.nodes) n ∙ get_map (shifted (length laid.nodes)) g.nodes n ∙ ap (option_map (shifted (length laid.nodes))) h)

-- a key that lies within
key_shifted : (by : ℕ) (key : Key) → key_in (Some (shifted by (key_node key))) ≡ Some key
key_shifted by (keys.Text text) = refl
key_shifted by (keys.Bytes bytes) = refl
key_shifted by (keys.Number n) = refl

key_read : (kind : KeyKind) (key : Key) (laid : Laid) (big : List Node) → key_fits kind key ≡ true → Extends (laid_on laid (key_graph key)).nodes big → key_at kind big (length laid.nodes + 0) ≡ Some key
key_read kind key laid big fits ext =
    let there : slice_get big (length laid.nodes + 0) ≡ Some (shifted (length laid.nodes) (key_node key)) = laid_within laid (key_graph key) big ext 0 (key_node key) refl in
    ap (λ (o : Option Node). option_and_then (fitting_key kind) (key_in o)) there
    ∙ ap (option_and_then (fitting_key kind)) (key_shifted (length laid.nodes) key)
    ∙ ap (λ (t : Bool). cond t (Some key) None) fits

-- a value that lies within
value_back : (kind : ValueKind) (text : List ℕ) (g : Graph) (laid : Laid) (big : List Node) → IsRead kind text g → Extends (laid_on laid g).nodes big → family_value_at kind big (length laid.nodes + g.root) ≡ Some text
value_back kind text g laid big read ext =
    let by : ℕ = length laid.nodes in
    let within : Within big g.nodes by = laid_within laid g big ext in
    let there : slice_get big (by + g.root) ≡ Some (shifted by read.root) = within g.root read.root read.at in
    let spelled = spelled_within big g.nodes by g.root within read.below (in_range g.nodes g.root read.root read.at) ∙ read.spelled in
    ap (option_and_then (fitting_value kind big (by + g.root))) there
    ∙ ap (λ (t : Bool). cond t (spelled_text (spelling_of big (by + g.root))) None) (shifted_fits kind by read.root ∙ read.fits)
    ∙ ap spelled_text spelled

-- ---- items

-- the roots that items add, and what they are read as wherever the nodes lie
pub record Rooted (values : Bool) (class : Class) (start end : Laid) (items : List Item) : Type 0 where
  pub roots : List ℕ
  pub added : end.roots ≡ start.roots ++ roots
  pub kept : Extends start.nodes end.nodes
  pub entries : List Entry
  pub told : entries_in values roots ≡ Some entries
  pub read : (big : List Node) → Extends end.nodes big → found_all (entry_item class big) entries ≡ Some items

-- a key alone, and the rest
one_more_key : (class : Class) (laid : Laid) (key : Key) (items : List Item) → key_fits class.key key ≡ true → Rooted false class (laid_on laid (key_graph key)) (laid_all (laid_on laid (key_graph key)) (item_graphs items)) items → Rooted false class laid (laid_all (laid_on laid (key_graph key)) (item_graphs items)) (record { key = key; value = None } ∷ items)
one_more_key class laid key items fits rest =
    let at : ℕ = length laid.nodes + 0 in
    record {
      roots = at ∷ rest.roots;
      added = rest.added ∙ append_assoc laid.roots (at ∷ []) rest.roots;
      kept = λ n x h. rest.kept n x (laid_extends laid (key_graph key) n x h);
      entries = record { key = at; value = None } ∷ rest.entries;
      told = ap (option_map (λ (es : List Entry). record { key = at; value = None } ∷ es)) rest.told;
      read = λ big ext.
          let first = key_read class.key key laid big fits (λ n x h. ext n x (rest.kept n x h)) in
          let later = rest.read big ext in
          (λ i. found_both (λ y ys. y ∷ ys) (found_both (λ k v. record { key = k; value = v }) (first i) (Some None)) (later i));
    }

-- a key with its value, and the rest
one_more_pair : (class : Class) (laid : Laid) (key : Key) (text : List ℕ) (items : List Item) → key_fits class.key key ≡ true → IsRead class.value text (value_graph text) → Rooted true class (laid_on (laid_on laid (key_graph key)) (value_graph text)) (laid_all (laid_on (laid_on laid (key_graph key)) (value_graph text)) (item_graphs items)) items → Rooted true class laid (laid_all (laid_on (laid_on laid (key_graph key)) (value_graph text)) (item_graphs items)) (record { key = key; value = Some text } ∷ items)
one_more_pair class laid key text items fits value rest =
    let one : Laid = laid_on laid (key_graph key) in
    let at : ℕ = length laid.nodes + 0 in
    let to : ℕ = length one.nodes + (value_graph text).root in
    record {
      roots = at ∷ to ∷ rest.roots;
      added = rest.added ∙ append_assoc (laid.roots ++ at ∷ []) (to ∷ []) rest.roots ∙ append_assoc laid.roots (at ∷ []) (to ∷ rest.roots);
      kept = λ n x h. rest.kept n x (laid_extends one (value_graph text) n x (laid_extends laid (key_graph key) n x h));
      entries = record { key = at; value = Some to } ∷ rest.entries;
      told = ap (option_map (λ (es : List Entry). record { key = at; value = Some to } ∷ es)) rest.told;
      read = λ big ext.
          let two : Extends (laid_on one (value_graph text)).nodes big = λ n x h. ext n x (rest.kept n x h) in
          let first = key_read class.key key laid big fits (λ n x h. two n x (laid_extends one (value_graph text) n x h)) in
          let second = value_back class.value text (value_graph text) one big value two in
          let later = rest.read big ext in
          (λ i. found_both (λ y ys. y ∷ ys) (found_both (λ k v. record { key = k; value = v }) (first i) (option_map (λ t. Some t) (second i))) (later i));
    }

key_case : (class : Class) (laid : Laid) (key : Key) (o : Option (List ℕ)) (items : List Item) → key_fits class.key key ≡ true → ValueStands false class.value o → ((l : Laid) → Rooted false class l (laid_all l (item_graphs items)) items) → Rooted false class laid (laid_all laid (item_graphs (record { key = key; value = o } ∷ items))) (record { key = key; value = o } ∷ items)
key_case class laid key None items fits stands rest = one_more_key class laid key items fits (rest (laid_on laid (key_graph key)))
key_case class laid key (Some text) items fits stands rest = absurd stands

pair_case : WrittenReadsBack → (class : Class) (laid : Laid) (key : Key) (o : Option (List ℕ)) (items : List Item) → key_fits class.key key ≡ true → ValueStands true class.value o → ((l : Laid) → Rooted true class l (laid_all l (item_graphs items)) items) → Rooted true class laid (laid_all laid (item_graphs (record { key = key; value = o } ∷ items))) (record { key = key; value = o } ∷ items)
pair_case law class laid key None items fits stands rest = absurd stands
pair_case law class laid key (Some text) items fits stands rest =
    one_more_pair class laid key text items fits (value_read law class.value text stands) (rest (laid_on (laid_on laid (key_graph key)) (value_graph text)))

items_back : WrittenReadsBack → (values : Bool) (class : Class) (laid : Laid) (items : List Item) → ItemsStand values class.key class.value items → Rooted values class laid (laid_all laid (item_graphs items)) items
items_back law true class laid [] stand = record { roots = []; added = sym (append-nil laid.roots); kept = λ n x h. h; entries = []; told = refl; read = λ big ext. refl }
items_back law false class laid [] stand = record { roots = []; added = sym (append-nil laid.roots); kept = λ n x h. h; entries = []; told = refl; read = λ big ext. refl }
items_back law false class laid (item ∷ items) stand = key_case class laid item.key item.value items stand.0 stand.1 (λ l. items_back law false class l items stand.2)
items_back law true class laid (item ∷ items) stand = pair_case law class laid item.key item.value items stand.0 stand.1 (λ l. items_back law true class l items stand.2)

-- ---- a graph that lies first

zero_items : (xs : List ℕ) → map (λ n. 0 + n) xs ≡ xs
zero_items [] = refl
zero_items (x ∷ xs) = let e : 0 + x ≡ x = omega arith in λ i. e i ∷ zero_items xs i

zero_pairs : (xs : List (ℕ × ℕ)) → map (shifted_pair 0) xs ≡ xs
zero_pairs [] = refl
zero_pairs (x ∷ xs) =
    let e : 0 + x.0 ≡ x.0 = omega arith in
    let f : 0 + x.1 ≡ x.1 = omega arith in
    λ i. (e i, f i) ∷ zero_pairs xs i

zero_act : (act : Act) → shifted_act 0 act ≡ act
zero_act (Append n) = let e : 0 + n ≡ n = omega arith in ap Append e
zero_act (Set n k) =
    let e : 0 + n ≡ n = omega arith in
    let f : 0 + k ≡ k = omega arith in
    λ i. Set (e i) (f i)
zero_act (Build n) = let e : 0 + n ≡ n = omega arith in ap Build e

zero_acts : (xs : List Act) → map (shifted_act 0) xs ≡ xs
zero_acts [] = refl
zero_acts (x ∷ xs) = λ i. zero_act x i ∷ zero_acts xs i

zero_node : (x : Node) → shifted 0 x ≡ x
zero_node nodes.None = refl
zero_node (nodes.Bool b) = refl
zero_node (nodes.Number n) = refl
zero_node (nodes.Wide b) = refl
zero_node (nodes.Float b) = refl
zero_node (nodes.Bytes b) = refl
zero_node (nodes.OldText b) = refl
zero_node (nodes.Text b) = refl
zero_node (nodes.Tuple xs) = ap nodes.Tuple (zero_items xs)
zero_node (nodes.List xs) = ap nodes.List (zero_items xs)
zero_node (nodes.Dict xs) = ap nodes.Dict (zero_pairs xs)
zero_node (nodes.Global a b) = refl
zero_node (nodes.Reference n) = let e : 0 + n ≡ n = omega arith in ap nodes.Reference e
zero_node (nodes.Object a b by_new acts) =
    let e : 0 + a ≡ a = omega arith in
    let f : 0 + b ≡ b = omega arith in
    λ i. nodes.Object (e i) (f i) by_new (zero_acts acts i)

zero_nodes : (xs : List Node) → map (shifted 0) xs ≡ xs
zero_nodes [] = refl
zero_nodes (x ∷ xs) = λ i. zero_node x i ∷ zero_nodes xs i

-- ---- the whole

-- the tuple behind its items
pub tuple_last : (ns : List Node) (roots : List ℕ) → slice_get (ns ++ nodes.Tuple roots ∷ []) (length ns) ≡ Some (nodes.Tuple roots)
tuple_last ns roots =
    let e : length ns ≡ length ns + 0 = omega arith in
    ap (slice_get (ns ++ nodes.Tuple roots ∷ [])) e ∙ get_behind ns (nodes.Tuple roots ∷ []) 0

-- the tuple of items, wherever its graph lies first
pub items_read : WrittenReadsBack → (class : Class) (items : List Item) (big : List Node) → ItemsStand (has_values class.kind) class.key class.value items → stand_in_row None (keys_of items) ≡ true → Extends (tuple_graph (item_graphs items)).nodes big → state_items class big (0 + (tuple_graph (item_graphs items)).root) ≡ Some items
items_read law class items big stand rising ext =
    let fin : Laid = laid_all no_graphs (item_graphs items) in
    let back = items_back law (has_values class.kind) class no_graphs items stand in
    let place : 0 + length fin.nodes ≡ length fin.nodes = omega arith in
    let there : slice_get big (0 + length fin.nodes) ≡ Some (nodes.Tuple fin.roots) = ap (slice_get big) place ∙ ext (length fin.nodes) (nodes.Tuple fin.roots) (tuple_last fin.nodes fin.roots) in
    let front : Extends fin.nodes big = λ n x h. ext n x (get_front fin.nodes (nodes.Tuple fin.roots ∷ []) n x h) in
    ap (λ (o : Option Node). option_and_then (member_items class big) (tuple_in o)) there
    ∙ ap (member_items class big) back.added
    ∙ ap (λ (o : Option (List Entry)). option_and_then standing_items (option_and_then (found_all (entry_item class big)) o)) back.told
    ∙ ap (option_and_then standing_items) (back.read big front)
    ∙ ap (λ (t : Bool). cond t (Some items) None) rising

pub first_extends : (g : Graph) → Extends g.nodes (laid_on no_graphs g).nodes
first_extends g n x h = ap (λ (xs : List Node). slice_get xs n) (zero_nodes g.nodes) ∙ h

link_read : (oid : ℕ) (m n : List ℕ) (laid : Laid) (big : List Node) → oid < 2 ^ 64 → Extends (laid_on laid (link_graph oid m n)).nodes big → link_at big (length laid.nodes + (link_graph oid m n).root) ≡ Some oid
unfolding link_graph
link_read oid m n laid big low ext =
    let by : ℕ = length laid.nodes in
    let within : Within big (link_graph oid m n).nodes by = laid_within laid (link_graph oid m n) big ext in
    let at3 : slice_get big (by + 3) ≡ Some (nodes.Reference (by + 2)) = within 3 (nodes.Reference 2) refl in
    let at2 : slice_get big (by + 2) ≡ Some (nodes.Tuple ((by + 0) ∷ (by + 1) ∷ [])) = within 2 (nodes.Tuple (0 ∷ 1 ∷ [])) refl in
    let at0 : slice_get big (by + 0) ≡ Some (nodes.Bytes (big_bytes 8 oid)) = within 0 (nodes.Bytes (big_bytes 8 oid)) refl in
    ap (link_in big) at3
    ∙ ap (λ (o : Option Node). one_oid (with_name (named_by big o) (Some []))) at2
    ∙ ap (λ (o : Option Node). one_oid (with_name (oid_of o) (Some []))) at0
    ∙ ap Some (big_number-reads_back 8 oid [] low)

pub closed_extends : (laid : Laid) → Extends laid.nodes (closed laid).nodes
closed_extends laid n x h = get_front laid.nodes (nodes.Tuple laid.roots ∷ []) n x h

pub closed_root : (laid : Laid) → slice_get (closed laid).nodes (closed laid).root ≡ Some (nodes.Tuple laid.roots)
closed_root laid = tuple_last laid.nodes laid.roots

back_by : WrittenReadsBack → (class : Class) (items : List Item) (next : Option ℕ) → ItemsStand (has_values class.kind) class.key class.value items → stand_in_row None (keys_of items) ≡ true → IsLink next → bucket_of class (bucket_graph class (record { items = items; next = next })) ≡ Some (record { items = items; next = next })
back_by law class items None stand rising link =
    let t : Graph = tuple_graph (item_graphs items) in
    let outer : Laid = laid_on no_graphs t in
    let big : List Node = (closed outer).nodes in
    let read = items_read law class items big stand rising (λ n x h. closed_extends outer n x (first_extends t n x h)) in
    ap (λ (o : Option Node). option_and_then (bucket_in class big) (tuple_in o)) (closed_root outer) ∙ ap (with_next None) read
back_by law class items (Some oid) stand rising link =
    let t : Graph = tuple_graph (item_graphs items) in
    let outer : Laid = laid_on no_graphs t in
    let g : Graph = link_graph oid class.module_name class.class_name in
    let both : Laid = laid_on outer g in
    let big : List Node = (closed both).nodes in
    let read = items_read law class items big stand rising (λ n x h. closed_extends both n x (laid_extends outer g n x (first_extends t n x h))) in
    let linked_to = link_read oid class.module_name class.class_name outer big link (closed_extends both) in
    ap (λ (o : Option Node). option_and_then (bucket_in class big) (tuple_in o)) (closed_root both) ∙ (λ i. linked (linked_to i) (read i))

pub bucket_back : WrittenReadsBack → WrittenBucketReadsBack
bucket_back law class bucket stands = back_by law class bucket.items bucket.next stands.items stands.rising stands.link
