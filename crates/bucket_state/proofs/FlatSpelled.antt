-- The text of a state of flat values is the spelling of its graph.
use Rattle.std.proofs.Common.{◌≡◌, ℕ, zero, suc, ◌+◌, ◌*◌, ◌≤◌, Bool, true, false, cond, List, [], ◌∷◌, ◌++◌, length, Option, Some, None, Ok, Err, refl, sym, ◌∙◌, ap, subst, arith, append_assoc, append-nil}
use Rattle.std.specs.Prelude.{slice_get, nat_lt}
use Rattle.std.proofs.lemmas.Bool.{lt-ltb}
use Rattle.byteorder.specs.Endian.{big_bytes}
use Rattle.pickle_graph.specs.declared.node.Node.{Node}
use Rattle.pickle_graph.specs.declared.node.Node.TheVariants as nodes
use Rattle.pickle_graph.specs.declared.parts.Part.TheVariants.{Byte}
use Rattle.pickle_reading.specs.declared.reading.TheConstants.{NODE_LIMIT}
use Rattle.pickle_writing.specs.declared.depth.TheConstants.{WALK_LIMIT}
use Rattle.pickle_writing.specs.declared.error.WriteError.TheVariants as errors
use Rattle.pickle_graph.specs.Graph.{Graph, IsNode, IsGraph}
use Rattle.pickle_graph.specs.Parts.{parts_of, is_held, items_of, item_parts, tuple_parts}
use Rattle.pickle_graph.specs.Same.{IsCopy, AllCopies, IsSame}
use Rattle.pickle_graph.specs.Walks.{some_item, has_walk}
use Rattle.pickle_round_trip.specs.Laws.{WrittenReadsBack}
use Rattle.pickle_writing.specs.Shared.{is_shared}
use Rattle.pickle_writing.specs.Spelling.{Piece, leaf_text, parts_piece, put_number, held_piece, node_piece, followed, piece_of, root_piece, spelling_of, pickled}
use Rattle.btree_family.specs.declared.key.Key.{Key}
use Rattle.btree_family.specs.declared.key.Key.TheVariants as keys
use Rattle.btree_family.specs.declared.table.KeyKind.{KeyKind}
use Rattle.btree_family.specs.declared.table.ValueKind.{ValueKind}
use Rattle.btree_family.specs.declared.bucket.Item as items
use Rattle.btree_family.specs.Classes.{Class}
use Rattle.btree_family.specs.Buckets.{BucketContents, IsSpelling, AreValues}
use Rattle.bucket_state.specs.States.{has_values}
use Rattle.bucket_state.specs.Written.{shifted, leaf_graph, key_graph, key_text, link_graph, value_pickle, value_graph, graph_found, Laid, no_graphs, laid_on, laid_all, closed, tuple_graph, with_value, item_graphs, next_graphs, bucket_graph}
use Rattle.bucket_state.specs.Laws.{IsFamilyValue, ItemsStand}
use Rattle.bucket_state.specs.Depths.{IsShallow}
use Rattle.bucket_state.specs.Flat.{IsFlatValue, FlatStands, AreFlat, FlatItems, texts_of, tuple_text, value_text, item_texts, link_text, flat_text, FlatStand, FlatAreShallow, FlatIsSpelled, FlatMakesFew}
use Rattle.bucket_state.proofs.Parts.{copied, nodes_alike, leaf_items, none_copied}
use Rattle.bucket_state.proofs.Sound.{in_range}
use Rattle.bucket_state.proofs.Back.{Extends, laid_extends, laid_within, first_extends, closed_extends, closed_root, tuple_last}
use Rattle.bucket_state.proofs.Depths.{written_shallow}
use Rattle.bucket_state.proofs.FlatOnce.{ends, IsOnce, EachOnce, edgeless_once, link_once, tuple_once, none_shared}

-- ---- leaves

-- a leaf with such a text stands there
pub record IsLeafAt (ns : List Node) (m : ℕ) (text : List ℕ) : Type 0 where
  pub leaf : Node
  pub there : slice_get ns m ≡ Some leaf
  pub lone : is_held leaf ≡ false
  pub spelled : leaf_text leaf ≡ text

leaf_walk : (n : ℕ) (ns : List Node) (m : ℕ) (text : List ℕ) → IsLeafAt ns m text → has_walk (suc n) ns m ≡ false
unfolding has_walk
leaf_walk n ns m text h = ap (λ (o : Option Node). some_item (has_walk n ns) (items_of o)) h.there ∙ ap (some_item (has_walk n ns)) (leaf_items h.leaf h.lone)

-- a text, no puts, and so many nodes
abbrev pub plain : List ℕ → ℕ → Piece
plain text made = record { text = text; puts = []; made = made }

pub leaf_piece : (levels : ℕ) (ns : List Node) (shared : ℕ → Bool) (m : ℕ) (text : List ℕ) → IsLeafAt ns m text → piece_of (suc levels) ns shared m [] ≡ plain text 1
unfolding piece_of
leaf_piece levels ns shared m text h =
    let f : ℕ → List ℕ → Piece = piece_of levels ns shared in
    ap (node_piece shared f m []) h.there
    ∙ ap (λ (t : Bool). cond t (held_piece (shared m) (put_number m []) m [] (parts_piece f (parts_of h.leaf) [])) (plain (leaf_text h.leaf) 1)) h.lone
    ∙ ap (λ (text : List ℕ). plain text 1) h.spelled

-- ---- members one behind the other

-- these pieces have these texts, put nothing, and make so many nodes in all
abbrev pub AllGive : (ℕ → List ℕ → Piece) → List ℕ → List (List ℕ) → ℕ → Type 0
AllGive f [] [] made = made ≡ 0
AllGive f (m ∷ ms) (text ∷ texts) made = (one : ℕ) × (rest : ℕ) × (made ≡ one + rest) × (f m [] ≡ plain text one) × AllGive f ms texts rest
AllGive f _ _ made = ⊥

many_piece : (f : ℕ → List ℕ → Piece) (byte : ℕ) (ms : List ℕ) (texts : List (List ℕ)) (made : ℕ) → AllGive f ms texts made → parts_piece f (item_parts ms ++ Byte byte ∷ []) [] ≡ plain (texts_of texts ++ byte ∷ []) made
many_piece f byte [] [] made h = ap (plain (byte ∷ [])) (sym h)
many_piece f byte (m ∷ ms) (text ∷ texts) made h =
    let later = many_piece f byte ms texts h.1 h.4 in
    ap (λ (p : Piece). followed p (parts_piece f (item_parts ms ++ Byte byte ∷ []) p.puts)) h.3
    ∙ ap (followed (plain text h.0)) later
    ∙ (λ k. plain (sym (append_assoc text (texts_of texts) (byte ∷ [])) k) (sym h.2 k))
many_piece f byte [] (text ∷ texts) made h = absurd h
many_piece f byte (m ∷ ms) [] made h = absurd h

marked : (n : ℕ) → nat_lt 3 (suc (suc (suc (suc n)))) ≡ true
marked n = lt-ltb 3 (suc (suc (suc (suc n)))) (omega arith)

tuple_piece : (f : ℕ → List ℕ → Piece) (m : ℕ) (ms : List ℕ) (texts : List (List ℕ)) (made : ℕ) → AllGive f (m ∷ ms) texts made → parts_piece f (tuple_parts (m ∷ ms)) [] ≡ plain (tuple_text texts) made
tuple_piece f m [] (a ∷ []) made h = many_piece f 0x85 (m ∷ []) (a ∷ []) made h
tuple_piece f m (n ∷ []) (a ∷ b ∷ []) made h = many_piece f 0x86 (m ∷ n ∷ []) (a ∷ b ∷ []) made h
tuple_piece f m (n ∷ i ∷ []) (a ∷ b ∷ c ∷ []) made h = many_piece f 0x87 (m ∷ n ∷ i ∷ []) (a ∷ b ∷ c ∷ []) made h
tuple_piece f m (n ∷ i ∷ j ∷ ms) (a ∷ b ∷ c ∷ d ∷ texts) made h =
    let zero_more : 0 + made ≡ made = omega arith in
    ap (followed (plain (0x28 ∷ []) 0)) (many_piece f 0x74 (m ∷ n ∷ i ∷ j ∷ ms) (a ∷ b ∷ c ∷ d ∷ texts) made h)
    ∙ (λ k. plain (cond (sym (marked (length texts)) k) (0x28 ∷ []) [] ++ (texts_of (a ∷ b ∷ c ∷ d ∷ texts) ++ 0x74 ∷ [])) (zero_more k))
tuple_piece f m ms [] made h = absurd h
tuple_piece f m [] (a ∷ b ∷ texts) made h = absurd h.4
tuple_piece f m (n ∷ ms) (a ∷ []) made h = absurd h.4
tuple_piece f m (n ∷ []) (a ∷ b ∷ c ∷ texts) made h = absurd h.4.4
tuple_piece f m (n ∷ i ∷ ms) (a ∷ b ∷ []) made h = absurd h.4.4
tuple_piece f m (n ∷ i ∷ []) (a ∷ b ∷ c ∷ d ∷ texts) made h = absurd h.4.4.4
tuple_piece f m (n ∷ i ∷ j ∷ ms) (a ∷ b ∷ c ∷ []) made h = absurd h.4.4.4

-- a held node that is not shared
held_alone : (levels : ℕ) (ns : List Node) (shared : ℕ → Bool) (m : ℕ) (node : Node) (text : List ℕ) (made : ℕ) → slice_get ns m ≡ Some node → is_held node ≡ true → shared m ≡ false → parts_piece (piece_of levels ns shared) (parts_of node) [] ≡ plain text made → piece_of (suc levels) ns shared m [] ≡ plain text (made + 1)
unfolding piece_of
held_alone levels ns shared m node text made there held apart parts =
    let f : ℕ → List ℕ → Piece = piece_of levels ns shared in
    ap (node_piece shared f m []) there
    ∙ ap (λ (t : Bool). cond t (held_piece (shared m) None m [] (parts_piece f (parts_of node) [])) (plain (leaf_text node) 1)) held
    ∙ (λ k. held_piece (apart k) None m [] (parts k))

-- a tuple that is not shared
pub tuple_alone : (levels : ℕ) (ns : List Node) (shared : ℕ → Bool) (m : ℕ) (ms : List ℕ) (texts : List (List ℕ)) (made : ℕ) → slice_get ns m ≡ Some (nodes.Tuple ms) → shared m ≡ false → AllGive (piece_of levels ns shared) ms texts made → piece_of (suc levels) ns shared m [] ≡ plain (tuple_text texts) (made + 1)
tuple_alone levels ns shared m [] [] made there apart h =
    let one : 1 ≡ made + 1 = omega (arith, h) in
    leaf_piece levels ns shared m (0x29 ∷ []) (record { leaf = nodes.Tuple []; there = there; lone = refl; spelled = refl }) ∙ ap (plain (0x29 ∷ [])) one
tuple_alone levels ns shared m (a ∷ ms) texts made there apart h =
    held_alone levels ns shared m (nodes.Tuple (a ∷ ms)) (tuple_text texts) made there refl apart (tuple_piece (piece_of levels ns shared) a ms texts made h)
tuple_alone levels ns shared m [] (text ∷ texts) made there apart h = absurd h

-- ---- graphs whose root is a leaf

-- the root is a leaf with such a text, and no edges start anywhere
pub record IsLeafy (g : Graph) (text : List ℕ) : Type 0 where
  pub at : IsLeafAt g.nodes g.root text
  pub edgeless : ends g.nodes ≡ []

pub key_leafy : (key : Key) → IsLeafy (key_graph key) (key_text key)
key_leafy (keys.Text text) = record { at = record { leaf = nodes.Text text; there = refl; lone = refl; spelled = refl }; edgeless = refl }
key_leafy (keys.Bytes bytes) = record { at = record { leaf = nodes.Bytes bytes; there = refl; lone = refl; spelled = refl }; edgeless = refl }
key_leafy (keys.Number n) = record { at = record { leaf = nodes.Number n; there = refl; lone = refl; spelled = refl }; edgeless = refl }

edgeless_copies : (origin : List ℕ) (leaf : Node) (cs : List Node) (ms : List ℕ) → is_held leaf ≡ false → AllCopies origin (leaf ∷ []) cs ms → ends cs ≡ []
edgeless_copies origin leaf [] [] lone h = refl
edgeless_copies origin leaf (c ∷ cs) (m ∷ ms) lone h =
    let rest = edgeless_copies origin leaf cs ms lone h.1 in
    λ k. without m h.0 k ++ rest k
  where
    without : (m : ℕ) → IsCopy origin c (slice_get (leaf ∷ []) m) → items_of (Some c) ≡ []
    without zero g = leaf_items c ((nodes_alike origin c leaf g).held ∙ lone)
    without (suc m) g = absurd (none_copied origin c g)
edgeless_copies origin leaf [] (m ∷ ms) lone h = absurd h
edgeless_copies origin leaf (c ∷ cs) [] lone h = absurd h

-- the leaf by itself
pub lone_piece : (leaf : Node) (text : List ℕ) → is_held leaf ≡ false → leaf_text leaf ≡ text → root_piece (leaf ∷ []) 0 ≡ plain text 1
lone_piece leaf text lone spelled = leaf_piece WALK_LIMIT (leaf ∷ []) (is_shared (leaf ∷ []) 0) 0 text (record { leaf = leaf; there = refl; lone = lone; spelled = spelled })

pub lone_spelled : (leaf : Node) (text : List ℕ) → is_held leaf ≡ false → leaf_text leaf ≡ text → spelling_of (leaf ∷ []) 0 ≡ Ok text
lone_spelled leaf text lone spelled =
    let deep = leaf_walk WALK_LIMIT (leaf ∷ []) 0 text (record { leaf = leaf; there = refl; lone = lone; spelled = spelled }) in
    let piece = lone_piece leaf text lone spelled in
    λ k. cond (deep k) (Err errors.TooDeep) (Ok (piece k).text)

lone_sound : (leaf : Node) → IsNode (leaf ∷ []) leaf → IsGraph (leaf ∷ []) 0
lone_sound leaf h = record { each = (h, tt); rooted = omega arith }

lone_room : (leaf : Node) (text : List ℕ) → is_held leaf ≡ false → leaf_text leaf ≡ text → (root_piece (leaf ∷ []) 0).made ≤ NODE_LIMIT
lone_room leaf text lone spelled = let made = ap (λ (p : Piece). p.made) (lone_piece leaf text lone spelled) in omega (arith, made)

value_leafy : WrittenReadsBack → (kind : ValueKind) (text : List ℕ) → IsFlatValue kind text → IsLeafy (value_graph text) text
unfolding value_graph
value_leafy law kind text f =
    let back = law (leaf_graph f.leaf) (value_pickle text) (lone_sound f.leaf f.sound) (ap pickled (lone_spelled f.leaf text f.lone f.spelled)) in
    let read = back.within (lone_room f.leaf text f.lone f.spelled) in
    let copy : Graph = read.copy in
    let is : value_graph text ≡ copy = ap graph_found read.reads in
    let same : IsSame (leaf_graph f.leaf) copy = read.same in
    let root = copied same.origin (f.leaf ∷ []) copy.nodes same.origin copy.root 0 same.each same.root in
    let alike = nodes_alike same.origin root.0 f.leaf root.2 in
    let all : IsLeafy copy text = record {
      at = record { leaf = root.0; there = root.1; lone = alike.held ∙ f.lone; spelled = alike.leaf f.lone ∙ f.spelled };
      edgeless = edgeless_copies same.origin f.leaf copy.nodes same.origin f.lone same.each;
    } in
    subst (λ (g : Graph). IsLeafy g text) (sym is) all

-- ---- such graphs side by side

shifted_leaf : (by : ℕ) (x : Node) → is_held x ≡ false → shifted by x ≡ x
shifted_leaf by nodes.None h = refl
shifted_leaf by (nodes.Bool b) h = refl
shifted_leaf by (nodes.Number n) h = refl
shifted_leaf by (nodes.Wide b) h = refl
shifted_leaf by (nodes.Float b) h = refl
shifted_leaf by (nodes.Bytes b) h = refl
shifted_leaf by (nodes.OldText b) h = refl
shifted_leaf by (nodes.Text b) h = refl
shifted_leaf by (nodes.Global a b) h = refl
shifted_leaf by (nodes.Tuple []) h = refl
shifted_leaf by (nodes.Tuple (n ∷ ns)) h = cc
shifted_leaf by (nodes.List ns) h = cc
shifted_leaf by (nodes.Dict ns) h = cc
shifted_leaf by (nodes.Reference n) h = cc
shifted_leaf by (nodes.Object a b c d) h = cc

pub leaf_within : (laid : Laid) (g : Graph) (text : List ℕ) (big : List Node) → IsLeafAt g.nodes g.root text → Extends (laid_on laid g).nodes big → IsLeafAt big (length laid.nodes + g.root) text
leaf_within laid g text big h ext = record {
  leaf = h.leaf;
  there = laid_within laid g big ext g.root h.leaf h.there ∙ ap Some (shifted_leaf (length laid.nodes) h.leaf h.lone);
  lone = h.lone;
  spelled = h.spelled;
}

abbrev AllLeafy : List Graph → List (List ℕ) → Type 0
AllLeafy [] [] = Unit {0}
AllLeafy (g ∷ gs) (text ∷ texts) = IsLeafy g text × AllLeafy gs texts
AllLeafy _ _ = ⊥

abbrev LeavesAt : List Node → List ℕ → List (List ℕ) → Type 0
LeavesAt ns [] [] = Unit {0}
LeavesAt ns (m ∷ ms) (text ∷ texts) = IsLeafAt ns m text × LeavesAt ns ms texts
LeavesAt ns _ _ = ⊥

-- the roots that they add, where leaves stand wherever the nodes lie
record LeavesLaid (laid : Laid) (gs : List Graph) (texts : List (List ℕ)) : Type 0 where
  roots : List ℕ
  added : (laid_all laid gs).roots ≡ laid.roots ++ roots
  kept : Extends laid.nodes (laid_all laid gs).nodes
  leaves : (big : List Node) → Extends (laid_all laid gs).nodes big → LeavesAt big roots texts

leaves_laid : (laid : Laid) (gs : List Graph) (texts : List (List ℕ)) → AllLeafy gs texts → LeavesLaid laid gs texts
leaves_laid laid [] [] h = record { roots = []; added = sym (append-nil laid.roots); kept = λ n x e. e; leaves = λ big ext. tt }
leaves_laid laid (g ∷ gs) (text ∷ texts) h =
    let rest = leaves_laid (laid_on laid g) gs texts h.1 in
    let at : ℕ = length laid.nodes + g.root in
    record {
      roots = at ∷ rest.roots;
      added = rest.added ∙ append_assoc laid.roots (at ∷ []) rest.roots;
      kept = λ n x e. rest.kept n x (laid_extends laid g n x e);
      leaves = λ big ext. (leaf_within laid g text big h.0.at (λ n x e. ext n x (rest.kept n x e)), rest.leaves big ext);
    }
leaves_laid laid [] (text ∷ texts) h = absurd h
leaves_laid laid (g ∷ gs) [] h = absurd h

leaves_give : (levels : ℕ) (ns : List Node) (shared : ℕ → Bool) (ms : List ℕ) (texts : List (List ℕ)) → LeavesAt ns ms texts → AllGive (piece_of (suc levels) ns shared) ms texts (length texts)
leaves_give levels ns shared [] [] h = refl
leaves_give levels ns shared (m ∷ ms) (text ∷ texts) h = (1, length texts, omega arith, leaf_piece levels ns shared m text h.0, leaves_give levels ns shared ms texts h.1)
leaves_give levels ns shared [] (text ∷ texts) h = absurd h
leaves_give levels ns shared (m ∷ ms) [] h = absurd h

pub leafy_once : (gs : List Graph) (texts : List (List ℕ)) → AllLeafy gs texts → EachOnce gs
leafy_once [] [] h = tt
leafy_once (g ∷ gs) (text ∷ texts) h = (edgeless_once g (in_range g.nodes g.root h.0.at.leaf h.0.at.there) h.0.edgeless, leafy_once gs texts h.1)
leafy_once [] (text ∷ texts) h = absurd h
leafy_once (g ∷ gs) [] h = absurd h

-- ---- items

value_case : WrittenReadsBack → (values : Bool) (kind : ValueKind) (o : Option (List ℕ)) (gs : List Graph) (texts : List (List ℕ)) → FlatStands values kind o → AllLeafy gs texts → AllLeafy (with_value o gs) (value_text o texts)
value_case law true kind None gs texts f h = absurd f
value_case law true kind (Some text) gs texts f h = (value_leafy law kind text f, h)
value_case law false kind None gs texts f h = h
value_case law false kind (Some text) gs texts f h = absurd f

pub items_leafy : WrittenReadsBack → (values : Bool) (key_kind : KeyKind) (value_kind : ValueKind) (items : List items.Item) → AreFlat values key_kind value_kind items → AllLeafy (item_graphs items) (item_texts items)
items_leafy law values key_kind value_kind [] h = tt
items_leafy law values key_kind value_kind (item ∷ items) h =
    (key_leafy item.key, value_case law values value_kind item.value (item_graphs items) (item_texts items) h.1 (items_leafy law values key_kind value_kind items h.2))

-- ---- the parts of a state

-- the tuple of items, wherever its graph lies first
pub inner_piece : WrittenReadsBack → (levels : ℕ) (class : Class) (items : List items.Item) (big : List Node) (shared : ℕ → Bool) → FlatItems class items → Extends (tuple_graph (item_graphs items)).nodes big → ((m : ℕ) → shared m ≡ false) → piece_of (suc (suc levels)) big shared (0 + (tuple_graph (item_graphs items)).root) [] ≡ plain (tuple_text (item_texts items)) (length (item_texts items) + 1)
inner_piece law levels class items big shared flat ext apart =
    let fin : Laid = laid_all no_graphs (item_graphs items) in
    let laid = leaves_laid no_graphs (item_graphs items) (item_texts items) (items_leafy law (has_values class.kind) class.key class.value items flat) in
    let place : 0 + length fin.nodes ≡ length fin.nodes = omega arith in
    let there : slice_get big (0 + length fin.nodes) ≡ Some (nodes.Tuple laid.roots) =
    ap (slice_get big) place ∙ ext (length fin.nodes) (nodes.Tuple fin.roots) (tuple_last fin.nodes fin.roots) ∙ ap (λ (ms : List ℕ). Some (nodes.Tuple ms)) laid.added in
    let leaves = laid.leaves big (λ n x e. ext n x (closed_extends fin n x e)) in
    tuple_alone (suc levels) big shared (0 + length fin.nodes) laid.roots (item_texts items) (length (item_texts items)) there (apart (0 + length fin.nodes)) (leaves_give levels big shared laid.roots (item_texts items) leaves)

link_shape : (b g : List ℕ) → (((b ++ (g ++ [])) ++ 0x86 ∷ []) ++ []) ++ 0x51 ∷ [] ≡ b ++ (g ++ 0x86 ∷ 0x51 ∷ [])
link_shape b g =
    ap (λ (x : List ℕ). x ++ 0x51 ∷ []) (append-nil ((b ++ (g ++ [])) ++ 0x86 ∷ []))
    ∙ append_assoc (b ++ (g ++ [])) (0x86 ∷ []) (0x51 ∷ [])
    ∙ ap (λ (x : List ℕ). (b ++ x) ++ 0x86 ∷ 0x51 ∷ []) (append-nil g)
    ∙ append_assoc b g (0x86 ∷ 0x51 ∷ [])

-- a link, wherever it lies
pub link_piece : (levels oid : ℕ) (m n : List ℕ) (laid : Laid) (big : List Node) (shared : ℕ → Bool) → Extends (laid_on laid (link_graph oid m n)).nodes big → ((i : ℕ) → shared i ≡ false) → piece_of (suc (suc (suc levels))) big shared (length laid.nodes + (link_graph oid m n).root) [] ≡ plain (link_text oid m n) 4
unfolding link_graph
link_piece levels oid m n laid big shared ext apart =
    let by : ℕ = length laid.nodes in
    let within = laid_within laid (link_graph oid m n) big ext in
    let at3 : slice_get big (by + 3) ≡ Some (nodes.Reference (by + 2)) = within 3 (nodes.Reference 2) refl in
    let at2 : slice_get big (by + 2) ≡ Some (nodes.Tuple ((by + 0) ∷ (by + 1) ∷ [])) = within 2 (nodes.Tuple (0 ∷ 1 ∷ [])) refl in
    let oid_text : List ℕ = leaf_text (nodes.Bytes (big_bytes 8 oid)) in
    let class_text : List ℕ = leaf_text (nodes.Global m n) in
    let at0 : IsLeafAt big (by + 0) oid_text = record { leaf = nodes.Bytes (big_bytes 8 oid); there = within 0 (nodes.Bytes (big_bytes 8 oid)) refl; lone = refl; spelled = refl } in
    let at1 : IsLeafAt big (by + 1) class_text = record { leaf = nodes.Global m n; there = within 1 (nodes.Global m n) refl; lone = refl; spelled = refl } in
    let id = tuple_alone (suc levels) big shared (by + 2) ((by + 0) ∷ (by + 1) ∷ []) (oid_text ∷ class_text ∷ []) 2 at2 (apart (by + 2))
    (leaves_give levels big shared ((by + 0) ∷ (by + 1) ∷ []) (oid_text ∷ class_text ∷ []) (at0, (at1, tt))) in
    let whole : List ℕ = tuple_text (oid_text ∷ class_text ∷ []) in
    held_alone (suc (suc levels)) big shared (by + 3) (nodes.Reference (by + 2)) ((whole ++ []) ++ 0x51 ∷ []) 3 at3 refl (apart (by + 3))
    (many_piece (piece_of (suc (suc levels)) big shared) 0x51 ((by + 2) ∷ []) (whole ∷ []) 3 (3, 0, refl, id, refl))
    ∙ ap (λ (text : List ℕ). plain text 4) (link_shape oid_text class_text)

next_once : (class : Class) (next : Option ℕ) → EachOnce (next_graphs class next)
next_once class None = tt
next_once class (Some oid) = (link_once oid class.module_name class.class_name, tt)

bucket_once : WrittenReadsBack → (class : Class) (bucket : BucketContents) → FlatItems class bucket.items → IsOnce (bucket_graph class bucket)
bucket_once law class bucket flat =
    tuple_once (tuple_graph (item_graphs bucket.items) ∷ next_graphs class bucket.next)
    (tuple_once (item_graphs bucket.items) (leafy_once (item_graphs bucket.items) (item_texts bucket.items) (items_leafy law (has_values class.kind) class.key class.value bucket.items flat)), next_once class bucket.next)

-- how many nodes a state makes
abbrev made_of : List items.Item → Option ℕ → ℕ
made_of items None = length (item_texts items) + 1 + 1
made_of items (Some oid) = length (item_texts items) + 5 + 1

bucket_piece : WrittenReadsBack → (class : Class) (items : List items.Item) (next : Option ℕ) → FlatItems class items → root_piece (bucket_graph class (record { items = items; next = next })).nodes (bucket_graph class (record { items = items; next = next })).root ≡ plain (flat_text class (record { items = items; next = next })) (made_of items next)
bucket_piece law class items None flat =
    let t : Graph = tuple_graph (item_graphs items) in
    let outer : Laid = laid_on no_graphs t in
    let whole : Graph = closed outer in
    let shared : ℕ → Bool = is_shared whole.nodes whole.root in
    let apart = none_shared whole (bucket_once law class (record { items = items; next = None }) flat) in
    let many : ℕ = length (item_texts items) + 1 in
    let inner = inner_piece law 198 class items whole.nodes shared flat (λ n x h. closed_extends outer n x (first_extends t n x h)) apart in
    tuple_alone 200 whole.nodes shared whole.root ((0 + t.root) ∷ []) (tuple_text (item_texts items) ∷ []) many (closed_root outer) (apart whole.root) (many, 0, omega arith, inner, refl)
bucket_piece law class items (Some oid) flat =
    let t : Graph = tuple_graph (item_graphs items) in
    let outer : Laid = laid_on no_graphs t in
    let link : Graph = link_graph oid class.module_name class.class_name in
    let both : Laid = laid_on outer link in
    let whole : Graph = closed both in
    let shared : ℕ → Bool = is_shared whole.nodes whole.root in
    let apart = none_shared whole (bucket_once law class (record { items = items; next = Some oid }) flat) in
    let many : ℕ = length (item_texts items) + 1 in
    let inner = inner_piece law 198 class items whole.nodes shared flat (λ n x h. closed_extends both n x (laid_extends outer link n x (first_extends t n x h))) apart in
    let linked = link_piece 197 oid class.module_name class.class_name outer whole.nodes shared (closed_extends both) apart in
    tuple_alone 200 whole.nodes shared whole.root ((0 + t.root) ∷ (length outer.nodes + link.root) ∷ []) (tuple_text (item_texts items) ∷ link_text oid class.module_name class.class_name ∷ []) (length (item_texts items) + 5) (closed_root both) (apart whole.root)
    (many, 4, omega arith, inner, (4, 0, refl, linked, refl))

-- ---- the laws

family_value : (kind : ValueKind) (text : List ℕ) → IsFlatValue kind text → IsFamilyValue kind text
family_value kind text f = record {
  graph = leaf_graph f.leaf;
  sound = lone_sound f.leaf f.sound;
  spelled = lone_spelled f.leaf text f.lone f.spelled;
  fits = f.fits;
  room = lone_room f.leaf text f.lone f.spelled;
}

is_spelling : (kind : ValueKind) (text : List ℕ) → IsFlatValue kind text → IsSpelling text
is_spelling kind text f = record { graph = leaf_graph f.leaf; sound = lone_sound f.leaf f.sound; spelled = lone_spelled f.leaf text f.lone f.spelled }

pub flat_stand : FlatStand
flat_stand values key_kind value_kind [] h = (tt, tt)
flat_stand values key_kind value_kind (item ∷ items) h =
    let rest = flat_stand values key_kind value_kind items h.2 in
    by_value values item.value h.1 rest
  where
    by_value : (values : Bool) (o : Option (List ℕ)) → FlatStands values value_kind o → ItemsStand values key_kind value_kind items × AreValues items → ItemsStand values key_kind value_kind (record { key = item.key; value = o } ∷ items) × AreValues (record { key = item.key; value = o } ∷ items)
    by_value true None f rest = absurd f
    by_value true (Some text) f rest = ((h.0, family_value value_kind text f, rest.0), (is_spelling value_kind text f, rest.1))
    by_value false None f rest = ((h.0, tt, rest.0), (tt, rest.1))
    by_value false (Some text) f rest = absurd f

pub flat_shallow : WrittenReadsBack → FlatAreShallow
flat_shallow law values key_kind value_kind [] n h = tt
flat_shallow law values key_kind value_kind (item ∷ items) n h = (by_value values item.value h.1, flat_shallow law values key_kind value_kind items n h.2)
  where
    by_value : (values : Bool) (o : Option (List ℕ)) → FlatStands values value_kind o → IsShallow (suc n) o
    by_value true None f = absurd f
    by_value true (Some text) f = leaf_walk n (value_graph text).nodes (value_graph text).root text (value_leafy law value_kind text f).at
    by_value false None f = tt
    by_value false (Some text) f = absurd f

pub flat_spelled : WrittenReadsBack → FlatIsSpelled
flat_spelled law class bucket flat =
    let values = (flat_stand (has_values class.kind) class.key class.value bucket.items flat).1 in
    let shallow = flat_shallow law (has_values class.kind) class.key class.value bucket.items 198 flat in
    let deep = written_shallow law class bucket values shallow in
    let piece = bucket_piece law class bucket.items bucket.next flat in
    λ k. cond (deep k) (Err errors.TooDeep) (Ok (piece k).text)

pub texts_few : (items : List items.Item) → length (item_texts items) ≤ 2 * length items
texts_few [] = omega arith
texts_few (item ∷ items) = let rest = texts_few items in by_value item.value rest
  where
    by_value : (o : Option (List ℕ)) → length (item_texts items) ≤ 2 * length items → suc (length (value_text o (item_texts items))) ≤ 2 * suc (length items)
    by_value None rest = omega (arith, rest)
    by_value (Some text) rest = omega (arith, rest)

pub flat_few : WrittenReadsBack → FlatMakesFew
flat_few law class bucket flat =
    let made = ap (λ (p : Piece). p.made) (bucket_piece law class bucket.items bucket.next flat) in
    let few = by_next bucket.next (texts_few bucket.items) in
    omega (arith, made, few)
  where
    by_next : (next : Option ℕ) → length (item_texts bucket.items) ≤ 2 * length bucket.items → made_of bucket.items next ≤ 2 * length bucket.items + 6
    by_next None h = omega (arith, h)
    by_next (Some oid) h = omega (arith, h)
