-- The graph of a tree: its numbers name nodes, and no walk from its root is too long.
use Rattle.std.proofs.Common.{◌≡◌, ℕ, zero, suc, ◌^◌, ◌<◌, ◌≤◌, false, List, [], ◌∷◌, ◌++◌, length, Some, refl, sym, ap, subst, ◌∙◌, append_assoc, append-nil, arith}
use Rattle.std.specs.Prelude.{slice_get}
use Rattle.std.proofs.lemmas.List.{length-append}
use Rattle.pickle_graph.specs.declared.node.Node.{Node}
use Rattle.pickle_graph.specs.declared.node.Node.TheVariants as kinds
use Rattle.pickle_graph.specs.declared.parts.Part.TheVariants.{Byte}
use Rattle.pickle_graph.specs.Graph.{AllBelow, PairsBelow, IsNode, AreNodes, IsGraph, IsSigned128, IsWide, IsGlobal}
use Rattle.pickle_ops.specs.Fits.{IsShortText}
use Rattle.pickle_graph.specs.Parts.{item_parts, pair_parts, tuple_parts, list_parts, dict_parts, items_in, items_of}
use Rattle.pickle_graph.specs.Walks.{some_item, has_walk}
use Rattle.zb_literals.specs.Values.{Value, leaf, tuple, list, dict, reference, Values, no_values, value, Pairs, no_pairs, pair, IsLeaf, IsValue, AreValues, ArePairs}
use Rattle.zb_literals.specs.Graphs.{last_of, with_value, with_values, with_pairs, named_values, named_pairs}

-- ---- nodes that name those below a number

abbrev IsPart : ℕ → Node → Type 0
IsPart n kinds.None = Unit {0}
IsPart n (kinds.Bool b) = Unit {0}
IsPart n (kinds.Number number) = IsSigned128 number
IsPart n (kinds.Wide bytes) = IsWide bytes
IsPart n (kinds.Float bytes) = length bytes ≡ 8
IsPart n (kinds.Bytes bytes) = length bytes < 2 ^ 32
IsPart n (kinds.OldText bytes) = length bytes < 2 ^ 31
IsPart n (kinds.Text bytes) = IsShortText bytes
IsPart n (kinds.Tuple items) = AllBelow n items
IsPart n (kinds.List items) = AllBelow n items
IsPart n (kinds.Dict pairs) = PairsBelow n pairs
IsPart n (kinds.Global a b) = IsGlobal a b
IsPart n (kinds.Reference id) = id < n
IsPart n (kinds.Object a b c d) = ⊥

abbrev AreParts : ℕ → List Node → Type 0
AreParts n [] = Unit {0}
AreParts n (x ∷ xs) = IsPart n x × AreParts n xs

all_below : (m n : ℕ) (xs : List ℕ) → m ≤ n → AllBelow m xs → AllBelow n xs
all_below m n [] le h = tt
all_below m n (x ∷ xs) le h = (omega (arith, h.0, le), all_below m n xs le h.1)

pairs_below : (m n : ℕ) (xs : List (ℕ × ℕ)) → m ≤ n → PairsBelow m xs → PairsBelow n xs
pairs_below m n [] le h = tt
pairs_below m n (x ∷ xs) le h = (omega (arith, h.0, le), omega (arith, h.1, le), pairs_below m n xs le h.2)

part_more : (m n : ℕ) (x : Node) → m ≤ n → IsPart m x → IsPart n x
part_more m n kinds.None le h = h
part_more m n (kinds.Bool b) le h = h
part_more m n (kinds.Number z) le h = h
part_more m n (kinds.Wide bytes) le h = h
part_more m n (kinds.Float bytes) le h = h
part_more m n (kinds.Bytes bytes) le h = h
part_more m n (kinds.OldText bytes) le h = h
part_more m n (kinds.Text bytes) le h = h
part_more m n (kinds.Tuple items) le h = all_below m n items le h
part_more m n (kinds.List items) le h = all_below m n items le h
part_more m n (kinds.Dict pairs) le h = pairs_below m n pairs le h
part_more m n (kinds.Global a b) le h = h
part_more m n (kinds.Reference id) le h = omega (arith, h, le)
part_more m n (kinds.Object a b c d) le h = absurd h

parts_more : (m n : ℕ) (xs : List Node) → m ≤ n → AreParts m xs → AreParts n xs
parts_more m n [] le h = tt
parts_more m n (x ∷ xs) le h = (part_more m n x le h.0, parts_more m n xs le h.1)

parts_append : (n : ℕ) (xs ys : List Node) → AreParts n xs → AreParts n ys → AreParts n (xs ++ ys)
parts_append n [] ys h k = k
parts_append n (x ∷ xs) ys h k = (h.0, parts_append n xs ys h.1 k)

part_node : (ns : List Node) (x : Node) → IsPart (length ns) x → IsNode ns x
part_node ns kinds.None h = h
part_node ns (kinds.Bool b) h = h
part_node ns (kinds.Number z) h = h
part_node ns (kinds.Wide bytes) h = h
part_node ns (kinds.Float bytes) h = h
part_node ns (kinds.Bytes bytes) h = h
part_node ns (kinds.OldText bytes) h = h
part_node ns (kinds.Text bytes) h = h
part_node ns (kinds.Tuple items) h = h
part_node ns (kinds.List items) h = h
part_node ns (kinds.Dict pairs) h = h
part_node ns (kinds.Global a b) h = h
part_node ns (kinds.Reference id) h = h
part_node ns (kinds.Object a b c d) h = absurd h

parts_nodes : (ns xs : List Node) → AreParts (length ns) xs → AreNodes ns xs
parts_nodes ns [] h = tt
parts_nodes ns (x ∷ xs) h = (part_node ns x h.0, parts_nodes ns xs h.1)

leaf_part : (n : ℕ) (x : Node) → IsLeaf x → IsPart n x
leaf_part n kinds.None h = h
leaf_part n (kinds.Bool b) h = h
leaf_part n (kinds.Number z) h = h
leaf_part n (kinds.Wide bytes) h = h.1
leaf_part n (kinds.Float bytes) h = h.1
leaf_part n (kinds.Bytes bytes) h = h.1
leaf_part n (kinds.OldText bytes) h = h.1
leaf_part n (kinds.Text bytes) h = h
leaf_part n (kinds.Tuple items) h = absurd h
leaf_part n (kinds.List items) h = absurd h
leaf_part n (kinds.Dict pairs) h = absurd h
leaf_part n (kinds.Global a b) h = h.2
leaf_part n (kinds.Reference id) h = absurd h
leaf_part n (kinds.Object a b c d) h = absurd h

-- nodes with more behind them
pub record Grows (nodes all : List Node) : Type 0 where
  pub more : List Node
  pub is : all ≡ nodes ++ more

pub grows_all : (a b c : List Node) → Grows a b → Grows b c → Grows a c
grows_all a b c one two = record { more = one.more ++ two.more; is = two.is ∙ ap (λ (x : List Node). x ++ two.more) one.is ∙ append_assoc a one.more two.more }

grows_one : (a b : List Node) (x : Node) → Grows a b → Grows a (b ++ x ∷ [])
grows_one a b x one = record { more = one.more ++ x ∷ []; is = ap (λ (y : List Node). y ++ x ∷ []) one.is ∙ append_assoc a one.more (x ∷ []) }

grows_same : (a : List Node) → Grows a a
grows_same a = record { more = []; is = sym (append-nil a) }

pub grows_length : (a b : List Node) → Grows a b → length a ≤ length b
grows_length a b g = omega (arith, ap length g.is, length-append a g.more)

mutual
  pub value_grows : (v : Value) (nodes : List Node) → Grows nodes (with_value nodes v)
  value_grows (leaf x) nodes = record { more = x ∷ []; is = refl }
  value_grows (tuple vs) nodes = grows_one nodes (with_values nodes vs) _ (values_grow vs nodes)
  value_grows (list vs) nodes = grows_one nodes (with_values nodes vs) _ (values_grow vs nodes)
  value_grows (dict ps) nodes = grows_one nodes (with_pairs nodes ps) _ (pairs_grow ps nodes)
  value_grows (reference v) nodes = grows_one nodes (with_value nodes v) _ (value_grows v nodes)

  pub values_grow : (vs : Values) (nodes : List Node) → Grows nodes (with_values nodes vs)
  values_grow no_values nodes = grows_same nodes
  values_grow (value v vs) nodes = grows_all nodes (with_value nodes v) (with_values (with_value nodes v) vs) (value_grows v nodes) (values_grow vs (with_value nodes v))

  pub pairs_grow : (ps : Pairs) (nodes : List Node) → Grows nodes (with_pairs nodes ps)
  pairs_grow no_pairs nodes = grows_same nodes
  pairs_grow (pair k v ps) nodes =
      grows_all nodes (with_value nodes k) (with_pairs (with_value (with_value nodes k) v) ps) (value_grows k nodes)
      (grows_all (with_value nodes k) (with_value (with_value nodes k) v) (with_pairs (with_value (with_value nodes k) v) ps) (value_grows v (with_value nodes k)) (pairs_grow ps (with_value (with_value nodes k) v)))

value_some : (v : Value) (nodes : List Node) → 0 < length (with_value nodes v)
value_some (leaf x) nodes = omega (arith, length-append nodes (x ∷ []))
value_some (tuple vs) nodes = omega (arith, length-append (with_values nodes vs) (kinds.Tuple (named_values nodes vs) ∷ []))
value_some (list vs) nodes = omega (arith, length-append (with_values nodes vs) (kinds.List (named_values nodes vs) ∷ []))
value_some (dict ps) nodes = omega (arith, length-append (with_pairs nodes ps) (kinds.Dict (named_pairs nodes ps) ∷ []))
value_some (reference v) nodes = omega (arith, length-append (with_value nodes v) (kinds.Reference (last_of (with_value nodes v)) ∷ []))

named_below : (vs : Values) (nodes : List Node) → AllBelow (length (with_values nodes vs)) (named_values nodes vs)
named_below no_values nodes = tt
named_below (value v vs) nodes =
    (omega (arith, value_some v nodes, grows_length (with_value nodes v) (with_values (with_value nodes v) vs) (values_grow vs (with_value nodes v))), named_below vs (with_value nodes v))

named_pairs_below : (ps : Pairs) (nodes : List Node) → PairsBelow (length (with_pairs nodes ps)) (named_pairs nodes ps)
named_pairs_below no_pairs nodes = tt
named_pairs_below (pair k v ps) nodes =
    let key = grows_length (with_value nodes k) (with_value (with_value nodes k) v) (value_grows v (with_value nodes k)) in
    let rest = grows_length (with_value (with_value nodes k) v) (with_pairs (with_value (with_value nodes k) v) ps) (pairs_grow ps (with_value (with_value nodes k) v)) in
    (omega (arith, value_some k nodes, key, rest), omega (arith, value_some v (with_value nodes k), rest), named_pairs_below ps (with_value (with_value nodes k) v))

-- one more node behind those of its items
with_one : (xs : List Node) (x : Node) → AreParts (length xs) xs → IsPart (length xs) x → AreParts (length (xs ++ x ∷ [])) (xs ++ x ∷ [])
with_one xs x h k =
    let longer : length xs ≤ length (xs ++ x ∷ []) = omega (arith, length-append xs (x ∷ [])) in
    parts_append (length (xs ++ x ∷ [])) xs (x ∷ []) (parts_more (length xs) (length (xs ++ x ∷ [])) xs longer h) (part_more (length xs) (length (xs ++ x ∷ [])) x longer k, tt)

mutual
  value_parts : (v : Value) (levels : ℕ) (nodes : List Node) → IsValue levels v → AreParts (length nodes) nodes → AreParts (length (with_value nodes v)) (with_value nodes v)
  value_parts v zero nodes is h = absurd is
  value_parts (leaf x) (suc levels) nodes is h = with_one nodes x h (leaf_part (length nodes) x is)
  value_parts (tuple vs) (suc levels) nodes is h = with_one (with_values nodes vs) (kinds.Tuple (named_values nodes vs)) (values_parts vs levels nodes is h) (named_below vs nodes)
  value_parts (list vs) (suc levels) nodes is h = with_one (with_values nodes vs) (kinds.List (named_values nodes vs)) (values_parts vs levels nodes is h) (named_below vs nodes)
  value_parts (dict ps) (suc levels) nodes is h = with_one (with_pairs nodes ps) (kinds.Dict (named_pairs nodes ps)) (pairs_parts ps levels nodes is h) (named_pairs_below ps nodes)
  value_parts (reference v) (suc levels) nodes is h = with_one (with_value nodes v) (kinds.Reference (last_of (with_value nodes v))) (value_parts v levels nodes is h) (omega (arith, value_some v nodes))

  values_parts : (vs : Values) (levels : ℕ) (nodes : List Node) → AreValues levels vs → AreParts (length nodes) nodes → AreParts (length (with_values nodes vs)) (with_values nodes vs)
  values_parts no_values levels nodes are h = h
  values_parts (value v vs) levels nodes are h = values_parts vs levels (with_value nodes v) are.1 (value_parts v levels nodes are.0 h)

  pairs_parts : (ps : Pairs) (levels : ℕ) (nodes : List Node) → ArePairs levels ps → AreParts (length nodes) nodes → AreParts (length (with_pairs nodes ps)) (with_pairs nodes ps)
  pairs_parts no_pairs levels nodes are h = h
  pairs_parts (pair k v ps) levels nodes are h =
      pairs_parts ps levels (with_value (with_value nodes k) v) are.2 (value_parts v levels (with_value nodes k) are.1 (value_parts k levels nodes are.0 h))

pub value_graph : (levels : ℕ) (v : Value) → IsValue levels v → IsGraph (with_value [] v) (last_of (with_value [] v))
value_graph levels v is = record {
  each = parts_nodes (with_value [] v) (with_value [] v) (value_parts v levels [] is tt);
  rooted = omega (arith, value_some v []);
}

-- ---- walks

pub node_at : (xs more : List Node) (x : Node) → slice_get ((xs ++ x ∷ []) ++ more) (last_of (xs ++ x ∷ [])) ≡ Some x
node_at xs more x =
    ap (λ (n : ℕ). slice_get ((xs ++ x ∷ []) ++ more) n) (omega (arith, length-append xs (x ∷ [])))
    ∙ ap (λ (ns : List Node). slice_get ns (length xs)) (append_assoc xs (x ∷ []) more) ∙ at_end xs
  where
    at_end : (ys : List Node) → slice_get (ys ++ x ∷ more) (length ys) ≡ Some x
    at_end [] = refl
    at_end (y ∷ ys) = at_end ys

byte_end : (xs : List ℕ) (b : ℕ) → items_in (item_parts xs ++ Byte b ∷ []) ≡ xs
byte_end [] b = refl
byte_end (x ∷ xs) b = ap (λ (y : List ℕ). x ∷ y) (byte_end xs b)

tuple_items : (xs : List ℕ) → items_in (tuple_parts xs) ≡ xs
tuple_items [] = refl
tuple_items (a ∷ []) = refl
tuple_items (a ∷ b ∷ []) = refl
tuple_items (a ∷ b ∷ c ∷ []) = refl
tuple_items (a ∷ b ∷ c ∷ d ∷ xs) = byte_end (a ∷ b ∷ c ∷ d ∷ xs) 0x74

list_items : (xs : List ℕ) → items_in (list_parts xs) ≡ xs
list_items [] = refl
list_items (a ∷ []) = refl
list_items (a ∷ b ∷ xs) = byte_end (a ∷ b ∷ xs) 0x65

abbrev flat : List (ℕ × ℕ) → List ℕ
flat [] = []
flat (x ∷ xs) = x.0 ∷ x.1 ∷ flat xs

pairs_end : (xs : List (ℕ × ℕ)) (b : ℕ) → items_in (pair_parts xs ++ Byte b ∷ []) ≡ flat xs
pairs_end [] b = refl
pairs_end (x ∷ xs) b = ap (λ (y : List ℕ). x.0 ∷ x.1 ∷ y) (pairs_end xs b)

dict_items : (xs : List (ℕ × ℕ)) → items_in (dict_parts xs) ≡ flat xs
dict_items [] = refl
dict_items (a ∷ []) = refl
dict_items (a ∷ b ∷ xs) = pairs_end (a ∷ b ∷ xs) 0x75

-- no walk of so many edges begins with one to these
abbrev NoWalks : ℕ → List Node → List ℕ → Type 0
NoWalks n ns items = some_item (has_walk n ns) items ≡ false

no_walk : (n : ℕ) (ns : List Node) (m : ℕ) (x : Node) (items : List ℕ) → slice_get ns m ≡ Some x → items_of (Some x) ≡ items → NoWalks n ns items → has_walk (suc n) ns m ≡ false
unfolding has_walk
no_walk n ns m x items e f h = rw (e, f) h

leaf_items : (x : Node) → IsLeaf x → items_of (Some x) ≡ []
leaf_items kinds.None h = refl
leaf_items (kinds.Bool b) h = refl
leaf_items (kinds.Number z) h = refl
leaf_items (kinds.Wide bytes) h = refl
leaf_items (kinds.Float bytes) h = refl
leaf_items (kinds.Bytes bytes) h = refl
leaf_items (kinds.OldText bytes) h = refl
leaf_items (kinds.Text bytes) h = refl
leaf_items (kinds.Tuple items) h = absurd h
leaf_items (kinds.List items) h = absurd h
leaf_items (kinds.Dict pairs) h = absurd h
leaf_items (kinds.Global a b) h = refl
leaf_items (kinds.Reference id) h = absurd h
leaf_items (kinds.Object a b c d) h = absurd h

-- the items are among the front
pub within : (n : ℕ) (xs more : List Node) (x : Node) (items : List ℕ) → NoWalks n (xs ++ (x ∷ more)) items → NoWalks n ((xs ++ x ∷ []) ++ more) items
within n xs more x items h = subst (λ (ns : List Node). NoWalks n ns items) (sym (append_assoc xs (x ∷ []) more)) h

only_one : (n : ℕ) (ns : List Node) (m : ℕ) → has_walk n ns m ≡ false → NoWalks n ns (m ∷ [])
only_one n ns m h = rw h refl

one_and_more : (n : ℕ) (ns : List Node) (m : ℕ) (items : List ℕ) → has_walk n ns m ≡ false → NoWalks n ns items → NoWalks n ns (m ∷ items)
one_and_more n ns m items h k = rw h k

pub in_front : (n : ℕ) (xs all more : List Node) (m : ℕ) (g : Grows xs all) → has_walk n (xs ++ (g.more ++ more)) m ≡ false → has_walk n (all ++ more) m ≡ false
in_front n xs all more m g h = ap (λ (ns : List Node). has_walk n ns m) (ap (λ (x : List Node). x ++ more) g.is ∙ append_assoc xs g.more more) ∙ h

mutual
  value_walks : (v : Value) (levels : ℕ) (nodes more : List Node) → IsValue levels v → has_walk levels (with_value nodes v ++ more) (last_of (with_value nodes v)) ≡ false
  value_walks v zero nodes more is = absurd is
  value_walks (leaf x) (suc levels) nodes more is = no_walk levels _ _ x [] (node_at nodes more x) (leaf_items x is) refl
  value_walks (tuple vs) (suc levels) nodes more is =
      let x : Node = kinds.Tuple (named_values nodes vs) in
      no_walk levels _ _ x (named_values nodes vs) (node_at (with_values nodes vs) more x) (tuple_items (named_values nodes vs))
      (within levels (with_values nodes vs) more x (named_values nodes vs) (values_walks vs levels nodes (x ∷ more) is))
  value_walks (list vs) (suc levels) nodes more is =
      let x : Node = kinds.List (named_values nodes vs) in
      no_walk levels _ _ x (named_values nodes vs) (node_at (with_values nodes vs) more x) (list_items (named_values nodes vs))
      (within levels (with_values nodes vs) more x (named_values nodes vs) (values_walks vs levels nodes (x ∷ more) is))
  value_walks (dict ps) (suc levels) nodes more is =
      let x : Node = kinds.Dict (named_pairs nodes ps) in
      no_walk levels _ _ x (flat (named_pairs nodes ps)) (node_at (with_pairs nodes ps) more x) (dict_items (named_pairs nodes ps))
      (within levels (with_pairs nodes ps) more x (flat (named_pairs nodes ps)) (pairs_walks ps levels nodes (x ∷ more) is))
  value_walks (reference v) (suc levels) nodes more is =
      let x : Node = kinds.Reference (last_of (with_value nodes v)) in
      no_walk levels _ _ x (last_of (with_value nodes v) ∷ []) (node_at (with_value nodes v) more x) refl
      (within levels (with_value nodes v) more x (last_of (with_value nodes v) ∷ []) (only_one levels (with_value nodes v ++ (x ∷ more)) (last_of (with_value nodes v)) (value_walks v levels nodes (x ∷ more) is)))

  values_walks : (vs : Values) (levels : ℕ) (nodes more : List Node) → AreValues levels vs → NoWalks levels (with_values nodes vs ++ more) (named_values nodes vs)
  values_walks no_values levels nodes more are = refl
  values_walks (value v vs) levels nodes more are =
      let g = values_grow vs (with_value nodes v) in
      one_and_more levels (with_values (with_value nodes v) vs ++ more) (last_of (with_value nodes v)) (named_values (with_value nodes v) vs)
      (in_front levels (with_value nodes v) (with_values (with_value nodes v) vs) more (last_of (with_value nodes v)) g (value_walks v levels nodes (g.more ++ more) are.0))
      (values_walks vs levels (with_value nodes v) more are.1)

  pairs_walks : (ps : Pairs) (levels : ℕ) (nodes more : List Node) → ArePairs levels ps → NoWalks levels (with_pairs nodes ps ++ more) (flat (named_pairs nodes ps))
  pairs_walks no_pairs levels nodes more are = refl
  pairs_walks (pair k v ps) levels nodes more are =
      let held = with_value (with_value nodes k) v in
      let g = pairs_grow ps held in
      let f = grows_all (with_value nodes k) held (with_pairs held ps) (value_grows v (with_value nodes k)) g in
      one_and_more levels (with_pairs held ps ++ more) (last_of (with_value nodes k)) (last_of held ∷ flat (named_pairs held ps))
      (in_front levels (with_value nodes k) (with_pairs held ps) more (last_of (with_value nodes k)) f (value_walks k levels nodes (f.more ++ more) are.0))
      (one_and_more levels (with_pairs held ps ++ more) (last_of held) (flat (named_pairs held ps))
      (in_front levels held (with_pairs held ps) more (last_of held) g (value_walks v levels (with_value nodes k) (g.more ++ more) are.1))
      (pairs_walks ps levels held more are.2))

pub value_shallow : (levels : ℕ) (v : Value) → IsValue levels v → has_walk levels (with_value [] v) (last_of (with_value [] v)) ≡ false
value_shallow levels v is = ap (λ (ns : List Node). has_walk levels ns (last_of (with_value [] v))) (sym (append-nil (with_value [] v))) ∙ value_walks v levels [] [] is
