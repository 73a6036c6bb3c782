-- The two laws of keys, of values and of small numbers: what is read is spelled so, and what is spelled so is read.
use Rattle.std.proofs.Common.{◌≡◌, ℕ, ◌+◌, ◌^◌, ◌<◌, List, [], ◌∷◌, ◌++◌, Some, Ok, Err, refl, sym, ap, subst, ◌∙◌, ltb, arith}
use Rattle.std.specs.Prelude.{pos, negsuc, slice_get, decimal}
use Rattle.std.proofs.lemmas.Bool.{ltb-true, lt-ltb}
use Rattle.std.proofs.lemmas.Option.{same_Some, cond_some}
use Rattle.pickle_writing.specs.declared.depth.TheConstants.{WALK_LIMIT}
use Rattle.pickle_graph.specs.declared.node.Node.{Node}
use Rattle.pickle_graph.specs.declared.node.Node.TheVariants as kinds
use Rattle.pickle_graph.specs.Graph.{Graph, IsSigned128}
use Rattle.pickle_writing.specs.Spelling.{Spelled, spelling_of}
use Rattle.btree_family.specs.declared.key.Key.{Key}
use Rattle.btree_family.specs.declared.key.Key.TheVariants as keys
use Rattle.zb_ids.specs.HexLaws.{from_bind}
use Rattle.literal_reading.specs.Exact.{graph_spelled}
use Rattle.zb_literals.specs.Graphs.{last_of, with_value, with_values, with_pairs, named_values, named_pairs, graph_of}
use Rattle.literal_reading.specs.Literals.{IsLiteral}
use Rattle.zb_literals.specs.Texts.{leaf_literal}
use Rattle.zb_literals.specs.Values.{Value, leaf, tuple, list, dict, reference, IsValue, literal_text}
use Rattle.zb_script.specs.Keys.{key_node, IsKey, key_literal, text_or_none}
use Rattle.zb_script.specs.Spelling.{IsValueText}
use Rattle.zb_script.specs.Reading.{key_in, key_at, key_field_at, small_in, small_at, value_at, literal_cut}
use Rattle.zb_script.proofs.GapLaws.{IsWord, literal_word, word_cut, cut_is}
use Rattle.zb_script.proofs.FieldLaws.{Exact, last_node, root_of}

-- ---- keys

node_key : (node : Node) (key : Key) → key_in (Some node) ≡ Some key → node ≡ key_node key
node_key (kinds.Text text) key e = ap key_node (same_Some (keys.Text text) key e)
node_key (kinds.Bytes bytes) key e = ap key_node (same_Some (keys.Bytes bytes) key e)
node_key (kinds.Number z) key e = ap key_node (same_Some (keys.Number z) key e)
node_key kinds.None key e = absurd cc
node_key (kinds.Bool b) key e = absurd cc
node_key (kinds.Wide bytes) key e = absurd cc
node_key (kinds.Float bytes) key e = absurd cc
node_key (kinds.OldText bytes) key e = absurd cc
node_key (kinds.Tuple items) key e = absurd cc
node_key (kinds.List items) key e = absurd cc
node_key (kinds.Dict pairs) key e = absurd cc
node_key (kinds.Global a b) key e = absurd cc
node_key (kinds.Reference id) key e = absurd cc
node_key (kinds.Object a b c d) key e = absurd cc

-- the graph of a tree has a key as its root where the tree is that key
root_key : (v : Value) (key : Key) → key_in (root_of v) ≡ Some key → v ≡ leaf (key_node key)
root_key (leaf node) key e = ap leaf (node_key node key e)
root_key (tuple vs) key e = let last = last_node (with_values [] vs) (kinds.Tuple (named_values [] vs)) in let never = sym (ap key_in last) ∙ e in absurd cc
root_key (list vs) key e = let last = last_node (with_values [] vs) (kinds.List (named_values [] vs)) in let never = sym (ap key_in last) ∙ e in absurd cc
root_key (dict ps) key e = let last = last_node (with_pairs [] ps) (kinds.Dict (named_pairs [] ps)) in let never = sym (ap key_in last) ∙ e in absurd cc
root_key (reference v) key e = let last = last_node (with_value [] v) (kinds.Reference (last_of (with_value [] v))) in let never = sym (ap key_in last) ∙ e in absurd cc

leaf_of_key : (key : Key) → IsKey key → leaf_literal (key_node key) ≡ key_literal key
leaf_of_key (keys.Text text) h = rw h.utf8 refl
leaf_of_key (keys.Bytes bytes) h = refl
leaf_of_key (keys.Number z) h = refl

pub record TakesKey (bytes : List ℕ) (key : Key) : Type 0 where
  pub is_key : IsKey key
  pub is : bytes ≡ key_literal key

spelled_key : (v : Value) (bytes : List ℕ) (key : Key) → IsValue (WALK_LIMIT + 1) v → bytes ≡ literal_text v → v ≡ leaf (key_node key) → TakesKey bytes key
spelled_key v bytes key each is same =
    let held : IsKey key = subst (IsValue (WALK_LIMIT + 1)) same each in
    record { is_key = held; is = is ∙ ap literal_text same ∙ leaf_of_key key held }

pub key_takes : Exact → (bytes : List ℕ) (key : Key) → key_at bytes ≡ Some key → TakesKey bytes key
unfolding key_at
key_takes exact bytes key e =
    from_bind (graph_spelled bytes) _ key e (λ graph at at_key.
    let h = exact.spelled bytes graph at in
    let rooted : key_in (root_of h.tree) ≡ Some key = subst (λ (g : Graph). key_in (slice_get g.nodes g.root) ≡ Some key) h.stands at_key in
    spelled_key h.tree bytes key h.each h.text (root_key h.tree key rooted))

key_is_literal : (key : Key) → IsKey key → IsLiteral (key_literal key) (graph_of (leaf (key_node key)))
key_is_literal key h = record { tree = leaf (key_node key); each = h; text = sym (leaf_of_key key h); stands = refl }

in_node : (key : Key) → key_in (Some (key_node key)) ≡ Some key
in_node (keys.Text text) = refl
in_node (keys.Bytes bytes) = refl
in_node (keys.Number z) = refl

pub key_again : Exact → (key : Key) → IsKey key → key_at (key_literal key) ≡ Some key
unfolding key_at
key_again exact key h = rw (exact.literal (key_literal key) (graph_of (leaf (key_node key))) (key_is_literal key h)) (in_node key)

pub key_word : (key : Key) → IsKey key → IsWord (key_literal key)
key_word key h = subst IsWord (leaf_of_key key h) (literal_word (leaf (key_node key)) (WALK_LIMIT + 1) h)

pub record TakesKeyField (bytes : List ℕ) (x : Key × List ℕ) : Type 0 where
  pub is_key : IsKey x.0
  pub is : bytes ≡ key_literal x.0 ++ 32 ∷ x.1

pub key_field_takes : Exact → (bytes : List ℕ) (x : Key × List ℕ) → key_field_at bytes ≡ Some x → TakesKeyField bytes x
unfolding key_field_at
key_field_takes exact bytes x e =
    from_bind (literal_cut bytes) _ x e (λ word at_word e1.
    from_bind (key_at word.0) _ x e1 (λ key at_key is.
    let t = key_takes exact word.0 key at_key in
    subst (TakesKeyField bytes) (same_Some (key, word.1) x is) (record { is_key = t.is_key; is = cut_is bytes word at_word ∙ ap (λ (y : List ℕ). y ++ 32 ∷ word.1) t.is })))

pub key_field_again : Exact → (key : Key) (rest : List ℕ) → IsKey key → key_field_at (key_literal key ++ 32 ∷ rest) ≡ Some (key, rest)
unfolding key_field_at
key_field_again exact key rest h = rw (word_cut (key_literal key) rest (key_word key h), key_again exact key h) refl

-- ---- small numbers

pub record TakesSmall (bytes : List ℕ) (number : ℕ) : Type 0 where
  pub small : number < 2 ^ 32
  pub is : bytes ≡ decimal number

small_key : (bytes : List ℕ) (key : Key) (number : ℕ) → small_in key ≡ Some number → bytes ≡ key_literal key → TakesSmall bytes number
small_key bytes (keys.Text text) number e is = absurd cc
small_key bytes (keys.Bytes text) number e is = absurd cc
small_key bytes (keys.Number (negsuc n)) number e is = absurd cc
small_key bytes (keys.Number (pos n)) number e is =
    let p = cond_some (ltb n (2 ^ 32)) n number e in
    subst (TakesSmall bytes) p.1 (record { small = ltb-true n (2 ^ 32) p.0; is = is })

pub small_takes : Exact → (bytes : List ℕ) (number : ℕ) → small_at bytes ≡ Some number → TakesSmall bytes number
unfolding small_at
small_takes exact bytes number e =
    from_bind (key_at bytes) _ number e (λ key at is.
    let t = key_takes exact bytes key at in
    small_key bytes key number is t.is)

small_signed : (n : ℕ) → n < 2 ^ 32 → IsSigned128 (pos n)
small_signed n h = record { low = grind arith; high = grind (arith, h) }

pub small_again : Exact → (number : ℕ) → number < 2 ^ 32 → small_at (decimal number) ≡ Some number
unfolding small_at
small_again exact number h =
    let read : key_at (decimal number) ≡ Some (keys.Number (pos number)) = key_again exact (keys.Number (pos number)) (small_signed number h) in
    rw (read, lt-ltb number (2 ^ 32) h) refl

-- ---- values

spelled_some : (spelled : Spelled) (bytes : List ℕ) → text_or_none spelled ≡ Some bytes → spelled ≡ Ok bytes
spelled_some (Ok text) bytes e = ap (λ (x : List ℕ). Ok x) (same_Some text bytes e)
spelled_some (Err error) bytes e = absurd cc

pub value_takes : Exact → (text bytes : List ℕ) → value_at text ≡ Some bytes → IsValueText text bytes
unfolding value_at
value_takes exact text bytes e =
    from_bind (graph_spelled text) _ bytes e (λ graph at is.
    record { graph = graph; literal = exact.spelled text graph at; spelled = spelled_some (spelling_of graph.nodes graph.root) bytes is })

pub value_again : Exact → (text bytes : List ℕ) → IsValueText text bytes → value_at text ≡ Some bytes
unfolding value_at
value_again exact text bytes h = rw (exact.literal text h.graph h.literal, h.spelled) refl
