-- The texts of graphs that are alike have alike tokens.
use Rattle.std.proofs.Common.{◌≡◌, ℕ, zero, suc, ◌+◌, Bool, true, false, cond, List, [], ◌∷◌, ◌++◌, length, Option, Some, None, Ok, Err, refl, sym, ◌∙◌, ap, subst, eqb, inl, inr}
use Rattle.std.specs.Prelude.{slice_get, nat_lt}
use Rattle.pickle_ops.specs.declared.table.Op.TheVariants as ops
use Rattle.pickle_graph.specs.declared.node.Act.{Act}
use Rattle.pickle_graph.specs.declared.node.Act.TheVariants.{Append, Set, Build}
use Rattle.pickle_graph.specs.declared.node.Node.{Node}
use Rattle.pickle_graph.specs.declared.node.Node.TheVariants as kinds
use Rattle.pickle_graph.specs.declared.parts.Part.{Part}
use Rattle.pickle_graph.specs.declared.parts.Part.TheVariants.{Byte, Item}
use Rattle.pickle_writing.specs.declared.depth.TheConstants.{WALK_LIMIT}
use Rattle.pickle_writing.specs.declared.error.WriteError.TheVariants as errors
use Rattle.pickle_graph.specs.Graph.{Graph, IsGraph, IsNode, AreNodes}
use Rattle.pickle_graph.specs.Parts.{parts_of, item_parts, pair_parts, act_parts, is_held, items_in, items_of, items_at, object_byte, tuple_parts, list_parts, dict_parts}
use Rattle.pickle_writing.specs.Shared.{times, ends_from, is_shared}
use Rattle.pickle_writing.specs.Spelling.{Piece, put_number, put_behind, held_piece, parts_piece, node_piece, piece_of, root_piece, put_text, get_text, leaf_text, pickle_text}
use Rattle.pickle_graph.specs.Walks.{some_item, has_walk, leads}
use Rattle.zb_record.specs.Alike.{NodeAlike, NodesAlike, GraphsAlike}
use Rattle.zb_record.proofs.Tokens.{Tok, texts}
use Rattle.zb_record.proofs.Alike.{ToksAlike, TextsAlike, tok_same, texts_none, texts_then, texts_one}
use Rattle.zb_record.proofs.Leaves.{TokOf, alone, leaf_tok, eight_tok, eight_text, put_tok, get_tok, version_tok}

-- ---- nodes

abbrev pub OptAlike : Option Node → Option Node → Type 0
OptAlike None None = Unit {0}
OptAlike (Some x) (Some y) = NodeAlike x y
OptAlike _ _ = ⊥

pub nodes_same : (ns : List Node) → NodesAlike ns ns
nodes_same [] = tt
nodes_same (x ∷ xs) = (inl refl, nodes_same xs)

pub as_many : (ns ms : List Node) → NodesAlike ns ms → length ns ≡ length ms
as_many [] [] h = refl
as_many (x ∷ xs) (y ∷ ys) h = ap suc (as_many xs ys h.1)
as_many [] (y ∷ ys) h = absurd h
as_many (x ∷ xs) [] h = absurd h

pub get_alike : (ns ms : List Node) (i : ℕ) → NodesAlike ns ms → OptAlike (slice_get ns i) (slice_get ms i)
get_alike [] [] i h = tt
get_alike (x ∷ xs) (y ∷ ys) zero h = h.0
get_alike (x ∷ xs) (y ∷ ys) (suc i) h = get_alike xs ys i h.1
get_alike [] (y ∷ ys) i h = absurd h
get_alike (x ∷ xs) [] i h = absurd h

parts_alike : (x y : Node) → NodeAlike x y → parts_of x ≡ parts_of y
parts_alike x y (inl e) = ap parts_of e
parts_alike x y (inr e) = ap parts_of e.first ∙ sym (ap parts_of e.second)

held_alike : (x y : Node) → NodeAlike x y → is_held x ≡ is_held y
held_alike x y (inl e) = ap is_held e
held_alike x y (inr e) = ap is_held e.first ∙ sym (ap is_held e.second)

items_alike : (o p : Option Node) → OptAlike o p → items_of o ≡ items_of p
items_alike None None h = refl
items_alike (Some x) (Some y) h = ap items_in (parts_alike x y h)
items_alike None (Some y) h = absurd h
items_alike (Some x) None h = absurd h

-- ---- walks

module _ (ns ms : List Node) (alike : NodesAlike ns ms) where
  items_same : (i : ℕ) → items_at ns i ≡ items_at ms i
  items_same i = items_alike (slice_get ns i) (slice_get ms i) (get_alike ns ms i alike)

  pub walks_same : (n i : ℕ) → has_walk n ns i ≡ has_walk n ms i
  unfolding has_walk
  walks_same zero i = refl
  walks_same (suc n) i = λ k. some_item (λ m. walks_same n m k) (items_same i k)

  leads_same : (n from to : ℕ) → leads n ns from to ≡ leads n ms from to
  unfolding leads
  leads_same zero from to = refl
  leads_same (suc n) from to = λ k. cond (eqb from to) true (some_item (λ m. leads_same n m to k) (items_same from k))

  ends_same : (chosen other : ℕ → Bool) → ((m : ℕ) → chosen m ≡ other m) → (i : ℕ) (xs ys : List Node) → NodesAlike xs ys → ends_from chosen i xs ≡ ends_from other i ys
  ends_same chosen other same i [] [] h = refl
  ends_same chosen other same i (x ∷ xs) (y ∷ ys) h =
      let one = items_alike (Some x) (Some y) h.0 in
      let rest = ends_same chosen other same (i + 1) xs ys h.1 in
      λ k. cond (same i k) (one k) [] ++ rest k
  ends_same chosen other same i [] (y ∷ ys) h = absurd h
  ends_same chosen other same i (x ∷ xs) [] h = absurd h

  shared_same : (root m : ℕ) → is_shared ns root m ≡ is_shared ms root m
  shared_same root m =
      let ends = ends_same (leads WALK_LIMIT ns root) (leads WALK_LIMIT ms root) (leads_same WALK_LIMIT root) 0 ns ms alike in
      λ k. nat_lt 1 (times m (root ∷ ends k))

-- ---- opcodes among parts

abbrev PartsSpelt : List Part → Type 0
PartsSpelt [] = Unit {0}
PartsSpelt (Byte byte ∷ parts) = TokOf (byte ∷ []) × PartsSpelt parts
PartsSpelt (Item item ∷ parts) = PartsSpelt parts

spelt_append : (ps qs : List Part) → PartsSpelt ps → PartsSpelt qs → PartsSpelt (ps ++ qs)
spelt_append [] qs h g = g
spelt_append (Byte byte ∷ ps) qs h g = (h.0, spelt_append ps qs h.1 g)
spelt_append (Item item ∷ ps) qs h g = spelt_append ps qs h g

items_spelt : (items : List ℕ) → PartsSpelt (item_parts items)
items_spelt [] = tt
items_spelt (item ∷ items) = items_spelt items

pairs_spelt : (pairs : List (ℕ × ℕ)) → PartsSpelt (pair_parts pairs)
pairs_spelt [] = tt
pairs_spelt (pair ∷ pairs) = pairs_spelt pairs

acts_spelt : (acts : List Act) → PartsSpelt (act_parts acts)
acts_spelt [] = tt
acts_spelt (Append value ∷ acts) = (alone 0x61 ops.Append refl refl, acts_spelt acts)
acts_spelt (Set key value ∷ acts) = (alone 0x73 ops.SetItem refl refl, acts_spelt acts)
acts_spelt (Build state ∷ acts) = (alone 0x62 ops.Build refl refl, acts_spelt acts)

mark_spelt : TokOf (0x28 ∷ [])
mark_spelt = alone 0x28 ops.Mark refl refl

object_spelt : (by_new : Bool) → TokOf (object_byte by_new ∷ [])
object_spelt true = alone 0x81 ops.NewObj refl refl
object_spelt false = alone 0x52 ops.Reduce refl refl

tuple_spelt : (items : List ℕ) → PartsSpelt (tuple_parts items)
tuple_spelt [] = tt
tuple_spelt (a ∷ []) = (alone 0x85 ops.Tuple1 refl refl, tt)
tuple_spelt (a ∷ b ∷ []) = (alone 0x86 ops.Tuple2 refl refl, tt)
tuple_spelt (a ∷ b ∷ c ∷ []) = (alone 0x87 ops.Tuple3 refl refl, tt)
tuple_spelt (a ∷ b ∷ c ∷ d ∷ items) = (mark_spelt, spelt_append (item_parts (a ∷ b ∷ c ∷ d ∷ items)) (Byte 0x74 ∷ []) (items_spelt (a ∷ b ∷ c ∷ d ∷ items)) (alone 0x74 ops.Tuple refl refl, tt))

list_spelt : (items : List ℕ) → PartsSpelt (list_parts items)
list_spelt [] = (alone 0x5d ops.EmptyList refl refl, tt)
list_spelt (a ∷ []) = (alone 0x5d ops.EmptyList refl refl, (alone 0x61 ops.Append refl refl, tt))
list_spelt (a ∷ b ∷ items) = (alone 0x5d ops.EmptyList refl refl, (mark_spelt, spelt_append (item_parts (a ∷ b ∷ items)) (Byte 0x65 ∷ []) (items_spelt (a ∷ b ∷ items)) (alone 0x65 ops.Appends refl refl, tt)))

dict_spelt : (pairs : List (ℕ × ℕ)) → PartsSpelt (dict_parts pairs)
dict_spelt [] = (alone 0x7d ops.EmptyDict refl refl, tt)
dict_spelt (a ∷ []) = (alone 0x7d ops.EmptyDict refl refl, (alone 0x73 ops.SetItem refl refl, tt))
dict_spelt (a ∷ b ∷ pairs) = (alone 0x7d ops.EmptyDict refl refl, (mark_spelt, spelt_append (pair_parts (a ∷ b ∷ pairs)) (Byte 0x75 ∷ []) (pairs_spelt (a ∷ b ∷ pairs)) (alone 0x75 ops.SetItems refl refl, tt)))

parts_spelt : (node : Node) → PartsSpelt (parts_of node)
parts_spelt (kinds.Tuple items) = tuple_spelt items
parts_spelt (kinds.List items) = list_spelt items
parts_spelt (kinds.Dict pairs) = dict_spelt pairs
parts_spelt (kinds.Reference id) = (alone 0x51 ops.BinPersid refl refl, tt)
parts_spelt (kinds.Object callee arguments by_new acts) = (object_spelt by_new, acts_spelt acts)
parts_spelt kinds.None = tt
parts_spelt (kinds.Bool b) = tt
parts_spelt (kinds.Number n) = tt
parts_spelt (kinds.Wide b) = tt
parts_spelt (kinds.Float b) = tt
parts_spelt (kinds.Bytes b) = tt
parts_spelt (kinds.OldText b) = tt
parts_spelt (kinds.Text b) = tt
parts_spelt (kinds.Global a b) = tt

-- ---- pieces

-- texts alike, with the same puts, and as many nodes
record PiecesAlike (p q : Piece) : Type 0 where
  text : TextsAlike p.text q.text
  puts : p.puts ≡ q.puts
  made : p.made ≡ q.made

same_tok : (a : List ℕ) → TokOf a → TextsAlike a a
same_tok a t = texts_one t.tok t.tok a a t.is t.is (tok_same t.tok)

leaf_alike : (ns : List Node) (x y : Node) → IsNode ns x → is_held x ≡ false → NodeAlike x y → TextsAlike (leaf_text x) (leaf_text y)
leaf_alike ns x y h l (inl e) = subst (λ (z : Node). TextsAlike (leaf_text x) (leaf_text z)) e (same_tok (leaf_text x) (leaf_tok ns x h l))
leaf_alike ns x y h l (inr e) =
    texts_one (eight_tok e.one) (eight_tok e.other) (leaf_text x) (leaf_text y)
    (eight_text e.one e.first_long ∙ sym (ap leaf_text e.first))
    (eight_text e.other e.second_long ∙ sym (ap leaf_text e.second))
    (record { op = refl; number = refl; held = inr (record { op_is = refl; first = e.first_long; second = e.second_long }) })

put_alike : (s : Bool) (m : ℕ) (p q : Piece) → PiecesAlike p q → PiecesAlike (put_behind s m p) (put_behind s m q)
put_alike false m p q h = h
put_alike true m p q h =
    let same : put_text (length p.puts) ≡ put_text (length q.puts) = ap (λ (xs : List ℕ). put_text (length xs)) h.puts in
    record {
      text = texts_then p.text q.text (put_text (length p.puts)) (put_text (length q.puts)) h.text
          (subst (λ (x : List ℕ). TextsAlike (put_text (length p.puts)) x) same (same_tok (put_text (length p.puts)) (put_tok (length p.puts))));
      puts = ap (λ (xs : List ℕ). m ∷ xs) h.puts;
      made = h.made;
    }

held_pieces : (s : Bool) (o : Option ℕ) (m : ℕ) (puts : List ℕ) (p q : Piece) → PiecesAlike p q → PiecesAlike (held_piece s o m puts p) (held_piece s o m puts q)
held_pieces s (Some k) m puts p q h = record { text = same_tok (get_text k) (get_tok k); puts = refl; made = refl }
held_pieces s None m puts p q h = put_alike s m (record p { made = p.made + 1 }) (record q { made = q.made + 1 }) (record { text = h.text; puts = h.puts; made = ap (λ (n : ℕ). n + 1) h.made })

parts_pieces : (f g : ℕ → List ℕ → Piece) → ((m : ℕ) (puts : List ℕ) → PiecesAlike (f m puts) (g m puts)) → (ps : List Part) (puts : List ℕ) → PartsSpelt ps → PiecesAlike (parts_piece f ps puts) (parts_piece g ps puts)
parts_pieces f g each [] puts h = record { text = texts_none; puts = refl; made = refl }
parts_pieces f g each (Byte byte ∷ ps) puts h =
    let rest = parts_pieces f g each ps puts h.1 in
    record { text = texts_then (byte ∷ []) (byte ∷ []) (parts_piece f ps puts).text (parts_piece g ps puts).text (same_tok (byte ∷ []) h.0) rest.text; puts = rest.puts; made = ap (λ (n : ℕ). 0 + n) rest.made }
parts_pieces f g each (Item item ∷ ps) puts h =
    let one = each item puts in
    let rest : PiecesAlike (parts_piece f ps (f item puts).puts) (parts_piece g ps (g item puts).puts) =
    subst (λ (xs : List ℕ). PiecesAlike (parts_piece f ps (f item puts).puts) (parts_piece g ps xs)) one.puts (parts_pieces f g each ps (f item puts).puts h) in
    record {
      text = texts_then (f item puts).text (g item puts).text (parts_piece f ps (f item puts).puts).text (parts_piece g ps (g item puts).puts).text one.text rest.text;
      puts = rest.puts;
      made = λ k. one.made k + rest.made k;
    }

by_held : (ns : List Node) (shared : ℕ → Bool) (f g : ℕ → List ℕ → Piece) (m : ℕ) (puts : List ℕ) (x y : Node) → ((k : ℕ) (xs : List ℕ) → PiecesAlike (f k xs) (g k xs)) → IsNode ns x → NodeAlike x y → (t : Bool) → is_held x ≡ t → PiecesAlike (node_piece shared f m puts (Some x)) (node_piece shared g m puts (Some y))
by_held ns shared f g m puts x y each is h true e =
    let other : is_held y ≡ true = sym (held_alike x y h) ∙ e in
    let parts : PiecesAlike (parts_piece f (parts_of x) puts) (parts_piece g (parts_of y) puts) =
    subst (λ (ps : List Part). PiecesAlike (parts_piece f (parts_of x) puts) (parts_piece g ps puts)) (parts_alike x y h) (parts_pieces f g each (parts_of x) puts (parts_spelt x)) in
    rw (e, other) (held_pieces (shared m) (put_number m puts) m puts (parts_piece f (parts_of x) puts) (parts_piece g (parts_of y) puts) parts)
by_held ns shared f g m puts x y each is h false e =
    let other : is_held y ≡ false = sym (held_alike x y h) ∙ e in
    rw (e, other) (record { text = leaf_alike ns x y is e h; puts = refl; made = refl })

node_pieces : (ns : List Node) (shared : ℕ → Bool) (f g : ℕ → List ℕ → Piece) (m : ℕ) (puts : List ℕ) (o p : Option Node) → ((k : ℕ) (xs : List ℕ) → PiecesAlike (f k xs) (g k xs)) → ((x : Node) → o ≡ Some x → IsNode ns x) → OptAlike o p → PiecesAlike (node_piece shared f m puts o) (node_piece shared g m puts p)
node_pieces ns shared f g m puts None None each is h = record { text = texts_none; puts = refl; made = refl }
node_pieces ns shared f g m puts (Some x) (Some y) each is h = by_held ns shared f g m puts x y each (is x refl) h (is_held x) refl
node_pieces ns shared f g m puts None (Some y) each is h = absurd h
node_pieces ns shared f g m puts (Some x) None each is h = absurd h

node_at : (ns rest : List Node) (n : ℕ) (node : Node) → AreNodes ns rest → slice_get rest n ≡ Some node → IsNode ns node
node_at ns [] n found all h = cc
node_at ns (first ∷ rest) zero node all h = let same : first ≡ node = cc in subst (IsNode ns) same all.0
node_at ns (first ∷ rest) (suc n) node all h = node_at ns rest n node all.1 h

pieces : (levels : ℕ) (ns ms : List Node) (shared : ℕ → Bool) → AreNodes ns ns → NodesAlike ns ms → (m : ℕ) (puts : List ℕ) → PiecesAlike (piece_of levels ns shared m puts) (piece_of levels ms shared m puts)
unfolding piece_of
pieces zero ns ms shared is h m puts = record { text = texts_none; puts = refl; made = refl }
pieces (suc levels) ns ms shared is h m puts =
    node_pieces ns shared (piece_of levels ns shared) (piece_of levels ms shared) m puts (slice_get ns m) (slice_get ms m) (pieces levels ns ms shared is h) (λ x e. node_at ns ns m x is e) (get_alike ns ms m h)

root_pieces : (ns ms : List Node) (root : ℕ) → AreNodes ns ns → NodesAlike ns ms → PiecesAlike (root_piece ns root) (root_piece ms root)
root_pieces ns ms root is h =
    let shared : is_shared ns root ≡ is_shared ms root = λ k m. shared_same ns ms h root m k in
    subst (λ (f : ℕ → Bool). PiecesAlike (root_piece ns root) (piece_of (WALK_LIMIT + 1) ms f root [])) shared (pieces (WALK_LIMIT + 1) ns ms (is_shared ns root) is h root [])

-- ---- whole texts

-- two texts of pickles: alike tokens, and a STOP
pub record PicklesAlike (g other : Graph) (text : List ℕ) : Type 0 where
  pub ts : List Tok
  pub us : List Tok
  pub alike : ToksAlike ts us
  pub text_is : text ≡ texts ts ++ 0x2e ∷ []
  pub written : pickle_text other ≡ Ok (texts us ++ 0x2e ∷ [])
  pub made : (root_piece g.nodes g.root).made ≡ (root_piece other.nodes other.root).made

by_walk : (g other : Graph) (text : List ℕ) → IsGraph g.nodes g.root → GraphsAlike g other → (b : Bool) → has_walk (WALK_LIMIT + 1) g.nodes g.root ≡ b → has_walk (WALK_LIMIT + 1) other.nodes other.root ≡ b → pickle_text g ≡ Ok text → PicklesAlike g other text
by_walk g other text is h true e f w = let no : pickle_text g ≡ Err errors.TooDeep = rw e refl in absurd cc
by_walk g other text is h false e f w =
    let root : PiecesAlike (root_piece g.nodes g.root) (root_piece other.nodes other.root) =
    subst (λ (n : ℕ). PiecesAlike (root_piece g.nodes g.root) (root_piece other.nodes n)) h.root (root_pieces g.nodes other.nodes g.root is.each h.nodes) in
    let one : pickle_text g ≡ Ok (0x80 ∷ 3 ∷ ((root_piece g.nodes g.root).text ++ 0x2e ∷ [])) = rw e refl in
    let two : pickle_text other ≡ Ok (0x80 ∷ 3 ∷ ((root_piece other.nodes other.root).text ++ 0x2e ∷ [])) = rw f refl in
    let same : text ≡ 0x80 ∷ 3 ∷ ((root_piece g.nodes g.root).text ++ 0x2e ∷ []) = (let both = sym w ∙ one in cc) in
    record {
      ts = version_tok.tok ∷ root.text.ts;
      us = version_tok.tok ∷ root.text.us;
      alike = (tok_same version_tok.tok, root.text.alike);
      text_is = same ∙ ap (λ (t : List ℕ). 0x80 ∷ 3 ∷ (t ++ 0x2e ∷ [])) root.text.first;
      written = two ∙ ap (λ (t : List ℕ). Ok (0x80 ∷ 3 ∷ (t ++ 0x2e ∷ []))) root.text.second;
      made = root.made;
    }

pub pickles_alike : (g other : Graph) (text : List ℕ) → IsGraph g.nodes g.root → GraphsAlike g other → pickle_text g ≡ Ok text → PicklesAlike g other text
pickles_alike g other text is h w =
    by_walk g other text is h (has_walk (WALK_LIMIT + 1) g.nodes g.root) refl (ap (has_walk (WALK_LIMIT + 1) other.nodes) (sym h.root) ∙ sym (walks_same g.nodes other.nodes h.nodes (WALK_LIMIT + 1) g.root)) w
