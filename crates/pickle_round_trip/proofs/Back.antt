-- What is written reads back.
use Rattle.std.proofs.Common.{◌≡◌, ℕ, zero, suc, ◌+◌, ◌<◌, ◌≤◌, pos, Bool, true, false, cond, List, [], ◌∷◌, ◌++◌, length, Option, Some, Ok, Err, refl, arith, sym, ◌∙◌, ap, subst, length-append, append_assoc, inl, inr}
use Rattle.std.proofs.lemmas.List.{append-nil}
use Rattle.std.specs.Prelude.{slice_get}
use Rattle.pickle_ops.specs.declared.table.Op.TheVariants as ops
use Rattle.pickle_ops.specs.declared.table.Kind.TheVariants as args
use Rattle.pickle_ops.specs.Grammar.{IsToken, spelled_token}
use Rattle.pickle_ops.specs.Laws.{SpelledIsRead}
use Rattle.pickle_writing.specs.declared.error.WriteError.TheVariants as failures
use Rattle.pickle_graph.specs.declared.node.Act.{Act}
use Rattle.pickle_graph.specs.declared.node.Act.TheVariants.{Append, Set, Build}
use Rattle.pickle_graph.specs.declared.node.Node.{Node}
use Rattle.pickle_graph.specs.declared.node.Node.TheVariants as kinds
use Rattle.pickle_writing.specs.declared.depth.TheConstants.{WALK_LIMIT}
use Rattle.pickle_reading.specs.declared.reading.TheConstants.{NODE_LIMIT}
use Rattle.pickle_graph.specs.declared.parts.Part.{Part}
use Rattle.pickle_graph.specs.declared.parts.Part.TheVariants.{Byte}
use Rattle.pickle_reading.specs.Nodes.{State}
use Rattle.pickle_reading.specs.declared.state.Item.{Item}
use Rattle.pickle_reading.specs.declared.state.Item.TheVariants.{Value}
use Rattle.pickle_graph.specs.Graph.{Graph, AreNodes, IsNode, AllBelow, PairsBelow, ActsBelow, is_tuple}
use Rattle.pickle_reading.specs.Reading.{graphs, read_from, root_of, graph_at, empty_state}
use Rattle.pickle_graph.specs.Parts.{item_parts, pair_parts, act_parts, tuple_parts, list_parts, dict_parts, object_parts, parts_of, items_in}
use Rattle.pickle_graph.specs.Walks.{has_walk}
use Rattle.pickle_writing.specs.Shared.{is_shared}
use Rattle.pickle_writing.specs.Spelling.{Piece, piece_of, node_piece, root_piece, pickled, Spelled}
use Rattle.pickle_graph.specs.Same.{has}
use Rattle.pickle_round_trip.specs.Laws.{ReadsSame, ReadsAnywhere, ReadsTooLarge, WrittenReadsBack, WrittenReadsAnywhere}
use Rattle.pickle_graph.specs.WalkLaws.{clash, not_true, has-head, has-append, walk-item}
use Rattle.pickle_reading.specs.RunLaws.{read_from-stop}
use Rattle.pickle_round_trip.proofs.Going.{Goes, goes_token, stops_right}
use Rattle.pickle_round_trip.proofs.Standing.{Stands, at_end, copies-length}
use Rattle.pickle_round_trip.proofs.Building.{Shown}
use Rattle.pickle_round_trip.proofs.Visits.{visit_node, visits, items-append, items-items}
use Rattle.pickle_round_trip.proofs.NodeTexts.{flat, pair_items}
use Rattle.pickle_round_trip.proofs.ObjectTexts.{node_shown}
use Rattle.pickle_round_trip.proofs.Once.{apart-times, visits-once}

-- ---- items are nodes

all-below : (n : ℕ) (xs : List ℕ) (c : ℕ) → AllBelow n xs → has c xs ≡ true → c < n
all-below n [] c h i = absurd cc
all-below n (x ∷ xs) c h i = elim (has-head c x xs i) [ inl e ↦ let l = h.0 in omega (arith, e, l) | inr e ↦ all-below n xs c h.1 e ]

many-below : (n : ℕ) (xs : List ℕ) (byte c : ℕ) → AllBelow n xs → has c (items_in (item_parts xs ++ Byte byte ∷ [])) ≡ true → c < n
many-below n xs byte c h i =
    let e : items_in (item_parts xs ++ Byte byte ∷ []) ≡ xs ++ [] = items-append (item_parts xs) (Byte byte ∷ []) ∙ ap (λ (l : List ℕ). l ++ []) (items-items xs) in
    elim (has-append c xs [] (ap (has c) (sym e) ∙ i)) [ inl l ↦ all-below n xs c h l | inr r ↦ absurd cc ]

tuple-items : (n : ℕ) (items : List ℕ) (c : ℕ) → AllBelow n items → has c (items_in (tuple_parts items)) ≡ true → c < n
tuple-items n [] c h i = absurd cc
tuple-items n (a ∷ []) c h i = all-below n (a ∷ []) c h i
tuple-items n (a ∷ b ∷ []) c h i = all-below n (a ∷ b ∷ []) c h i
tuple-items n (a ∷ b ∷ d ∷ []) c h i = all-below n (a ∷ b ∷ d ∷ []) c h i
tuple-items n (a ∷ b ∷ d ∷ e ∷ items) c h i = many-below n (a ∷ b ∷ d ∷ e ∷ items) 0x74 c h i

list-items : (n : ℕ) (items : List ℕ) (c : ℕ) → AllBelow n items → has c (items_in (list_parts items)) ≡ true → c < n
list-items n [] c h i = absurd cc
list-items n (a ∷ []) c h i = all-below n (a ∷ []) c h i
list-items n (a ∷ b ∷ items) c h i = many-below n (a ∷ b ∷ items) 0x65 c h i

flat-below : (n : ℕ) (pairs : List (ℕ × ℕ)) → PairsBelow n pairs → AllBelow n (flat pairs)
flat-below n [] h = tt
flat-below n (pair ∷ pairs) h = (h.0, (h.1, flat-below n pairs h.2))

dict-items : (n : ℕ) (pairs : List (ℕ × ℕ)) (c : ℕ) → PairsBelow n pairs → has c (items_in (dict_parts pairs)) ≡ true → c < n
dict-items n [] c h i = absurd cc
dict-items n (pair ∷ []) c h i = all-below n (flat (pair ∷ [])) c (flat-below n (pair ∷ []) h) i
dict-items n (pair ∷ next ∷ pairs) c h i =
    many-below n (flat (pair ∷ next ∷ pairs)) 0x75 c (flat-below n (pair ∷ next ∷ pairs) h) (ap (λ (l : List Part). has c (items_in (l ++ Byte 0x75 ∷ []))) (pair_items (pair ∷ next ∷ pairs)) ∙ i)

acts-items : (n : ℕ) (acts : List Act) (c : ℕ) → ActsBelow n acts → has c (items_in (act_parts acts)) ≡ true → c < n
acts-items n [] c h i = absurd cc
acts-items n (Append value ∷ acts) c h i = elim (has-head c value (items_in (act_parts acts)) i) [ inl e ↦ let l = h.0 in omega (arith, e, l) | inr e ↦ acts-items n acts c h.1 e ]
acts-items n (Set key value ∷ acts) c h i = elim (has-head c key (value ∷ items_in (act_parts acts)) i) [
  | inl e ↦ let l = h.0.0 in omega (arith, e, l)
  | inr f ↦ elim (has-head c value (items_in (act_parts acts)) f) [ inl e ↦ let l = h.0.1 in omega (arith, e, l) | inr e ↦ acts-items n acts c h.1 e ]
]
acts-items n (Build state ∷ acts) c h i = elim (has-head c state (items_in (act_parts acts)) i) [ inl e ↦ let l = h.0 in omega (arith, e, l) | inr e ↦ acts-items n acts c h.1 e ]

pub tuple-below : (ns : List Node) (m : ℕ) → is_tuple (slice_get ns m) ≡ true → m < length ns
tuple-below [] m h = absurd cc
tuple-below (x ∷ ns) zero h = omega arith
tuple-below (x ∷ ns) (suc m) h = let l = tuple-below ns m h in omega (arith, l)

items-below : (ns : List Node) (x : Node) (c : ℕ) → IsNode ns x → has c (items_in (parts_of x)) ≡ true → c < length ns
items-below ns (kinds.Tuple items) c h i = tuple-items (length ns) items c h i
items-below ns (kinds.List items) c h i = list-items (length ns) items c h i
items-below ns (kinds.Dict pairs) c h i = dict-items (length ns) pairs c h i
items-below ns (kinds.Reference id) c h i = all-below (length ns) (id ∷ []) c (h, tt) i
items-below ns (kinds.Object callee arguments by_new acts) c h i = elim (has-head c callee (arguments ∷ items_in (act_parts acts)) i) [
  | inl e ↦ let l = h.called in omega (arith, e, l)
  | inr f ↦ elim (has-head c arguments (items_in (act_parts acts)) f) [
    | inl e ↦ let l = tuple-below ns arguments h.taken in omega (arith, e, l)
    | inr e ↦ acts-items (length ns) acts c h.done e
  ]
]
items-below ns kinds.None c h i = absurd cc
items-below ns (kinds.Bool b) c h i = absurd cc
items-below ns (kinds.Number b) c h i = absurd cc
items-below ns (kinds.Wide b) c h i = absurd cc
items-below ns (kinds.Float b) c h i = absurd cc
items-below ns (kinds.Bytes b) c h i = absurd cc
items-below ns (kinds.OldText b) c h i = absurd cc
items-below ns (kinds.Text b) c h i = absurd cc
items-below ns (kinds.Global a b) c h i = absurd cc

-- ---- nodes of a graph

node-at : (ns rest : List Node) (m : ℕ) → AreNodes ns rest → m < length rest → (x : Node) × (slice_get rest m ≡ Some x) × IsNode ns x
node-at ns [] m h l = absurd (omega (arith, l))
node-at ns (x ∷ rest) zero h l = (x, refl, h.0)
node-at ns (x ∷ rest) (suc m) h l = node-at ns rest m h.1 (omega (arith, l))

module _ (sr : SpelledIsRead) (ns : List Node) (all : AreNodes ns ns) (shared : ℕ → Bool) where
  -- What is written of a node builds a copy of it.
  pub piece-shown : (levels m : ℕ) (puts : List ℕ) → has_walk levels ns m ≡ false → m < length ns → Shown ns m (piece_of levels ns shared m puts) puts (visits levels ns shared m puts)
  unfolding has_walk piece_of visits
  piece-shown zero m puts end below = absurd cc
  piece-shown (suc levels) m puts end below =
      let x = node-at ns ns m all below in
      let go : ℕ → List ℕ → Piece = piece_of levels ns shared in
      let vis : ℕ → List ℕ → List ℕ = visits levels ns shared in
      subst (λ (f : Option Node). Shown ns m (node_piece shared go m puts f) puts (visit_node vis go m puts f)) (sym x.1)
      (node_shown sr ns go vis shared m x.0 puts x.1 x.2 (λ c q h.
      piece-shown levels c q (not_true (has_walk levels ns c) (λ t. clash (has_walk (suc levels) ns m) (walk-item levels ns m c (ap (λ (f : Option Node). has c (Rattle.pickle_graph.specs.Parts.items_of f)) x.1 ∙ h) t) end)) (items-below ns x.0 c x.2 h)))

-- ---- whole texts

abbrev spelled : List ℕ → Spelled
spelled text = Ok text

text_is : (a b : List ℕ) → spelled a ≡ spelled b → a ≡ b
text_is a b e = cc

deep_not : (text : List ℕ) → Err failures.TooDeep ≡ spelled text → ⊥
deep_not text e = cc

pub written : (g : Graph) (text : List ℕ) (deep : Bool) → pickled (cond deep (Err failures.TooDeep) (Ok (root_piece g.nodes g.root).text)) ≡ Ok text →
    (deep ≡ false) × (text ≡ 0x80 ∷ 3 ∷ ((root_piece g.nodes g.root).text ++ 0x2e ∷ []))
written g text true e = absurd (deep_not text e)
written g text false e = (refl, sym (text_is (0x80 ∷ 3 ∷ ((root_piece g.nodes g.root).text ++ 0x2e ∷ [])) text e))

module _ (sr : SpelledIsRead) where
  pub proto_goes : (s : State) → Goes s (0x80 ∷ 3 ∷ []) s
  proto_goes s = goes_token sr s s (0x80 ∷ 3 ∷ []) ops.Proto (pos 3) (3 ∷ []) (record {
    token = record { row = record { byte = 0x80; op = ops.Proto; kind = args.Version }; argument = 3 ∷ []; listed = refl; named = refl; spelled = refl; says = (record { long = refl; says = refl; whole = refl }, omega arith) };
    front = 0x80 ∷ [];
    split = refl;
    on = refl;
  }) (λ at. refl)

  stop_token : IsToken (0x2e ∷ []) ops.Stop (pos 0) []
  stop_token = record { row = record { byte = 0x2e; op = ops.Stop; kind = args.Nothing }; argument = []; listed = refl; named = refl; spelled = refl; says = record { long = refl; says = refl; whole = refl } }

  nothing_stands : (g : Graph) → Stands g.nodes [] (empty_state NODE_LIMIT) []
  nothing_stands g = record { count = refl; tuples = λ i m e t. absurd cc; memo = λ m k e. absurd cc; few = omega arith; limit = omega arith }

  -- STOP, whatever follows
  pub stop-read : (s : State) (v : ℕ) (below : List Item) (at : ℕ) (tail : List ℕ) → s.stack ≡ Value v ∷ below → read_from graphs 0 s at (0x2e ∷ tail) ≡ Ok (record { nodes = s.nodes; root = v }, at + 1)
  stop-read s v below at tail e =
      read_from-stop graphs s at (0x2e ∷ tail) (spelled_token at (0x2e ∷ []) ops.Stop (pos 0) []).0 (at + 1) (sr at (0x2e ∷ []) tail ops.Stop (pos 0) [] stop_token) refl (omega arith) (omega arith)
      ∙ ap (root_of at (at + 1) s) e

  reads-anywhere : (g : Graph) (text : List ℕ) → text ≡ 0x80 ∷ 3 ∷ ((root_piece g.nodes g.root).text ++ 0x2e ∷ []) → has_walk (suc WALK_LIMIT) g.nodes g.root ≡ false →
      Shown g.nodes g.root (root_piece g.nodes g.root) [] (visits (suc WALK_LIMIT) g.nodes (is_shared g.nodes g.root) g.root []) → (root_piece g.nodes g.root).made ≤ NODE_LIMIT → ReadsAnywhere g text
  reads-anywhere g text whole short a room =
      let p : Piece = root_piece g.nodes g.root in
      let x = a.built (empty_state NODE_LIMIT) [] (nothing_stands g) (omega (arith, room)) in
      let last : State = at_end (empty_state NODE_LIMIT) x.nodes (Value x.number ∷ []) x.memo in
      let copy : Graph = record { nodes = x.nodes; root = x.number } in
      record {
        copy = copy;
        reads = λ at tail.
            let split : text ++ tail ≡ 0x80 ∷ 3 ∷ (p.text ++ 0x2e ∷ tail) = ap (λ (l : List ℕ). l ++ tail) whole ∙ ap (λ (l : List ℕ). 0x80 ∷ 3 ∷ l) (append_assoc p.text (0x2e ∷ []) tail) in
            let end : at + 2 + length p.text + 1 ≡ at + length text = let e = ap length whole in omega (arith, e, length-append p.text (0x2e ∷ [])) in
            ap (read_from graphs 0 (empty_state NODE_LIMIT) at) split ∙ proto_goes (empty_state NODE_LIMIT) at (p.text ++ 0x2e ∷ tail) ∙ x.goes (at + 2) (0x2e ∷ tail)
            ∙ stop-read last x.number [] (at + 2 + length p.text) tail refl ∙ ap (λ (k : ℕ). Ok (copy, k)) end;
        same = record { origin = a.origins; each = x.copies; root = x.found; once = apart-times g.nodes a.origins (λ k held. let e = a.same k in let f = visits-once g.nodes g.root short k held in omega (arith, e, f)) };
        few = let many = copies-length a.origins g.nodes x.nodes a.origins x.copies in omega (arith, many, a.size, room);
      }

  reads-same : (g : Graph) (text : List ℕ) → ReadsAnywhere g text → ReadsSame g text
  reads-same g text r = record {
    copy = r.copy;
    reads = ap (graph_at NODE_LIMIT 0) (sym (append-nil text)) ∙ r.reads 0 [] ∙ ap (λ (k : ℕ). Ok (r.copy, k)) (omega arith);
    same = r.same;
  }

  reads-large : (g : Graph) (text : List ℕ) → text ≡ 0x80 ∷ 3 ∷ ((root_piece g.nodes g.root).text ++ 0x2e ∷ []) →
      Shown g.nodes g.root (root_piece g.nodes g.root) [] (visits (suc WALK_LIMIT) g.nodes (is_shared g.nodes g.root) g.root []) → NODE_LIMIT < (root_piece g.nodes g.root).made → ReadsTooLarge text
  reads-large g text whole a over =
      let p : Piece = root_piece g.nodes g.root in
      let stops = stops_right (empty_state NODE_LIMIT) (empty_state NODE_LIMIT) (0x80 ∷ 3 ∷ []) p.text (proto_goes (empty_state NODE_LIMIT)) (a.beyond (empty_state NODE_LIMIT) [] (nothing_stands g) (omega arith) (omega (arith, over))) in
      let x = stops 0 (0x2e ∷ []) in
      record { place = x.0; refused = ap (read_from graphs 0 (empty_state NODE_LIMIT) 0) whole ∙ x.1 }

  -- What is written reads back as the same graph, or as too large.
  pub read_back : WrittenReadsBack
  read_back g text graph e =
      let w = written g text (has_walk (WALK_LIMIT + 1) g.nodes g.root) e in
      let a = piece-shown sr g.nodes graph.each (is_shared g.nodes g.root) (suc WALK_LIMIT) g.root [] w.0 graph.rooted in
      record { within = λ room. reads-same g text (reads-anywhere g text w.1 w.0 a room); beyond = reads-large g text w.1 a }

  pub read_anywhere : WrittenReadsAnywhere
  read_anywhere g text graph e room =
      let w = written g text (has_walk (WALK_LIMIT + 1) g.nodes g.root) e in
      reads-anywhere g text w.1 w.0 (piece-shown sr g.nodes graph.each (is_shared g.nodes g.root) (suc WALK_LIMIT) g.root [] w.0 graph.rooted) room
