-- The text of the state of a tree of one leaf is the spelling of its graph.
use Rattle.std.proofs.Common.{◌≡◌, ℕ, suc, ◌+◌, ◌*◌, ◌≤◌, Bool, false, cond, List, [], ◌∷◌, ◌++◌, length, Some, Ok, Err, refl, sym, ◌∙◌, ap, arith}
use Rattle.std.specs.Prelude.{slice_get}
use Rattle.pickle_graph.specs.declared.node.Node.{Node}
use Rattle.pickle_graph.specs.declared.node.Node.TheVariants as nodes
use Rattle.pickle_writing.specs.declared.error.WriteError.TheVariants as errors
use Rattle.pickle_graph.specs.Graph.{Graph}
use Rattle.pickle_round_trip.specs.Laws.{WrittenReadsBack}
use Rattle.pickle_writing.specs.Shared.{is_shared}
use Rattle.pickle_writing.specs.Spelling.{Piece, piece_of, root_piece}
use Rattle.btree_family.specs.declared.bucket.Item.{Item}
use Rattle.btree_family.specs.Classes.{Class}
use Rattle.bucket_state.specs.States.{has_values}
use Rattle.bucket_state.specs.Written.{Laid, no_graphs, laid_on, closed, tuple_graph, item_graphs, none_graph, embedded_graph}
use Rattle.bucket_state.specs.Flat.{FlatItems, tuple_text, item_texts}
use Rattle.bucket_state.specs.LoneText.{embedded_text, LoneIsSpelled, LoneMakesFew}
use Rattle.bucket_state.proofs.Back.{Extends, first_extends, closed_extends, closed_root, tuple_last}
use Rattle.bucket_state.proofs.Depths.{written_leaf_shallow}
use Rattle.bucket_state.proofs.FlatOnce.{IsOnce, tuple_once, none_shared}
use Rattle.bucket_state.proofs.FlatSpelled.{plain, tuple_alone, lone_piece, lone_spelled, inner_piece, items_leafy, leafy_once, flat_stand, flat_shallow, texts_few}

-- ---- graphs in tuples of their own

-- the text of a graph, wherever it lies first
abbrev IsFirst : ℕ → Graph → List ℕ → ℕ → Type 0
IsFirst levels g text made =
    (big : List Node) (shared : ℕ → Bool) → Extends g.nodes big → ((m : ℕ) → shared m ≡ false) → piece_of levels big shared (0 + g.root) [] ≡ plain text made

wrap : (levels : ℕ) (g : Graph) (text : List ℕ) (made : ℕ) → IsFirst levels g text made → IsFirst (suc levels) (tuple_graph (g ∷ [])) (tuple_text (text ∷ [])) (made + 1)
wrap levels g text made h big shared ext apart =
    let outer : Laid = laid_on no_graphs g in
    let place : 0 + length outer.nodes ≡ length outer.nodes = omega arith in
    let there : slice_get big (0 + length outer.nodes) ≡ Some (nodes.Tuple ((0 + g.root) ∷ [])) =
    ap (slice_get big) place ∙ ext (length outer.nodes) (nodes.Tuple outer.roots) (tuple_last outer.nodes outer.roots) in
    let inner = h big shared (λ n x e. ext n x (closed_extends outer n x (first_extends g n x e))) apart in
    tuple_alone levels big shared (0 + length outer.nodes) ((0 + g.root) ∷ []) (text ∷ []) made there (apart (0 + length outer.nodes)) (made, 0, omega arith, inner, refl)

-- the tuple of items, in a tuple, and that in a tuple
abbrev one_in : List Item → Graph
one_in items = tuple_graph (item_graphs items)

abbrev two_in : List Item → Graph
two_in items = tuple_graph (one_in items ∷ [])

abbrev three_in : List Item → Graph
three_in items = tuple_graph (two_in items ∷ [])

three_once : WrittenReadsBack → (class : Class) (items : List Item) → FlatItems class items → IsOnce (tuple_graph (three_in items ∷ []))
three_once law class items flat =
    let leaves = leafy_once (item_graphs items) (item_texts items) (items_leafy law (has_values class.kind) class.key class.value items flat) in
    tuple_once (three_in items ∷ []) (tuple_once (two_in items ∷ []) (tuple_once (one_in items ∷ []) (tuple_once (item_graphs items) leaves, tt), tt), tt)

-- ---- the whole

-- how many nodes a state makes
abbrev made_in : List Item → ℕ
made_in [] = 1
made_in (item ∷ items) = length (item_texts (item ∷ items)) + 1 + 1 + 1 + 1

embedded_piece : WrittenReadsBack → (class : Class) (items : List Item) → FlatItems class items → root_piece (embedded_graph items).nodes (embedded_graph items).root ≡ plain (embedded_text items) (made_in items)
embedded_piece law class [] flat = lone_piece nodes.None (0x4e ∷ []) refl refl
embedded_piece law class (item ∷ items) flat =
    let all : List Item = item ∷ items in
    let outer : Laid = laid_on no_graphs (three_in all) in
    let whole : Graph = closed outer in
    let shared : ℕ → Bool = is_shared whole.nodes whole.root in
    let apart = none_shared whole (three_once law class all flat) in
    let one : ℕ = length (item_texts all) + 1 in
    let first : IsFirst 198 (one_in all) (tuple_text (item_texts all)) one = λ big s ext a. inner_piece law 196 class all big s flat ext a in
    let two : IsFirst 199 (two_in all) (tuple_text (tuple_text (item_texts all) ∷ [])) (one + 1) = wrap 198 (one_in all) (tuple_text (item_texts all)) one first in
    let three : IsFirst 200 (three_in all) (tuple_text (tuple_text (tuple_text (item_texts all) ∷ []) ∷ [])) (one + 1 + 1) =
    wrap 199 (two_in all) (tuple_text (tuple_text (item_texts all) ∷ [])) (one + 1) two in
    let inner = three whole.nodes shared (λ n x h. closed_extends outer n x (first_extends (three_in all) n x h)) apart in
    tuple_alone 200 whole.nodes shared whole.root ((0 + (three_in all).root) ∷ []) (tuple_text (tuple_text (tuple_text (item_texts all) ∷ []) ∷ []) ∷ []) (one + 1 + 1) (closed_root outer) (apart whole.root)
    (one + 1 + 1, 0, omega arith, inner, refl)

pub lone_is_spelled : WrittenReadsBack → LoneIsSpelled
lone_is_spelled law class items flat =
    let values = (flat_stand (has_values class.kind) class.key class.value items flat).1 in
    let shallow = flat_shallow law (has_values class.kind) class.key class.value items 196 flat in
    let deep = written_leaf_shallow law items values shallow in
    let piece = embedded_piece law class items flat in
    λ k. cond (deep k) (Err errors.TooDeep) (Ok (piece k).text)

few_in : (items : List Item) → made_in items ≤ 2 * length items + 4
few_in [] = omega arith
few_in (item ∷ items) = let few = texts_few (item ∷ items) in omega (arith, few)

pub lone_few : WrittenReadsBack → LoneMakesFew
lone_few law class items flat =
    let made = ap (λ (p : Piece). p.made) (embedded_piece law class items flat) in
    let few = few_in items in
    omega (arith, made, few)
