-- The text of the state of an object with others below it is the spelling of its graph.
use Rattle.std.proofs.Common.{◌≡◌, ℕ, suc, ◌+◌, ◌*◌, Bool, false, cond, List, [], ◌∷◌, ◌++◌, length, Some, Ok, Err, refl, sym, ◌∙◌, ap, arith, append_assoc, append-nil}
use Rattle.std.specs.Prelude.{slice_get}
use Rattle.pickle_graph.specs.declared.node.Node.{Node}
use Rattle.pickle_graph.specs.declared.node.Node.TheVariants as nodes
use Rattle.pickle_writing.specs.declared.depth.TheConstants.{WALK_LIMIT}
use Rattle.pickle_writing.specs.declared.error.WriteError.TheVariants as errors
use Rattle.pickle_graph.specs.Graph.{Graph}
use Rattle.pickle_graph.specs.Walks.{has_walk}
use Rattle.pickle_writing.specs.Shared.{is_shared}
use Rattle.pickle_writing.specs.Spelling.{Piece, piece_of, root_piece}
use Rattle.btree_family.specs.declared.key.Key.{Key}
use Rattle.btree_family.specs.declared.key.Key.TheVariants as keys
use Rattle.btree_family.specs.Classes.{Class}
use Rattle.bucket_state.specs.declared.tree.Branch.{Branch}
use Rattle.bucket_state.specs.declared.tree.Inner.{Inner}
use Rattle.bucket_state.specs.Written.{key_graph, key_text, link_graph, Laid, no_graphs, laid_on, laid_all, closed, tuple_graph, child_graphs, inner_graph}
use Rattle.bucket_state.specs.Flat.{tuple_text, link_text}
use Rattle.bucket_state.specs.InnerText.{child_texts, children_texts, inner_text, InnerIsSpelled, InnerMakesFew}
use Rattle.bucket_state.proofs.Back.{Extends, laid_extends, first_extends, closed_extends, closed_root, tuple_last}
use Rattle.bucket_state.proofs.Depths.{EachFlat, flat_tuple, key_flat, link_flat}
use Rattle.bucket_state.proofs.FlatOnce.{IsOnce, EachOnce, edgeless_once, link_once, tuple_once, none_shared}
use Rattle.bucket_state.proofs.FlatSpelled.{plain, AllGive, key_leafy, leaf_within, leaf_piece, link_piece, tuple_alone}

-- ---- graphs side by side, of which each has its text wherever it lies

abbrev IsSaid : ℕ → Graph → List ℕ → ℕ → Type 0
IsSaid levels g text made =
    (laid : Laid) (big : List Node) (shared : ℕ → Bool) → Extends (laid_on laid g).nodes big → ((m : ℕ) → shared m ≡ false) →
    piece_of levels big shared (length laid.nodes + g.root) [] ≡ plain text made

abbrev AllSaid : ℕ → List Graph → List (List ℕ) → ℕ → Type 0
AllSaid levels [] [] made = made ≡ 0
AllSaid levels (g ∷ gs) (text ∷ texts) made = (one : ℕ) × (rest : ℕ) × (made ≡ one + rest) × IsSaid levels g text one × AllSaid levels gs texts rest
AllSaid levels _ _ made = ⊥

-- the roots that they add, and what is said of them wherever the nodes lie
record SaidLaid (levels : ℕ) (laid : Laid) (gs : List Graph) (texts : List (List ℕ)) (made : ℕ) : Type 0 where
  roots : List ℕ
  added : (laid_all laid gs).roots ≡ laid.roots ++ roots
  kept : Extends laid.nodes (laid_all laid gs).nodes
  gives : (big : List Node) (shared : ℕ → Bool) → Extends (laid_all laid gs).nodes big → ((m : ℕ) → shared m ≡ false) → AllGive (piece_of levels big shared) roots texts made

said_laid : (levels : ℕ) (laid : Laid) (gs : List Graph) (texts : List (List ℕ)) (made : ℕ) → AllSaid levels gs texts made → SaidLaid levels laid gs texts made
said_laid levels laid [] [] made h = record { roots = []; added = sym (append-nil laid.roots); kept = λ n x e. e; gives = λ big shared ext apart. h }
said_laid levels laid (g ∷ gs) (text ∷ texts) made h =
    let rest = said_laid levels (laid_on laid g) gs texts h.1 h.4 in
    let at : ℕ = length laid.nodes + g.root in
    record {
      roots = at ∷ rest.roots;
      added = rest.added ∙ append_assoc laid.roots (at ∷ []) rest.roots;
      kept = λ n x e. rest.kept n x (laid_extends laid g n x e);
      gives = λ big shared ext apart. (h.0, h.1, h.2, h.3 laid big shared (λ n x e. ext n x (rest.kept n x e)) apart, rest.gives big shared ext apart);
    }
said_laid levels laid [] (text ∷ texts) made h = absurd h
said_laid levels laid (g ∷ gs) [] made h = absurd h

-- their tuple, wherever its graph lies first
first_tuple : (levels : ℕ) (gs : List Graph) (texts : List (List ℕ)) (made : ℕ) → AllSaid levels gs texts made → (big : List Node) (shared : ℕ → Bool) → Extends (tuple_graph gs).nodes big → ((m : ℕ) → shared m ≡ false) → piece_of (suc levels) big shared (0 + (tuple_graph gs).root) [] ≡ plain (tuple_text texts) (made + 1)
first_tuple levels gs texts made h big shared ext apart =
    let fin : Laid = laid_all no_graphs gs in
    let laid = said_laid levels no_graphs gs texts made h in
    let place : 0 + length fin.nodes ≡ length fin.nodes = omega arith in
    let there : slice_get big (0 + length fin.nodes) ≡ Some (nodes.Tuple laid.roots) =
    ap (slice_get big) place ∙ ext (length fin.nodes) (nodes.Tuple fin.roots) (tuple_last fin.nodes fin.roots) ∙ ap (λ (ms : List ℕ). Some (nodes.Tuple ms)) laid.added in
    let gives = laid.gives big shared (λ n x e. ext n x (closed_extends fin n x e)) apart in
    tuple_alone levels big shared (0 + length fin.nodes) laid.roots texts made there (apart (0 + length fin.nodes)) gives

-- ---- separators and links

key_said : (levels : ℕ) (key : Key) → IsSaid (suc levels) (key_graph key) (key_text key) 1
key_said levels key laid big shared ext apart = leaf_piece levels big shared (length laid.nodes + 0) (key_text key) (leaf_within laid (key_graph key) (key_text key) big (key_leafy key).at ext)

link_said : (levels oid : ℕ) (m n : List ℕ) → IsSaid (suc (suc (suc levels))) (link_graph oid m n) (link_text oid m n) 4
link_said levels oid m n laid big shared ext apart = link_piece levels oid m n laid big shared ext apart

children_said : (levels : ℕ) (child : Class) (branches : List Branch) → AllSaid (suc (suc (suc levels))) (child_graphs child branches) (child_texts child branches) (5 * length branches)
children_said levels child [] = omega arith
children_said levels child (branch ∷ branches) =
    let rest : ℕ = 5 * length branches in
    (1, 4 + rest, omega arith, key_said (suc (suc levels)) branch.key, (4, rest, refl, link_said levels branch.child child.module_name child.class_name, children_said levels child branches))

key_once : (key : Key) → IsOnce (key_graph key)
key_once (keys.Text text) = edgeless_once (key_graph (keys.Text text)) (omega arith) refl
key_once (keys.Bytes bytes) = edgeless_once (key_graph (keys.Bytes bytes)) (omega arith) refl
key_once (keys.Number n) = edgeless_once (key_graph (keys.Number n)) (omega arith) refl

children_once : (child : Class) (branches : List Branch) → EachOnce (child_graphs child branches)
children_once child [] = tt
children_once child (branch ∷ branches) = (key_once branch.key, (link_once branch.child child.module_name child.class_name, children_once child branches))

children_flat : (n : ℕ) (child : Class) (branches : List Branch) → EachFlat (suc (suc (suc n))) (child_graphs child branches)
children_flat n child [] = tt
children_flat n child (branch ∷ branches) = (key_flat (suc (suc n)) branch.key, (link_flat n branch.child child.module_name child.class_name, children_flat n child branches))

-- ---- the whole

inner_once : (child leaf : Class) (inner : Inner) → IsOnce (inner_graph child leaf inner)
inner_once child leaf inner =
    let head : Graph = link_graph inner.head child.module_name child.class_name in
    let first : Graph = link_graph inner.first leaf.module_name leaf.class_name in
    tuple_once (tuple_graph (head ∷ child_graphs child inner.tail) ∷ first ∷ [])
    (tuple_once (head ∷ child_graphs child inner.tail) (link_once inner.head child.module_name child.class_name, children_once child inner.tail), (link_once inner.first leaf.module_name leaf.class_name, tt))

inner_walk : (child leaf : Class) (inner : Inner) → has_walk (WALK_LIMIT + 1) (inner_graph child leaf inner).nodes (inner_graph child leaf inner).root ≡ false
inner_walk child leaf inner =
    let head : Graph = link_graph inner.head child.module_name child.class_name in
    let first : Graph = link_graph inner.first leaf.module_name leaf.class_name in
    let children = flat_tuple 199 (head ∷ child_graphs child inner.tail) (link_flat 196 inner.head child.module_name child.class_name, children_flat 196 child inner.tail) in
    (flat_tuple 200 (tuple_graph (head ∷ child_graphs child inner.tail) ∷ first ∷ []) (children, (link_flat 197 inner.first leaf.module_name leaf.class_name, tt))).short

inner_piece : (child leaf : Class) (inner : Inner) → root_piece (inner_graph child leaf inner).nodes (inner_graph child leaf inner).root ≡ plain (inner_text child leaf inner) (5 * length inner.tail + 10)
inner_piece child leaf inner =
    let head : Graph = link_graph inner.head child.module_name child.class_name in
    let t : Graph = tuple_graph (head ∷ child_graphs child inner.tail) in
    let outer : Laid = laid_on no_graphs t in
    let link : Graph = link_graph inner.first leaf.module_name leaf.class_name in
    let both : Laid = laid_on outer link in
    let whole : Graph = closed both in
    let shared : ℕ → Bool = is_shared whole.nodes whole.root in
    let apart = none_shared whole (inner_once child leaf inner) in
    let many : ℕ = 4 + 5 * length inner.tail in
    let said : AllSaid 199 (head ∷ child_graphs child inner.tail) (children_texts child inner) many =
    (4, 5 * length inner.tail, refl, link_said 196 inner.head child.module_name child.class_name, children_said 196 child inner.tail) in
    let front = first_tuple 199 (head ∷ child_graphs child inner.tail) (children_texts child inner) many said whole.nodes shared (λ n x h. closed_extends both n x (laid_extends outer link n x (first_extends t n x h))) apart in
    let linked = link_piece 197 inner.first leaf.module_name leaf.class_name outer whole.nodes shared (closed_extends both) apart in
    let size : many + 5 + 1 ≡ 5 * length inner.tail + 10 = omega arith in
    tuple_alone 200 whole.nodes shared whole.root ((0 + t.root) ∷ (length outer.nodes + link.root) ∷ []) (tuple_text (children_texts child inner) ∷ link_text inner.first leaf.module_name leaf.class_name ∷ []) (many + 5) (closed_root both) (apart whole.root)
    (many + 1, 4, omega arith, front, (4, 0, refl, linked, refl))
    ∙ ap (plain (inner_text child leaf inner)) size

pub inner_spelled : InnerIsSpelled
inner_spelled child leaf inner =
    let deep = inner_walk child leaf inner in
    let piece = inner_piece child leaf inner in
    λ k. cond (deep k) (Err errors.TooDeep) (Ok (piece k).text)

pub inner_few : InnerMakesFew
inner_few child leaf inner = let made = ap (λ (p : Piece). p.made) (inner_piece child leaf inner) in omega (arith, made)
