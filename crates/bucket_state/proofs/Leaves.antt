-- What is written of a tree of one leaf reads back as it.
use Rattle.std.proofs.Common.{◌≡◌, ℕ, ◌+◌, List, [], ◌∷◌, Option, Some, None, refl, ◌∙◌, ap, arith}
use Rattle.std.specs.Prelude.{slice_get}
use Rattle.std.specs.Option.{option_and_then}
use Rattle.pickle_graph.specs.declared.node.Node.{Node}
use Rattle.pickle_graph.specs.declared.node.Node.TheVariants as nodes
use Rattle.pickle_graph.specs.Graph.{Graph}
use Rattle.pickle_round_trip.specs.Laws.{WrittenReadsBack}
use Rattle.btree_family.specs.declared.bucket.Item.{Item}
use Rattle.bucket_state.specs.States.{tuple_in, members_at, with_next, bucket_in}
use Rattle.bucket_state.specs.Trees.{lone_leaf, embedded_in, tree_in}
use Rattle.bucket_state.specs.Written.{tuple_graph, no_graphs, laid_on, item_graphs}
use Rattle.bucket_state.specs.Laws.{WrittenLeafReadsBack}
use Rattle.bucket_state.proofs.Back.{Extends, items_read, first_extends, closed_extends, closed_root}

-- a graph stands as it is in the tuple of it alone
inner_extends : (g : Graph) → Extends g.nodes (tuple_graph (g ∷ [])).nodes
inner_extends g n x h = closed_extends (laid_on no_graphs g) n x (first_extends g n x h)

inner_root : (g : Graph) → slice_get (tuple_graph (g ∷ [])).nodes (tuple_graph (g ∷ [])).root ≡ Some (nodes.Tuple ((0 + g.root) ∷ []))
inner_root g = closed_root (laid_on no_graphs g)

-- wherever such a tuple lies first, its one member is found
inner_members : (g : Graph) (big : List Node) → Extends (tuple_graph (g ∷ [])).nodes big → members_at big (0 + (tuple_graph (g ∷ [])).root) ≡ Some ((0 + g.root) ∷ [])
inner_members g big ext =
    let t : Graph = tuple_graph (g ∷ []) in
    let place : 0 + t.root ≡ t.root = omega arith in
    ap (λ (n : ℕ). members_at big n) place ∙ ap tuple_in (ext t.root (nodes.Tuple ((0 + g.root) ∷ [])) (inner_root g))

pub leaf_back : WrittenReadsBack → WrittenLeafReadsBack
leaf_back law class [] stands = refl
leaf_back law class (item ∷ items) stands =
    let t : Graph = tuple_graph (item_graphs (item ∷ items)) in
    let leaf : Graph = tuple_graph (t ∷ []) in
    let inner : Graph = tuple_graph (leaf ∷ []) in
    let outer : Graph = tuple_graph (inner ∷ []) in
    let big : List Node = outer.nodes in
    let ext_inner : Extends inner.nodes big = inner_extends inner in
    let ext_leaf : Extends leaf.nodes big = λ n x h. ext_inner n x (inner_extends leaf n x h) in
    let ext : Extends t.nodes big = λ n x h. ext_leaf n x (inner_extends t n x h) in
    let read = items_read law class (item ∷ items) big stands.items stands.rising ext in
    ap (tree_in class big) (inner_root inner)
    ∙ ap (option_and_then (embedded_in class big)) (inner_members leaf big ext_inner)
    ∙ ap (λ (o : Option (List ℕ)). option_and_then lone_leaf (option_and_then (bucket_in class big) o)) (inner_members t big ext_leaf)
    ∙ ap (λ (o : Option (List Item)). option_and_then lone_leaf (with_next None o)) read
