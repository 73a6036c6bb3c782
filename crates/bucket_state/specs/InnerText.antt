-- The text of the state of an object with others below it, which is made with no graph. Own.
use Rattle.std.specs.Prelude.{◌≡◌, ℕ, ◌+◌, ◌*◌, ◌≤◌, List, [], ◌∷◌, length, Ok}
use Rattle.pickle_writing.specs.Spelling.{spelling_of, root_piece}
use Rattle.btree_family.specs.Classes.{Class}
use Rattle.bucket_state.specs.declared.tree.Branch.{Branch}
use Rattle.bucket_state.specs.declared.tree.Inner.{Inner}
use Rattle.bucket_state.specs.Written.{key_text, inner_graph}
use Rattle.bucket_state.specs.Flat.{tuple_text, link_text}

-- each separator, with a link to the child behind it, which is of this class
abbrev pub child_texts : Class → List Branch → List (List ℕ)
child_texts child [] = []
child_texts child (branch ∷ branches) = key_text branch.key ∷ link_text branch.child child.module_name child.class_name ∷ child_texts child branches

-- the children with the separators between them
abbrev pub children_texts : Class → Inner → List (List ℕ)
children_texts child inner = link_text inner.head child.module_name child.class_name ∷ child_texts child inner.tail

-- The text of the state: its children are of the one class, and the first leaf is of the other.
abbrev pub inner_text : Class → Class → Inner → List ℕ
inner_text child leaf inner = tuple_text (tuple_text (children_texts child inner) ∷ link_text inner.first leaf.module_name leaf.class_name ∷ [])

-- it is the spelling of the state's graph
abbrev pub InnerIsSpelled : Type 0
InnerIsSpelled =
    (child leaf : Class) (inner : Inner) → spelling_of (inner_graph child leaf inner).nodes (inner_graph child leaf inner).root ≡ Ok (inner_text child leaf inner)

-- it makes five nodes for each separator, and ten more
abbrev pub InnerMakesFew : Type 0
InnerMakesFew =
    (child leaf : Class) (inner : Inner) → (root_piece (inner_graph child leaf inner).nodes (inner_graph child leaf inner).root).made ≤ 5 * length inner.tail + 10
