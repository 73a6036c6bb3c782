-- Puts in their order, and what they make of the contents. Own.
use Rattle.std.specs.Prelude.{ℕ, suc, Bool, true, false, List, [], ◌∷◌, Option, Some, None, Result, Ok, Err, nat_lt, ◌==◌, if◌then◌else◌, ◌&&◌}
use Rattle.pickle_graph.specs.Graph.{Graph, IsGraph}
use Rattle.pickle_writing.specs.Spelling.{Spelled}
use Rattle.btree_family.specs.Classes.{Class}
use Rattle.zb_record.specs.declared.error.RecordError.{RecordError}
use Rattle.pickle_graph.specs.Class.{is_class}
use Rattle.zb_record.specs.Records.{record_of, object_text}
use Rattle.btree_family.specs.declared.bucket.Item.{Item}
use Rattle.bucket_state.specs.declared.tree.Branch.{Branch}
use Rattle.btree_shapes.specs.declared.node.Node.{Node}
use Rattle.btree_shapes.specs.declared.node.Node.TheVariants as node
use Rattle.btree_shapes.specs.Classes.{class_named, is_class_of}
use Rattle.btree_shapes.specs.Nodes.{node_of}
use Rattle.btree_shapes.specs.Spaces.{with_bytes, record_bytes}
use Rattle.btree_putting.specs.declared.puts.Put.{Put}
use Rattle.btree_putting.specs.Items.{same_items, same_branches}
use Rattle.btree_putting.specs.Writing.{node_graph, node_state, AreNodeValues}

abbrev pub put_oid : Put → ℕ
put_oid put = put.oid

-- ---- nodes, by what they hold

abbrev pub leaf_node : List Item → Option ℕ → Node
leaf_node items next = node.Leaf (record { items = items; next = next })

abbrev pub lone_node : List Item → Option ℕ → Node
lone_node items next = node.Lone (record { items = items; next = next })

abbrev pub inner_node : ℕ → List Branch → ℕ → Node
inner_node head tail first = node.Inner (record { head = head; tail = tail; first = first })

-- ---- order

abbrev pub put_place : ℕ → List Put → ℕ
put_place oid [] = 0
put_place oid (put ∷ puts) = if nat_lt put.oid oid then suc (put_place oid puts) else 0

-- one put before all whose numbers aren't smaller
abbrev pub add_put : Put → List Put → List Put
add_put put [] = put ∷ []
add_put put (other ∷ others) = if nat_lt other.oid put.oid then other ∷ add_put put others else put ∷ other ∷ others

abbrev pub add_all : List Put → List Put → List Put
add_all [] puts = puts
add_all (put ∷ more) puts = add_put put (add_all more puts)

-- in rising order of numbers, those of one number in the order in which they stood
abbrev pub sort_puts : List Put → List Put
sort_puts puts = add_all puts []

-- ---- what can be put

abbrev pub same_link : Option ℕ → Option ℕ → Bool
same_link None None = true
same_link None (Some b) = false
same_link (Some a) None = false
same_link (Some a) (Some b) = a == b

-- two nodes hold the same
abbrev pub same_node : Node → Node → Bool
same_node (node.Lone a) (node.Lone b) = same_items a.items b.items
same_node (node.Leaf a) (node.Leaf b) = same_items a.items b.items && same_link a.next b.next
same_node (node.Inner a) (node.Inner b) = (a.head == b.head) && (same_branches a.tail b.tail && (a.first == b.first))
same_node (node.Lone a) (node.Leaf b) = false
same_node (node.Lone a) (node.Inner b) = false
same_node (node.Leaf a) (node.Lone b) = false
same_node (node.Leaf a) (node.Inner b) = false
same_node (node.Inner a) (node.Lone b) = false
same_node (node.Inner a) (node.Leaf b) = false

abbrev pub is_copy : Node → Option Node → Bool
is_copy node None = false
is_copy node (Some copy) = same_node copy node

abbrev pub is_class_kept : Graph → Option Class → Bool
is_class_kept class None = false
is_class_kept class (Some named) = is_class_of named class

-- a record reads as the same node, of the same class of BTrees
abbrev pub reads_as : Class → Put → Result (Graph × Graph) RecordError → Bool
reads_as class put (Err e) = false
reads_as class put (Ok copy) = is_class_kept put.class (class_named copy.0) && is_copy put.node (node_of class copy.0 copy.1)

abbrev pub text_reads_as : Class → Put → Spelled → Bool
text_reads_as class put (Err e) = false
text_reads_as class put (Ok text) = reads_as class put (record_of text)

abbrev pub state_reads_as : Class → Put → Option Graph → Bool
state_reads_as class put None = false
state_reads_as class put (Some state) = is_class put.class && text_reads_as class put (object_text put.class state)

-- the record of a put, in a tree of this class with leaves of the other class, can be written and reads back
abbrev pub keeps : Class → Class → Put → Bool
keeps class leaf put = state_reads_as class put (node_state class leaf put.leaves put.node)

abbrev pub all_keep : Class → Class → List Put → Bool
all_keep class leaf [] = true
all_keep class leaf (put ∷ puts) = if keeps class leaf put then all_keep class leaf puts else false

-- the class of a put and its state are graphs, and its values spellings
pub record IsSoundPut (class leaf : Class) (put : Put) : Type 0 where
  pub class_graph : IsGraph put.class.nodes put.class.root
  pub state_graph : IsGraph (node_graph class leaf put.leaves put.node).nodes (node_graph class leaf put.leaves put.node).root
  pub values : AreNodeValues put.node

abbrev pub AreSound : Class → Class → List Put → Type 0
AreSound class leaf [] = Unit {0}
AreSound class leaf (put ∷ puts) = IsSoundPut class leaf put × AreSound class leaf puts

-- ---- what puts make of the contents

abbrev pub state_bytes : Graph → Option Graph → List ℕ
state_bytes class None = []
state_bytes class (Some state) = record_bytes class state

-- the bytes of the record of a put
abbrev pub put_bytes : Class → Class → Put → List ℕ
put_bytes class leaf put = state_bytes put.class (node_state class leaf put.leaves put.node)

-- the contents after these puts, one after another
abbrev pub put_all : Class → Class → List Put → (ℕ → Option (List ℕ)) → ℕ → Option (List ℕ)
put_all class leaf [] contents = contents
put_all class leaf (put ∷ puts) contents = put_all class leaf puts (with_bytes contents put.oid (put_bytes class leaf put))
