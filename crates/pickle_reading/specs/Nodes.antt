-- What a reader of graphs keeps: each node itself.
use Rattle.std.specs.Prelude.{ℕ, ℤ, Bool, List, [], Option, Some, None, Result}
use Rattle.pickle_ops.specs.declared.table.Op.{Op}
use Rattle.pickle_graph.specs.declared.node.Node.{Node}
use Rattle.pickle_graph.specs.declared.node.Node.TheVariants as kinds
use Rattle.pickle_reading.specs.declared.additions.Addition.{Addition}
use Rattle.pickle_reading.specs.declared.additions.Addition.TheVariants as additions
use Rattle.pickle_reading.specs.declared.error.PickleError.{PickleError}
use Rattle.pickle_reading.specs.declared.state.Item.{Item}
use Rattle.pickle_reading.specs.declared.state.State as kept
use Rattle.pickle_graph.specs.Graph.{is_tuple}
use Rattle.pickle_reading.specs.Stacks.{TakenValues, values_taken}
use Rattle.pickle_reading.specs.Leaves.{leaf_of}
use Rattle.pickle_reading.specs.Additions.{pairs_of, added}
use Rattle.pickle_reading.specs.Steps.{Keeping}
use Rattle.pickle_reading.specs.Steps as steps

abbrev pub State : Type 0
State = kept.State Node

-- keys and values are added, if there are any that go in pairs
abbrev pub in_pairs : Option (List (ℕ × ℕ)) → Option Addition
in_pairs None = None
in_pairs (Some pairs) = Some (additions.Pairs pairs)

abbrev pub nodes : Keeping Node (List ℕ) Addition
nodes = record {
  leaf = leaf_of;
  taken = values_taken;
  tuple = λ ns values. kinds.Tuple values;
  values = λ values. additions.Values values;
  pairs = λ values. in_pairs (pairs_of values);
  state = λ state. additions.State state;
  added = added;
  is_tuple = is_tuple;
  object = λ callee arguments by_new. kinds.Object callee arguments by_new [];
  reference = λ id. kinds.Reference id;
}

abbrev pub Outcome : Type 0
Outcome = Result State PickleError

abbrev pub tuple_of : ℕ → State → TakenValues → Outcome
tuple_of at s found = steps.tuple_of nodes at s found

abbrev pub add_to : ℕ → State → Addition → List Item → Outcome
add_to at s addition stack = steps.add_to nodes at s addition stack

abbrev pub append_to : ℕ → State → TakenValues → Outcome
append_to at s found = steps.append_to nodes at s found

abbrev pub set_pairs : ℕ → State → Option (List (ℕ × ℕ)) → List Item → Outcome
set_pairs at s pairs stack = steps.set_pairs nodes at s (in_pairs pairs) stack

abbrev pub set_in : ℕ → State → TakenValues → Outcome
set_in at s found = steps.set_in nodes at s found

abbrev pub build_of : ℕ → State → List Item → Outcome
build_of at s stack = steps.build_of nodes at s stack

abbrev pub object_of : Bool → ℕ → State → List Item → Outcome
object_of by_new at s stack = steps.object_of nodes by_new at s stack

abbrev pub reference_of : ℕ → State → List Item → Outcome
reference_of at s stack = steps.reference_of nodes at s stack

-- what an opcode does to a graph that makes no node by itself
abbrev pub act_of : Op → ℕ → ℤ → State → Outcome
act_of op at number s = steps.act_of nodes op at number s

-- what a token does to a graph
abbrev pub step : Op → ℕ → ℤ → List ℕ → State → Outcome
step op at number bytes s = steps.step nodes op at number bytes s
