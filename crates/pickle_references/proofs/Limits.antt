-- A token leaves the limit as it is.
use Rattle.std.proofs.Common.{◌≡◌, ℕ, ℤ, true, false, Bool, List, [], ◌∷◌, Option, Some, None, Err, length, refl, ltb}
use Rattle.std.specs.Prelude.{slice_get}
use Rattle.std.specs.Int.RustNames.{unsigned_abs}
use Rattle.pickle_ops.specs.declared.table.Op.{Op}
use Rattle.pickle_ops.specs.declared.table.Op.TheVariants as ops
use Rattle.pickle_graph.specs.declared.node.Node.{Node}
use Rattle.pickle_graph.specs.declared.node.Node.TheVariants as kinds
use Rattle.pickle_reading.specs.declared.error.PickleError.TheVariants as errors
use Rattle.pickle_reading.specs.declared.additions.Addition.{Addition}
use Rattle.pickle_reading.specs.declared.additions.Addition.TheVariants as additions
use Rattle.pickle_reading.specs.Nodes.{State}
use Rattle.pickle_reading.specs.declared.state.Extent.TheVariants.{Marked, Top}
use Rattle.pickle_reading.specs.declared.state.Item.{Item}
use Rattle.pickle_reading.specs.declared.state.Item.TheVariants.{Value}
use Rattle.pickle_graph.specs.Graph.{is_tuple}
use Rattle.pickle_reading.specs.Stacks.{TakenValues, values_taken, node_at}
use Rattle.pickle_reading.specs.Leaves.{leaf_of}
use Rattle.pickle_reading.specs.Additions.{pairs_of, added}
use Rattle.pickle_reading.specs.Steps.{make, popped, unmarked, doubled, changed, put_of, get_of, leaf_or}
use Rattle.pickle_reading.specs.Nodes.{Outcome, tuple_of, add_to, append_to, set_pairs, set_in, build_of, object_of, reference_of, act_of, step}
use Rattle.pickle_references.proofs.Grown.{After, either}

abbrev pub Limited : ℕ → Outcome → Type 0
Limited limit outcome = After (λ s. s.limit ≡ limit) outcome

make-limited : (at : ℕ) (node : Node) (s : State) → Limited s.limit (make at node s)
make-limited at node s = either (λ t. t.limit ≡ s.limit) (ltb (length s.nodes) s.limit) _ (Err (errors.TooLarge at)) refl tt

popped-limited : (at : ℕ) (s : State) (stack : List Item) → Limited s.limit (popped at s stack)
popped-limited at s [] = tt
popped-limited at s (item ∷ below) = refl

unmarked-limited : (at : ℕ) (s : State) (found : TakenValues) → Limited s.limit (unmarked at s found)
unmarked-limited at s None = tt
unmarked-limited at s (Some found) = refl

doubled-limited : (at : ℕ) (s : State) (stack : List Item) → Limited s.limit (doubled at s stack)
doubled-limited at s (Value v ∷ below) = refl
doubled-limited at s _ = tt

tuple_of-limited : (at : ℕ) (s : State) (found : TakenValues) → Limited s.limit (tuple_of at s found)
tuple_of-limited at s None = tt
tuple_of-limited at s (Some found) = make-limited at (kinds.Tuple found.0) (record s { stack = found.1 })

changed-limited : (at : ℕ) (s : State) (n : ℕ) (below : List Item) (node : Option Node) → Limited s.limit (changed at s n below node)
changed-limited at s n below None = tt
changed-limited at s n below (Some node) = refl

add_to-limited : (at : ℕ) (s : State) (addition : Addition) (stack : List Item) → Limited s.limit (add_to at s addition stack)
add_to-limited at s addition (Value n ∷ below) = changed-limited at s n below (added addition (slice_get s.nodes n))
add_to-limited at s addition _ = tt

append_to-limited : (at : ℕ) (s : State) (found : TakenValues) → Limited s.limit (append_to at s found)
append_to-limited at s None = tt
append_to-limited at s (Some found) = add_to-limited at s (additions.Values found.0) found.1

set_pairs-limited : (at : ℕ) (s : State) (pairs : Option (List (ℕ × ℕ))) (stack : List Item) → Limited s.limit (set_pairs at s pairs stack)
set_pairs-limited at s None stack = tt
set_pairs-limited at s (Some pairs) stack = add_to-limited at s (additions.Pairs pairs) stack

set_in-limited : (at : ℕ) (s : State) (found : TakenValues) → Limited s.limit (set_in at s found)
set_in-limited at s None = tt
set_in-limited at s (Some found) = set_pairs-limited at s (pairs_of found.0) found.1

build_of-limited : (at : ℕ) (s : State) (stack : List Item) → Limited s.limit (build_of at s stack)
build_of-limited at s (Value state ∷ below) = add_to-limited at s (additions.State state) below
build_of-limited at s _ = tt

object_of-limited : (by_new : Bool) (at : ℕ) (s : State) (stack : List Item) → Limited s.limit (object_of by_new at s stack)
object_of-limited by_new at s (Value arguments ∷ Value callee ∷ below) =
    either (λ t. t.limit ≡ s.limit) (is_tuple (slice_get s.nodes arguments)) _ (Err (errors.Stack at)) (make-limited at (kinds.Object callee arguments by_new []) (record s { stack = below })) tt
object_of-limited by_new at s _ = tt

reference_of-limited : (at : ℕ) (s : State) (stack : List Item) → Limited s.limit (reference_of at s stack)
reference_of-limited at s (Value id ∷ below) = make-limited at (kinds.Reference id) (record s { stack = below })
reference_of-limited at s _ = tt

put_of-limited : (at number : ℕ) (s : State) (stack : List Item) → Limited s.limit (put_of at number s stack)
put_of-limited at number s (Value v ∷ below) = refl
put_of-limited at number s _ = tt

get_of-limited : (at : ℕ) (s : State) (found : Option ℕ) → Limited s.limit (get_of at s found)
get_of-limited at s None = tt
get_of-limited at s (Some v) = refl

act_of-limited : (op : Op) (at : ℕ) (number : ℤ) (s : State) → Limited s.limit (act_of op at number s)
act_of-limited ops.Proto at number s = refl
act_of-limited ops.Mark at number s = refl
act_of-limited ops.Pop at number s = popped-limited at s s.stack
act_of-limited ops.PopMark at number s = unmarked-limited at s (values_taken Marked s.stack)
act_of-limited ops.Dup at number s = doubled-limited at s s.stack
act_of-limited ops.Tuple at number s = tuple_of-limited at s (values_taken Marked s.stack)
act_of-limited ops.Tuple1 at number s = tuple_of-limited at s (values_taken (Top 1) s.stack)
act_of-limited ops.Tuple2 at number s = tuple_of-limited at s (values_taken (Top 2) s.stack)
act_of-limited ops.Tuple3 at number s = tuple_of-limited at s (values_taken (Top 3) s.stack)
act_of-limited ops.Append at number s = append_to-limited at s (values_taken (Top 1) s.stack)
act_of-limited ops.Appends at number s = append_to-limited at s (values_taken Marked s.stack)
act_of-limited ops.SetItem at number s = set_in-limited at s (values_taken (Top 2) s.stack)
act_of-limited ops.SetItems at number s = set_in-limited at s (values_taken Marked s.stack)
act_of-limited ops.Reduce at number s = object_of-limited false at s s.stack
act_of-limited ops.NewObj at number s = object_of-limited true at s s.stack
act_of-limited ops.Build at number s = build_of-limited at s s.stack
act_of-limited ops.BinPersid at number s = reference_of-limited at s s.stack
act_of-limited ops.BinPut at number s = put_of-limited at (unsigned_abs number) s s.stack
act_of-limited ops.LongBinPut at number s = put_of-limited at (unsigned_abs number) s s.stack
act_of-limited ops.BinGet at number s = get_of-limited at s (node_at s.memo (unsigned_abs number))
act_of-limited ops.LongBinGet at number s = get_of-limited at s (node_at s.memo (unsigned_abs number))
act_of-limited _ at number s = tt

leaf_or-limited : (at : ℕ) (s : State) (node : Option Node) (outcome : Outcome) → Limited s.limit outcome → Limited s.limit (leaf_or at s node outcome)
leaf_or-limited at s (Some node) outcome h = make-limited at node s
leaf_or-limited at s None outcome h = h

pub step-limited : (op : Op) (at : ℕ) (number : ℤ) (bytes : List ℕ) (s : State) → Limited s.limit (step op at number bytes s)
step-limited op at number bytes s = leaf_or-limited at s (leaf_of op number bytes) (act_of op at number s) (act_of-limited op at number s)
