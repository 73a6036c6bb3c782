-- The numbers that a reader keeps, and those in tuples, are numbers of nodes.
use Rattle.std.proofs.Common.{◌≡◌, ℕ, ℤ, zero, suc, ◌+◌, ◌<◌, ◌≤◌, Bool, true, false, cond, List, [], ◌∷◌, ◌++◌, length, Option, Some, None, Err, arith, length-append, ltb}
use Rattle.std.specs.Prelude.{slice_get, slice_set}
use Rattle.std.specs.Int.RustNames.{unsigned_abs}
use Rattle.std.proofs.lemmas.List.{length-set}
use Rattle.pickle_ops.specs.declared.table.Op.{Op}
use Rattle.pickle_ops.specs.declared.table.Op.TheVariants as ops
use Rattle.pickle_graph.specs.declared.node.Node.{Node}
use Rattle.pickle_graph.specs.declared.node.Node.TheVariants as kinds
use Rattle.pickle_reading.specs.declared.error.PickleError.TheVariants as errors
use Rattle.pickle_reading.specs.declared.additions.Addition.{Addition}
use Rattle.pickle_reading.specs.declared.additions.Addition.TheVariants as additions
use Rattle.pickle_reading.specs.Nodes.{State}
use Rattle.pickle_reading.specs.declared.state.Extent.TheVariants.{Marked, Top}
use Rattle.pickle_reading.specs.declared.state.Item.{Item}
use Rattle.pickle_reading.specs.declared.state.Item.TheVariants.{Value, Mark}
use Rattle.pickle_graph.specs.Graph.{is_tuple}
use Rattle.pickle_reading.specs.Stacks.{TakenValues, values_taken, node_at}
use Rattle.pickle_reading.specs.Leaves.{long_number, long_of, leaf_of}
use Rattle.pickle_reading.specs.Additions.{pairs_of, added}
use Rattle.pickle_reading.specs.Steps.{make, popped, unmarked, doubled, changed, put_of, get_of, leaf_or}
use Rattle.pickle_reading.specs.Nodes.{Outcome, tuple_of, add_to, append_to, set_pairs, set_in, build_of, object_of, reference_of, act_of, step}
use Rattle.pickle_reading.specs.Sound.{StackBelow, MemoBelow, TupleBelow, TuplesBelow}
use Rattle.pickle_reading.specs.SoundLaws.{all-more, stack-more, memo-more, TakenBelow, taken-below, put_at-below, ValueBelow, node_at-below}
use Rattle.pickle_references.proofs.Grown.{After, either}

pub record Inside (s : State) : Type 0 where
  pub tuples : TuplesBelow (length s.nodes) s.nodes
  pub values : StackBelow (length s.nodes) s.stack
  pub puts : MemoBelow (length s.nodes) s.memo

node-wider : (n m : ℕ) (x : Node) → n ≤ m → TupleBelow n x → TupleBelow m x
node-wider n m (kinds.Tuple items) le h = all-more n m items le h
node-wider n m _ le h = tt

nodes-wider : (n m : ℕ) (xs : List Node) → n ≤ m → TuplesBelow n xs → TuplesBelow m xs
nodes-wider n m [] le h = tt
nodes-wider n m (x ∷ xs) le h = (node-wider n m x le h.0, nodes-wider n m xs le h.1)

nodes-one_more : (n : ℕ) (xs : List Node) (x : Node) → TuplesBelow n xs → TupleBelow n x → TuplesBelow n (xs ++ x ∷ [])
nodes-one_more n [] x h k = (k, tt)
nodes-one_more n (y ∷ xs) x h k = (h.0, nodes-one_more n xs x h.1 k)

nodes-replaced : (n : ℕ) (xs : List Node) (i : ℕ) (x : Node) → TuplesBelow n xs → TupleBelow n x → TuplesBelow n (slice_set xs i x)
nodes-replaced n [] i x h k = tt
nodes-replaced n (y ∷ xs) zero x h k = (k, h.1)
nodes-replaced n (y ∷ xs) (suc i) x h k = (h.0, nodes-replaced n xs i x h.1 k)

make-inside : (at : ℕ) (x : Node) (s : State) → Inside s → TupleBelow (length s.nodes) x → After Inside (make at x s)
make-inside at x s h k =
    let n : length (s.nodes ++ x ∷ []) ≡ length s.nodes + 1 = length-append s.nodes (x ∷ []) in
    let wide : length s.nodes ≤ length (s.nodes ++ x ∷ []) = omega (arith, n) in
    let inside : Inside (record s { nodes = s.nodes ++ x ∷ []; stack = Value (length s.nodes) ∷ s.stack }) = record {
      tuples = nodes-one_more (length (s.nodes ++ x ∷ [])) s.nodes x (nodes-wider (length s.nodes) _ s.nodes wide h.tuples) (node-wider (length s.nodes) _ x wide k);
      values = (omega (arith, n), stack-more (length s.nodes) _ s.stack wide h.values);
      puts = memo-more (length s.nodes) _ s.memo wide h.puts;
    } in
    either Inside (ltb (length s.nodes) s.limit) _ (Err (errors.TooLarge at)) inside tt

-- the same state with another stack
restacked : (s : State) (stack : List Item) → Inside s → StackBelow (length s.nodes) stack → Inside (record s { stack = stack })
restacked s stack h k = record { tuples = h.tuples; values = k; puts = h.puts }

tuple_of-inside : (at : ℕ) (s : State) (found : TakenValues) → Inside s → TakenBelow (length s.nodes) found → After Inside (tuple_of at s found)
tuple_of-inside at s None h k = tt
tuple_of-inside at s (Some found) h k = make-inside at (kinds.Tuple found.0) (record s { stack = found.1 }) (restacked s found.1 h k.1) k.0

-- no tuple, if it is a node
abbrev Additive : Option Node → Type 0
Additive None = Unit {0}
Additive (Some x) = (n : ℕ) → TupleBelow n x

added-additive : (addition : Addition) (found : Option Node) → Additive (added addition found)
added-additive addition (Some (kinds.Object callee arguments by_new acts)) = λ n. tt
added-additive (additions.Values values) (Some (kinds.List items)) = λ n. tt
added-additive (additions.Pairs new) (Some (kinds.Dict pairs)) = λ n. tt
added-additive _ _ = tt

changed-inside : (at : ℕ) (s : State) (n : ℕ) (below : List Item) (found : Option Node) → Inside s → n < length s.nodes → StackBelow (length s.nodes) below → Additive found → After Inside (changed at s n below found)
changed-inside at s n below None h l b k = tt
changed-inside at s n below (Some x) h l b k =
    let len : length (slice_set s.nodes n x) ≡ length s.nodes = length-set s.nodes n x in
    let wide : length s.nodes ≤ length (slice_set s.nodes n x) = omega (arith, len) in
    record {
      tuples = nodes-replaced (length (slice_set s.nodes n x)) s.nodes n x (nodes-wider (length s.nodes) _ s.nodes wide h.tuples) (k _);
      values = (omega (arith, len, l), stack-more (length s.nodes) _ below wide b);
      puts = memo-more (length s.nodes) _ s.memo wide h.puts;
    }

add_to-inside : (at : ℕ) (s : State) (addition : Addition) (stack : List Item) → Inside s → StackBelow (length s.nodes) stack → After Inside (add_to at s addition stack)
add_to-inside at s addition (Value n ∷ below) h k = changed-inside at s n below (added addition (slice_get s.nodes n)) h k.0 k.1 (added-additive addition (slice_get s.nodes n))
add_to-inside at s addition _ h k = tt

append_to-inside : (at : ℕ) (s : State) (found : TakenValues) → Inside s → TakenBelow (length s.nodes) found → After Inside (append_to at s found)
append_to-inside at s None h k = tt
append_to-inside at s (Some found) h k = add_to-inside at s (additions.Values found.0) found.1 h k.1

set_pairs-inside : (at : ℕ) (s : State) (pairs : Option (List (ℕ × ℕ))) (stack : List Item) → Inside s → StackBelow (length s.nodes) stack → After Inside (set_pairs at s pairs stack)
set_pairs-inside at s None stack h k = tt
set_pairs-inside at s (Some pairs) stack h k = add_to-inside at s (additions.Pairs pairs) stack h k

set_in-inside : (at : ℕ) (s : State) (found : TakenValues) → Inside s → TakenBelow (length s.nodes) found → After Inside (set_in at s found)
set_in-inside at s None h k = tt
set_in-inside at s (Some found) h k = set_pairs-inside at s (pairs_of found.0) found.1 h k.1

build_of-inside : (at : ℕ) (s : State) (stack : List Item) → Inside s → StackBelow (length s.nodes) stack → After Inside (build_of at s stack)
build_of-inside at s (Value state ∷ below) h k = add_to-inside at s (additions.State state) below h k.1
build_of-inside at s _ h k = tt

popped-inside : (at : ℕ) (s : State) (stack : List Item) → Inside s → StackBelow (length s.nodes) stack → After Inside (popped at s stack)
popped-inside at s [] h k = tt
popped-inside at s (Value v ∷ below) h k = restacked s below h k.1
popped-inside at s (Mark ∷ below) h k = restacked s below h k

unmarked-inside : (at : ℕ) (s : State) (found : TakenValues) → Inside s → TakenBelow (length s.nodes) found → After Inside (unmarked at s found)
unmarked-inside at s None h k = tt
unmarked-inside at s (Some found) h k = restacked s found.1 h k.1

doubled-inside : (at : ℕ) (s : State) (stack : List Item) → Inside s → StackBelow (length s.nodes) stack → After Inside (doubled at s stack)
doubled-inside at s (Value v ∷ below) h k = restacked s (Value v ∷ s.stack) h (k.0, h.values)
doubled-inside at s _ h k = tt

object_of-inside : (by_new : Bool) (at : ℕ) (s : State) (stack : List Item) → Inside s → StackBelow (length s.nodes) stack → After Inside (object_of by_new at s stack)
object_of-inside by_new at s (Value arguments ∷ Value callee ∷ below) h k =
    either Inside (is_tuple (slice_get s.nodes arguments)) _ (Err (errors.Stack at))
    (make-inside at (kinds.Object callee arguments by_new []) (record s { stack = below }) (restacked s below h k.1.1) tt) tt
object_of-inside by_new at s _ h k = tt

reference_of-inside : (at : ℕ) (s : State) (stack : List Item) → Inside s → StackBelow (length s.nodes) stack → After Inside (reference_of at s stack)
reference_of-inside at s (Value id ∷ below) h k = make-inside at (kinds.Reference id) (record s { stack = below }) (restacked s below h k.1) tt
reference_of-inside at s _ h k = tt

put_of-inside : (at number : ℕ) (s : State) (stack : List Item) → Inside s → StackBelow (length s.nodes) stack → After Inside (put_of at number s stack)
put_of-inside at number s (Value v ∷ below) h k = record { tuples = h.tuples; values = h.values; puts = put_at-below (length s.nodes) s.memo number v h.puts k.0 }
put_of-inside at number s _ h k = tt

get_of-inside : (at : ℕ) (s : State) (found : Option ℕ) → Inside s → ValueBelow (length s.nodes) found → After Inside (get_of at s found)
get_of-inside at s None h k = tt
get_of-inside at s (Some v) h k = restacked s (Value v ∷ s.stack) h (k, h.values)

act_of-inside : (op : Op) (at : ℕ) (number : ℤ) (s : State) → Inside s → After Inside (act_of op at number s)
act_of-inside ops.Proto at number s h = h
act_of-inside ops.Mark at number s h = restacked s (Mark ∷ s.stack) h h.values
act_of-inside ops.Pop at number s h = popped-inside at s s.stack h h.values
act_of-inside ops.PopMark at number s h = unmarked-inside at s (values_taken Marked s.stack) h (taken-below (length s.nodes) Marked s.stack h.values)
act_of-inside ops.Dup at number s h = doubled-inside at s s.stack h h.values
act_of-inside ops.Tuple at number s h = tuple_of-inside at s (values_taken Marked s.stack) h (taken-below (length s.nodes) Marked s.stack h.values)
act_of-inside ops.Tuple1 at number s h = tuple_of-inside at s (values_taken (Top 1) s.stack) h (taken-below (length s.nodes) (Top 1) s.stack h.values)
act_of-inside ops.Tuple2 at number s h = tuple_of-inside at s (values_taken (Top 2) s.stack) h (taken-below (length s.nodes) (Top 2) s.stack h.values)
act_of-inside ops.Tuple3 at number s h = tuple_of-inside at s (values_taken (Top 3) s.stack) h (taken-below (length s.nodes) (Top 3) s.stack h.values)
act_of-inside ops.Append at number s h = append_to-inside at s (values_taken (Top 1) s.stack) h (taken-below (length s.nodes) (Top 1) s.stack h.values)
act_of-inside ops.Appends at number s h = append_to-inside at s (values_taken Marked s.stack) h (taken-below (length s.nodes) Marked s.stack h.values)
act_of-inside ops.SetItem at number s h = set_in-inside at s (values_taken (Top 2) s.stack) h (taken-below (length s.nodes) (Top 2) s.stack h.values)
act_of-inside ops.SetItems at number s h = set_in-inside at s (values_taken Marked s.stack) h (taken-below (length s.nodes) Marked s.stack h.values)
act_of-inside ops.Reduce at number s h = object_of-inside false at s s.stack h h.values
act_of-inside ops.NewObj at number s h = object_of-inside true at s s.stack h h.values
act_of-inside ops.Build at number s h = build_of-inside at s s.stack h h.values
act_of-inside ops.BinPersid at number s h = reference_of-inside at s s.stack h h.values
act_of-inside ops.BinPut at number s h = put_of-inside at (unsigned_abs number) s s.stack h h.values
act_of-inside ops.LongBinPut at number s h = put_of-inside at (unsigned_abs number) s s.stack h h.values
act_of-inside ops.BinGet at number s h = get_of-inside at s (node_at s.memo (unsigned_abs number)) h (node_at-below (length s.nodes) s.memo (unsigned_abs number) h.puts)
act_of-inside ops.LongBinGet at number s h = get_of-inside at s (node_at s.memo (unsigned_abs number)) h (node_at-below (length s.nodes) s.memo (unsigned_abs number) h.puts)
act_of-inside _ at number s h = tt

-- a node that a token makes by itself
abbrev LeafInside : ℕ → Option Node → Type 0
LeafInside n None = Unit {0}
LeafInside n (Some x) = TupleBelow n x

long-inside : (n : ℕ) (bytes : List ℕ) → TupleBelow n (long_of bytes)
long-inside n bytes = test (ltb 16 (length bytes))
  where
    test : (b : Bool) → TupleBelow n (cond b (kinds.Wide bytes) (kinds.Number (long_number bytes)))
    test true = tt
    test false = tt

leaf-inside : (n : ℕ) (op : Op) (number : ℤ) (bytes : List ℕ) → LeafInside n (leaf_of op number bytes)
leaf-inside n ops.Long1 number bytes = long-inside n bytes
leaf-inside n ops.Long4 number bytes = long-inside n bytes
leaf-inside n _ number bytes = tt

leaf_or-inside : (at : ℕ) (s : State) (found : Option Node) (outcome : Outcome) → Inside s → LeafInside (length s.nodes) found → After Inside outcome → After Inside (leaf_or at s found outcome)
leaf_or-inside at s (Some x) outcome h k o = make-inside at x s h k
leaf_or-inside at s None outcome h k o = o

-- A step keeps the numbers inside.
pub step-inside : (op : Op) (at : ℕ) (number : ℤ) (bytes : List ℕ) (s : State) → Inside s → After Inside (step op at number bytes s)
step-inside op at number bytes s h = leaf_or-inside at s (leaf_of op number bytes) (act_of op at number s) h (leaf-inside (length s.nodes) op number bytes) (act_of-inside op at number s h)
