-- What a token adds to the nodes, as far as references depend on it.
use Rattle.std.proofs.Common.{◌≡◌, ℕ, ℤ, zero, suc, Bool, true, false, cond, List, [], ◌∷◌, ◌++◌, length, Option, Some, None, Ok, Err, refl, sym, ◌∙◌, ap, ltb}
use Rattle.std.specs.Prelude.{slice_get, slice_set, map}
use Rattle.std.specs.Option.{option_map}
use Rattle.std.specs.Int.RustNames.{unsigned_abs}
use Rattle.std.proofs.lemmas.List.{map-append, append-nil}
use Rattle.pickle_ops.specs.declared.table.Op.{Op}
use Rattle.pickle_ops.specs.declared.table.Op.TheVariants as ops
use Rattle.pickle_graph.specs.declared.node.Node.{Node}
use Rattle.pickle_graph.specs.declared.node.Node.TheVariants as kinds
use Rattle.pickle_reading.specs.declared.error.PickleError.TheVariants as errors
use Rattle.pickle_reading.specs.declared.additions.Addition.{Addition}
use Rattle.pickle_reading.specs.declared.additions.Addition.TheVariants as additions
use Rattle.pickle_reading.specs.Nodes.{State}
use Rattle.pickle_reading.specs.declared.state.Extent.TheVariants.{Marked, Top}
use Rattle.pickle_reading.specs.declared.state.Item.{Item}
use Rattle.pickle_reading.specs.declared.state.Item.TheVariants.{Value}
use Rattle.pickle_graph.specs.Graph.{is_tuple}
use Rattle.pickle_reading.specs.Stacks.{TakenValues, values_taken, node_at}
use Rattle.pickle_reading.specs.Leaves.{long_number, long_of, leaf_of}
use Rattle.pickle_reading.specs.Additions.{pairs_of, added}
use Rattle.pickle_reading.specs.Steps.{make, popped, unmarked, doubled, changed, put_of, get_of, leaf_or}
use Rattle.pickle_reading.specs.Nodes.{Outcome, tuple_of, add_to, append_to, set_pairs, set_in, build_of, object_of, reference_of, act_of, step}
use Rattle.pickle_references.specs.References.{named_on, named_by_token}
use Rattle.pickle_references.specs.Named.{with_name, named_in}
use Rattle.pickle_references.specs.Cores.{core}

-- what holds of the state, if there is one
abbrev pub After : (State → Type 0) → Outcome → Type 0
After P (Ok s) = P s
After P (Err e) = Unit {0}

-- nodes came behind others, and the references among them name these oids
pub record Grown (ns : List Node) (names : List Node → Option (List ℕ)) (s : State) : Type 0 where
  pub more : List Node
  pub cores : map core s.nodes ≡ map core ns ++ more
  pub says : (cs : List Node) → named_in cs more ≡ names cs

abbrev nothing : List Node → Option (List ℕ)
nothing cs = Some []

abbrev Quiet : State → Outcome → Type 0
Quiet s outcome = After (Grown s.nodes nothing) outcome

-- no node came
same : (ns : List Node) (s : State) → map core s.nodes ≡ map core ns → Grown ns nothing s
same ns s e = record { more = []; cores = e ∙ sym (append-nil (map core ns)); says = λ cs. refl }

pub either : (P : State → Type 0) (b : Bool) (x y : Outcome) → After P x → After P y → After P (cond b x y)
either P true x y h k = h
either P false x y h k = k

make-grown : (at : ℕ) (x : Node) (s : State) (names : List Node → Option (List ℕ)) → ((cs : List Node) → named_in cs (core x ∷ []) ≡ names cs) → After (Grown s.nodes names) (make at x s)
make-grown at x s names h =
    let grown : Grown s.nodes names (record s { nodes = s.nodes ++ x ∷ []; stack = Value (length s.nodes) ∷ s.stack }) = record { more = core x ∷ []; cores = map-append core s.nodes (x ∷ []); says = h } in
    either (Grown s.nodes names) (ltb (length s.nodes) s.limit) _ (Err (errors.TooLarge at)) grown tt

tuple_of-grown : (at : ℕ) (s : State) (found : TakenValues) → Quiet s (tuple_of at s found)
tuple_of-grown at s None = tt
tuple_of-grown at s (Some found) = make-grown at (kinds.Tuple found.0) (record s { stack = found.1 }) nothing (λ cs. refl)

-- a node with an addition, if it takes one
abbrev KeepsCore : Option Node → Option Node → Type 0
KeepsCore found None = Unit {0}
KeepsCore found (Some x) = option_map core found ≡ Some (core x)

added-core : (addition : Addition) (found : Option Node) → KeepsCore found (added addition found)
added-core addition (Some (kinds.Object callee arguments by_new acts)) = refl
added-core (additions.Values values) (Some (kinds.List items)) = refl
added-core (additions.Pairs new) (Some (kinds.Dict pairs)) = refl
added-core _ _ = tt

set-core : (ns : List Node) (i : ℕ) (x : Node) → option_map core (slice_get ns i) ≡ Some (core x) → map core (slice_set ns i x) ≡ map core ns
set-core [] i x h = refl
set-core (y ∷ ns) zero x h = let e : core y ≡ core x = cc in ap (λ (z : Node). z ∷ map core ns) (sym e)
set-core (y ∷ ns) (suc i) x h = ap (λ (l : List Node). core y ∷ l) (set-core ns i x h)

changed-grown : (at : ℕ) (s : State) (n : ℕ) (below : List Item) (found : Option Node) → KeepsCore (slice_get s.nodes n) found → Quiet s (changed at s n below found)
changed-grown at s n below None h = tt
changed-grown at s n below (Some x) h = same s.nodes _ (set-core s.nodes n x h)

add_to-grown : (at : ℕ) (s : State) (addition : Addition) (stack : List Item) → Quiet s (add_to at s addition stack)
add_to-grown at s addition (Value n ∷ below) = changed-grown at s n below (added addition (slice_get s.nodes n)) (added-core addition (slice_get s.nodes n))
add_to-grown at s addition _ = tt

append_to-grown : (at : ℕ) (s : State) (found : TakenValues) → Quiet s (append_to at s found)
append_to-grown at s None = tt
append_to-grown at s (Some found) = add_to-grown at s (additions.Values found.0) found.1

set_pairs-grown : (at : ℕ) (s : State) (pairs : Option (List (ℕ × ℕ))) (stack : List Item) → Quiet s (set_pairs at s pairs stack)
set_pairs-grown at s None stack = tt
set_pairs-grown at s (Some pairs) stack = add_to-grown at s (additions.Pairs pairs) stack

set_in-grown : (at : ℕ) (s : State) (found : TakenValues) → Quiet s (set_in at s found)
set_in-grown at s None = tt
set_in-grown at s (Some found) = set_pairs-grown at s (pairs_of found.0) found.1

build_of-grown : (at : ℕ) (s : State) (stack : List Item) → Quiet s (build_of at s stack)
build_of-grown at s (Value state ∷ below) = add_to-grown at s (additions.State state) below
build_of-grown at s _ = tt

popped-grown : (at : ℕ) (s : State) (stack : List Item) → Quiet s (popped at s stack)
popped-grown at s [] = tt
popped-grown at s (item ∷ below) = same s.nodes _ refl

unmarked-grown : (at : ℕ) (s : State) (found : TakenValues) → Quiet s (unmarked at s found)
unmarked-grown at s None = tt
unmarked-grown at s (Some found) = same s.nodes _ refl

doubled-grown : (at : ℕ) (s : State) (stack : List Item) → Quiet s (doubled at s stack)
doubled-grown at s (Value v ∷ below) = same s.nodes _ refl
doubled-grown at s _ = tt

object_of-grown : (by_new : Bool) (at : ℕ) (s : State) (stack : List Item) → Quiet s (object_of by_new at s stack)
object_of-grown by_new at s (Value arguments ∷ Value callee ∷ below) =
    either (Grown s.nodes nothing) (is_tuple (slice_get s.nodes arguments)) _ (Err (errors.Stack at))
    (make-grown at (kinds.Object callee arguments by_new []) (record s { stack = below }) nothing (λ cs. refl)) tt
object_of-grown by_new at s _ = tt

reference_of-grown : (at : ℕ) (s : State) (stack : List Item) → After (Grown s.nodes (λ cs. with_name (named_on cs stack) (Some []))) (reference_of at s stack)
reference_of-grown at s (Value id ∷ below) = make-grown at (kinds.Reference id) (record s { stack = below }) (λ cs. with_name (named_on cs (Value id ∷ below)) (Some [])) (λ cs. refl)
reference_of-grown at s _ = tt

put_of-grown : (at number : ℕ) (s : State) (stack : List Item) → Quiet s (put_of at number s stack)
put_of-grown at number s (Value v ∷ below) = same s.nodes _ refl
put_of-grown at number s _ = tt

get_of-grown : (at : ℕ) (s : State) (found : Option ℕ) → Quiet s (get_of at s found)
get_of-grown at s None = tt
get_of-grown at s (Some v) = same s.nodes _ refl

-- what the token of an opcode names
abbrev pub token_names : Op → List Item → List Node → Option (List ℕ)
token_names op stack cs = with_name (named_by_token op cs stack) (Some [])

act_of-grown : (op : Op) (at : ℕ) (number : ℤ) (s : State) → After (Grown s.nodes (token_names op s.stack)) (act_of op at number s)
act_of-grown ops.Proto at number s = same s.nodes s refl
act_of-grown ops.Mark at number s = same s.nodes _ refl
act_of-grown ops.Pop at number s = popped-grown at s s.stack
act_of-grown ops.PopMark at number s = unmarked-grown at s (values_taken Marked s.stack)
act_of-grown ops.Dup at number s = doubled-grown at s s.stack
act_of-grown ops.Tuple at number s = tuple_of-grown at s (values_taken Marked s.stack)
act_of-grown ops.Tuple1 at number s = tuple_of-grown at s (values_taken (Top 1) s.stack)
act_of-grown ops.Tuple2 at number s = tuple_of-grown at s (values_taken (Top 2) s.stack)
act_of-grown ops.Tuple3 at number s = tuple_of-grown at s (values_taken (Top 3) s.stack)
act_of-grown ops.Append at number s = append_to-grown at s (values_taken (Top 1) s.stack)
act_of-grown ops.Appends at number s = append_to-grown at s (values_taken Marked s.stack)
act_of-grown ops.SetItem at number s = set_in-grown at s (values_taken (Top 2) s.stack)
act_of-grown ops.SetItems at number s = set_in-grown at s (values_taken Marked s.stack)
act_of-grown ops.Reduce at number s = object_of-grown false at s s.stack
act_of-grown ops.NewObj at number s = object_of-grown true at s s.stack
act_of-grown ops.Build at number s = build_of-grown at s s.stack
act_of-grown ops.BinPersid at number s = reference_of-grown at s s.stack
act_of-grown ops.BinPut at number s = put_of-grown at (unsigned_abs number) s s.stack
act_of-grown ops.LongBinPut at number s = put_of-grown at (unsigned_abs number) s s.stack
act_of-grown ops.BinGet at number s = get_of-grown at s (node_at s.memo (unsigned_abs number))
act_of-grown ops.LongBinGet at number s = get_of-grown at s (node_at s.memo (unsigned_abs number))
act_of-grown _ at number s = tt

-- a node that a token makes by itself
abbrev LeafNames : Op → List Item → Option Node → Type 0
LeafNames op stack None = Unit {0}
LeafNames op stack (Some x) = (cs : List Node) → named_in cs (core x ∷ []) ≡ token_names op stack cs

long-names : (bytes : List ℕ) (cs : List Node) → named_in cs (core (long_of bytes) ∷ []) ≡ Some []
long-names bytes cs = test (ltb 16 (length bytes))
  where
    test : (b : Bool) → named_in cs (core (cond b (kinds.Wide bytes) (kinds.Number (long_number bytes))) ∷ []) ≡ Some []
    test true = refl
    test false = refl

leaf-names : (op : Op) (number : ℤ) (bytes : List ℕ) (stack : List Item) → LeafNames op stack (leaf_of op number bytes)
leaf-names ops.None number bytes stack = λ cs. refl
leaf-names ops.NewTrue number bytes stack = λ cs. refl
leaf-names ops.NewFalse number bytes stack = λ cs. refl
leaf-names ops.BinInt number bytes stack = λ cs. refl
leaf-names ops.BinInt1 number bytes stack = λ cs. refl
leaf-names ops.BinInt2 number bytes stack = λ cs. refl
leaf-names ops.Long1 number bytes stack = long-names bytes
leaf-names ops.Long4 number bytes stack = long-names bytes
leaf-names ops.BinFloat number bytes stack = λ cs. refl
leaf-names ops.BinBytes number bytes stack = λ cs. refl
leaf-names ops.ShortBinBytes number bytes stack = λ cs. refl
leaf-names ops.BinString number bytes stack = λ cs. refl
leaf-names ops.ShortBinString number bytes stack = λ cs. refl
leaf-names ops.BinUnicode number bytes stack = λ cs. refl
leaf-names ops.EmptyTuple number bytes stack = λ cs. refl
leaf-names ops.EmptyList number bytes stack = λ cs. refl
leaf-names ops.EmptyDict number bytes stack = λ cs. refl
leaf-names ops.Global number bytes stack = λ cs. refl
leaf-names _ number bytes stack = tt

leaf_or-grown : (op : Op) (at : ℕ) (s : State) (found : Option Node) (outcome : Outcome) → LeafNames op s.stack found → After (Grown s.nodes (token_names op s.stack)) outcome → After (Grown s.nodes (token_names op s.stack)) (leaf_or at s found outcome)
leaf_or-grown op at s (Some x) outcome h k = make-grown at x s (token_names op s.stack) h
leaf_or-grown op at s None outcome h k = k

-- A step adds nodes, of which the references name what its token names.
pub step-grown : (op : Op) (at : ℕ) (number : ℤ) (bytes : List ℕ) (s : State) → After (Grown s.nodes (token_names op s.stack)) (step op at number bytes s)
step-grown op at number bytes s = leaf_or-grown op at s (leaf_of op number bytes) (act_of op at number s) (leaf-names op number bytes s.stack) (act_of-grown op at number s)
