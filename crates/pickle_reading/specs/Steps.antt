-- What each token does to what a reader keeps, whatever is kept of a node.
use Rattle.std.specs.Prelude.{ℕ, ℤ, Bool, true, false, List, [], ◌∷◌, ◌++◌, Option, Some, None, Result, Ok, Err, length, slice_get, slice_set, nat_lt, ◌≡◌, if◌then◌else◌}
use Rattle.std.specs.Int.RustNames.{unsigned_abs}
use Rattle.pickle_ops.specs.declared.table.Op.{Op}
use Rattle.pickle_ops.specs.declared.table.Op.TheVariants as ops
use Rattle.pickle_reading.specs.declared.error.PickleError.{PickleError}
use Rattle.pickle_reading.specs.declared.error.PickleError.TheVariants as errors
use Rattle.pickle_reading.specs.declared.state.Item.{Item}
use Rattle.pickle_reading.specs.declared.state.Item.TheVariants.{Value, Mark}
use Rattle.pickle_reading.specs.declared.state.Extent.{Extent}
use Rattle.pickle_reading.specs.declared.state.Extent.TheVariants.{Marked, Top}
use Rattle.pickle_reading.specs.declared.state.State.{State}
use Rattle.pickle_reading.specs.Stacks.{put_at, node_at}

-- memory is free to run out; every other refusal is the one of the definition
abbrev pub RefusesAs : {X : Type 0} → PickleError → Result X PickleError → Type 0
RefusesAs errors.Memory read = Unit {0}
RefusesAs (errors.Token e) read = read ≡ Err (errors.Token e)
RefusesAs (errors.Stack at) read = read ≡ Err (errors.Stack at)
RefusesAs (errors.Memo at) read = read ≡ Err (errors.Memo at)
RefusesAs (errors.TooLarge at) read = read ≡ Err (errors.TooLarge at)
RefusesAs (errors.BadReference at) read = read ≡ Err (errors.BadReference at)

-- the answer is the one of the definition
abbrev pub AnswersAs : {X : Type 0} → Result X PickleError → Result X PickleError → Type 0
AnswersAs (Ok x) read = read ≡ Ok x
AnswersAs (Err e) read = RefusesAs e read

-- What is kept of nodes: of each an L, of values that a token takes from the stack a V, of what it adds to a node an A.
pub record Keeping (L V A : Type 0) : Type 0 where
  -- of the node that an opcode with its argument, a number or bytes, makes by itself
  pub leaf : Op → ℤ → List ℕ → Option L
  -- of the values of an extent, with what lies below them; or there are none to take
  pub taken : Extent → List Item → Option (V × List Item)
  -- of a tuple of values
  pub tuple : List L → V → L
  -- values are added, or values as keys and values, if none is left over, or a state
  pub values : V → A
  pub pairs : V → Option A
  pub state : ℕ → A
  -- of the node with an addition, where it takes one of that kind
  pub added : A → Option L → Option L
  -- whether a node is a tuple
  pub is_tuple : Option L → Bool
  -- of an object of a callee and its arguments, and of a reference
  pub object : ℕ → ℕ → Bool → L
  pub reference : ℕ → L

-- an addition was made where there is a node with it, and else there is none
abbrev pub IsAdded : {L : Type 0} → Bool → List L → ℕ → Option L → List L → Type 0
IsAdded is old number None new = is ≡ false
IsAdded is old number (Some node) new = (is ≡ true) × (new ≡ slice_set old number node)

-- what a token leaves, or the refusal
abbrev pub Stepped : Type 0 → Type 0
Stepped L = Result (State L) PickleError

-- a new node, and its number on the top of the stack; no more nodes than the limit
abbrev pub make : {L : Type 0} → ℕ → L → State L → Stepped L
make at node s =
    if nat_lt (length s.nodes) s.limit then
    Ok (record s { nodes = s.nodes ++ node ∷ []; stack = Value (length s.nodes) ∷ s.stack })
    else Err (errors.TooLarge at)

-- an item more on the top
abbrev pub push : {L : Type 0} → Item → State L → Stepped L
push item s = Ok (record s { stack = item ∷ s.stack })

-- a value or a mark is taken from the top
abbrev pub popped : {L : Type 0} → ℕ → State L → List Item → Stepped L
popped at s [] = Err (errors.Stack at)
popped at s (item ∷ below) = Ok (record s { stack = below })

-- a mark and all above it are taken
abbrev pub unmarked : {L V : Type 0} → ℕ → State L → Option (V × List Item) → Stepped L
unmarked at s None = Err (errors.Stack at)
unmarked at s (Some found) = Ok (record s { stack = found.1 })

-- the value on the top a second time
abbrev pub doubled : {L : Type 0} → ℕ → State L → List Item → Stepped L
doubled at s (Value v ∷ below) = push (Value v) s
doubled at s _ = Err (errors.Stack at)

-- the node on the top with an addition
abbrev pub changed : {L : Type 0} → ℕ → State L → ℕ → List Item → Option L → Stepped L
changed at s n below None = Err (errors.Stack at)
changed at s n below (Some node) = Ok (record s { nodes = slice_set s.nodes n node; stack = Value n ∷ below })

-- the value on the top is put under a number
abbrev pub put_of : {L : Type 0} → ℕ → ℕ → State L → List Item → Stepped L
put_of at number s (Value v ∷ below) = Ok (record s { memo = put_at s.memo number v })
put_of at number s _ = Err (errors.Stack at)

-- what was put under a number
abbrev pub get_of : {L : Type 0} → ℕ → State L → Option ℕ → Stepped L
get_of at s None = Err (errors.Memo at)
get_of at s (Some v) = push (Value v) s

-- a leaf is made, if the token has one; else what its opcode does
abbrev pub leaf_or : {L : Type 0} → ℕ → State L → Option L → Stepped L → Stepped L
leaf_or at s (Some node) other = make at node s
leaf_or at s None other = other

-- a tuple of the values taken
abbrev pub tuple_of : {L V A : Type 0} → Keeping L V A → ℕ → State L → Option (V × List Item) → Stepped L
tuple_of k at s None = Err (errors.Stack at)
tuple_of k at s (Some found) = make at (k.tuple s.nodes found.0) (record s { stack = found.1 })

-- an addition to the node on the top
abbrev pub add_to : {L V A : Type 0} → Keeping L V A → ℕ → State L → A → List Item → Stepped L
add_to k at s addition (Value n ∷ below) = changed at s n below (k.added addition (slice_get s.nodes n))
add_to k at s addition _ = Err (errors.Stack at)

-- the values taken are appended to the node below them
abbrev pub append_to : {L V A : Type 0} → Keeping L V A → ℕ → State L → Option (V × List Item) → Stepped L
append_to k at s None = Err (errors.Stack at)
append_to k at s (Some found) = add_to k at s (k.values found.0) found.1

-- the pairs of the values taken are set in the node below them
abbrev pub set_pairs : {L V A : Type 0} → Keeping L V A → ℕ → State L → Option A → List Item → Stepped L
set_pairs k at s None stack = Err (errors.Stack at)
set_pairs k at s (Some pairs) stack = add_to k at s pairs stack

-- the values taken are set as pairs in the node below them
abbrev pub set_in : {L V A : Type 0} → Keeping L V A → ℕ → State L → Option (V × List Item) → Stepped L
set_in k at s None = Err (errors.Stack at)
set_in k at s (Some found) = set_pairs k at s (k.pairs found.0) found.1

-- the value on the top becomes the state of the object below it
abbrev pub build_of : {L V A : Type 0} → Keeping L V A → ℕ → State L → List Item → Stepped L
build_of k at s (Value state ∷ below) = add_to k at s (k.state state) below
build_of k at s _ = Err (errors.Stack at)

-- an object of a callee and, on the top, its arguments
abbrev pub object_of : {L V A : Type 0} → Keeping L V A → Bool → ℕ → State L → List Item → Stepped L
object_of k by_new at s (Value arguments ∷ Value callee ∷ below) =
    if k.is_tuple (slice_get s.nodes arguments) then make at (k.object callee arguments by_new) (record s { stack = below })
    else Err (errors.Stack at)
object_of k by_new at s _ = Err (errors.Stack at)

-- a reference to the value on the top
abbrev pub reference_of : {L V A : Type 0} → Keeping L V A → ℕ → State L → List Item → Stepped L
reference_of k at s (Value id ∷ below) = make at (k.reference id) (record s { stack = below })
reference_of k at s _ = Err (errors.Stack at)

-- what an opcode does that makes no node by itself
abbrev pub act_of : {L V A : Type 0} → Keeping L V A → Op → ℕ → ℤ → State L → Stepped L
act_of k ops.Proto at number s = Ok s
act_of k ops.Mark at number s = push Mark s
act_of k ops.Pop at number s = popped at s s.stack
act_of k ops.PopMark at number s = unmarked at s (k.taken Marked s.stack)
act_of k ops.Dup at number s = doubled at s s.stack
act_of k ops.Tuple at number s = tuple_of k at s (k.taken Marked s.stack)
act_of k ops.Tuple1 at number s = tuple_of k at s (k.taken (Top 1) s.stack)
act_of k ops.Tuple2 at number s = tuple_of k at s (k.taken (Top 2) s.stack)
act_of k ops.Tuple3 at number s = tuple_of k at s (k.taken (Top 3) s.stack)
act_of k ops.Append at number s = append_to k at s (k.taken (Top 1) s.stack)
act_of k ops.Appends at number s = append_to k at s (k.taken Marked s.stack)
act_of k ops.SetItem at number s = set_in k at s (k.taken (Top 2) s.stack)
act_of k ops.SetItems at number s = set_in k at s (k.taken Marked s.stack)
act_of k ops.Reduce at number s = object_of k false at s s.stack
act_of k ops.NewObj at number s = object_of k true at s s.stack
act_of k ops.Build at number s = build_of k at s s.stack
act_of k ops.BinPersid at number s = reference_of k at s s.stack
act_of k ops.BinPut at number s = put_of at (unsigned_abs number) s s.stack
act_of k ops.LongBinPut at number s = put_of at (unsigned_abs number) s s.stack
act_of k ops.BinGet at number s = get_of at s (node_at s.memo (unsigned_abs number))
act_of k ops.LongBinGet at number s = get_of at s (node_at s.memo (unsigned_abs number))
act_of k _ at number s = Err (errors.Stack at)

-- what a token at a place does: an opcode with its argument, a number or bytes
abbrev pub step : {L V A : Type 0} → Keeping L V A → Op → ℕ → ℤ → List ℕ → State L → Stepped L
step k op at number bytes s = leaf_or at s (k.leaf op number bytes) (act_of k op at number s)
