-- A step keeps a state sound.
use Rattle.std.proofs.Common.{◌≡◌, ℕ, ℤ, zero, suc, ◌+◌, ◌<◌, ◌≤◌, ◌^◌, Bool, true, false, cond, List, [], ◌∷◌, ◌++◌, length, Option, Some, None, Ok, Err, refl, arith, sym, ◌∙◌, ap, subst, length-append, ltb}
use Rattle.std.specs.Prelude.{slice_get, slice_set}
use Rattle.std.specs.Int.RustNames.{unsigned_abs}
use Rattle.std.specs.declared.cmp.Ordering.{Ordering}
use Rattle.std.specs.declared.cmp.Ordering.TheVariants.{Less, Equal, Greater}
use Rattle.std.specs.Ordering.{nat_cmp, match_ordering}
use Rattle.std.specs.BTreeMap.{is_at, insert_entry}
use Rattle.std.specs.Map.{lookup}
use Rattle.std.proofs.lemmas.Bool.{false≢true, ltb-true, ltb-false}
use Rattle.std.proofs.lemmas.List.{length-set}
use Rattle.pickle_ops.specs.declared.table.Op.{Op}
use Rattle.pickle_ops.specs.declared.table.Op.TheVariants as ops
use Rattle.pickle_ops.specs.Fits.{Fits}
use Rattle.pickle_ops.specs.Grammar.{SpellsLines, IsGlobalLine}
use Rattle.pickle_graph.specs.declared.node.Node.{Node}
use Rattle.pickle_graph.specs.declared.node.Node.TheVariants as kinds
use Rattle.pickle_graph.specs.declared.node.Act.{Act}
use Rattle.pickle_graph.specs.declared.node.Act.TheVariants.{Append, Set, Build}
use Rattle.pickle_reading.specs.declared.error.PickleError.TheVariants as errors
use Rattle.pickle_reading.specs.declared.additions.Addition.{Addition}
use Rattle.pickle_reading.specs.declared.additions.Addition.TheVariants as additions
use Rattle.pickle_reading.specs.Nodes.{State}
use Rattle.pickle_reading.specs.declared.state.Extent.{Extent}
use Rattle.pickle_reading.specs.declared.state.Extent.TheVariants.{Marked, Top}
use Rattle.pickle_reading.specs.declared.state.Item.{Item}
use Rattle.pickle_reading.specs.declared.state.Item.TheVariants.{Value, Mark}
use Rattle.pickle_graph.specs.Graph.{AllBelow, PairsBelow, ActBelow, ActsBelow, is_tuple, IsObject, IsNode, AreNodes}
use Rattle.pickle_reading.specs.Stacks.{TakenValues, above_mark, top_values, values_taken, put_at, node_at}
use Rattle.pickle_reading.specs.Leaves.{long_number, long_of, first_line, behind_line, global_of, leaf_of}
use Rattle.pickle_reading.specs.Additions.{with_pair, pairs_of, append_acts, set_acts, acts_with, added}
use Rattle.pickle_reading.specs.Steps.{make, popped, unmarked, doubled, changed, put_of, get_of, leaf_or}
use Rattle.pickle_reading.specs.Nodes.{Outcome, tuple_of, add_to, append_to, set_pairs, set_in, build_of, object_of, reference_of, act_of, step}
use Rattle.pickle_reading.specs.Sound.{StackBelow, MemoBelow, IsSoundState}
use Rattle.pickle_reading.specs.LineLaws.{first-line, behind-line}
use Rattle.pickle_reading.specs.LongLaws.{long-signed, signed32-wider, below-wider}
use Rattle.zb_base.specs.Bytes.{AreBytes}

-- what holds of the state, if there is one
abbrev pub SoundAfter : Outcome → Type 0
SoundAfter (Ok s) = IsSoundState s
SoundAfter (Err e) = Unit {0}

-- what holds of a node, if there is one
abbrev NodeIn : List Node → Option Node → Type 0
NodeIn ns None = Unit {0}
NodeIn ns (Some made) = IsNode ns made

-- nodes that come after others, whose tuples stay tuples
record Grows (ns ms : List Node) : Type 0 where
  longer : length ns ≤ length ms
  tuples : (i : ℕ) → is_tuple (slice_get ns i) ≡ true → is_tuple (slice_get ms i) ≡ true

pub all-more : (n m : ℕ) (xs : List ℕ) → n ≤ m → AllBelow n xs → AllBelow m xs
all-more n m [] le h = tt
all-more n m (x ∷ xs) le h = (omega (arith, h.0), all-more n m xs le h.1)

pairs-more : (n m : ℕ) (xs : List (ℕ × ℕ)) → n ≤ m → PairsBelow n xs → PairsBelow m xs
pairs-more n m [] le h = tt
pairs-more n m (x ∷ xs) le h = (omega (arith, h.0), omega (arith, h.1), pairs-more n m xs le h.2)

act-more : (n m : ℕ) (act : Act) → n ≤ m → ActBelow n act → ActBelow m act
act-more n m (Append value) le h = omega (arith, h)
act-more n m (Set key value) le h = (omega (arith, h.0), omega (arith, h.1))
act-more n m (Build state) le h = omega (arith, h)

acts-more : (n m : ℕ) (acts : List Act) → n ≤ m → ActsBelow n acts → ActsBelow m acts
acts-more n m [] le h = tt
acts-more n m (act ∷ acts) le h = (act-more n m act le h.0, acts-more n m acts le h.1)

object-more : (ns ms : List Node) (callee arguments : ℕ) (acts : List Act) → Grows ns ms → IsObject ns callee arguments acts → IsObject ms callee arguments acts
object-more ns ms callee arguments acts g h = record {
  called = omega (arith, h.called, g.longer);
  taken = g.tuples arguments h.taken;
  done = acts-more (length ns) (length ms) acts g.longer h.done;
}

node-more : (ns ms : List Node) (made : Node) → Grows ns ms → IsNode ns made → IsNode ms made
node-more ns ms kinds.None g h = tt
node-more ns ms (kinds.Bool b) g h = tt
node-more ns ms (kinds.Number number) g h = h
node-more ns ms (kinds.Wide bytes) g h = h
node-more ns ms (kinds.Float bytes) g h = h
node-more ns ms (kinds.Bytes bytes) g h = h
node-more ns ms (kinds.OldText bytes) g h = h
node-more ns ms (kinds.Text bytes) g h = h
node-more ns ms (kinds.Tuple items) g h = all-more (length ns) (length ms) items g.longer h
node-more ns ms (kinds.List items) g h = all-more (length ns) (length ms) items g.longer h
node-more ns ms (kinds.Dict pairs) g h = pairs-more (length ns) (length ms) pairs g.longer h
node-more ns ms (kinds.Global module_line name_line) g h = h
node-more ns ms (kinds.Reference id) g h = omega (arith, h, g.longer)
node-more ns ms (kinds.Object callee arguments by_new acts) g h = object-more ns ms callee arguments acts g h

nodes-more : (ns ms xs : List Node) → Grows ns ms → AreNodes ns xs → AreNodes ms xs
nodes-more ns ms [] g h = tt
nodes-more ns ms (x ∷ xs) g h = (node-more ns ms x g h.0, nodes-more ns ms xs g h.1)

nodes-push : (ns xs : List Node) (made : Node) → AreNodes ns xs → IsNode ns made → AreNodes ns (xs ++ made ∷ [])
nodes-push ns [] made h k = (k, tt)
nodes-push ns (x ∷ xs) made h k = (h.0, nodes-push ns xs made h.1 k)

nodes-set : (ns xs : List Node) (i : ℕ) (made : Node) → AreNodes ns xs → IsNode ns made → AreNodes ns (slice_set xs i made)
nodes-set ns [] i made h k = tt
nodes-set ns (x ∷ xs) zero made h k = (k, h.1)
nodes-set ns (x ∷ xs) (suc i) made h k = (h.0, nodes-set ns xs i made h.1 k)

nodes-get : (ns xs : List Node) (i : ℕ) → AreNodes ns xs → NodeIn ns (slice_get xs i)
nodes-get ns [] i h = tt
nodes-get ns (x ∷ xs) zero h = h.0
nodes-get ns (x ∷ xs) (suc i) h = nodes-get ns xs i h.1

tuple-push : (ns : List Node) (i : ℕ) (made : Node) → is_tuple (slice_get ns i) ≡ true → is_tuple (slice_get (ns ++ made ∷ []) i) ≡ true
tuple-push [] i made h = absurd (false≢true h)
tuple-push (x ∷ ns) zero made h = h
tuple-push (x ∷ ns) (suc i) made h = tuple-push ns i made h

tuple-set : (ns : List Node) (i : ℕ) (made : Node) (j : ℕ) → is_tuple (slice_get ns i) ≡ false → is_tuple (slice_get ns j) ≡ true → is_tuple (slice_get (slice_set ns i made) j) ≡ true
tuple-set [] i made j f h = absurd (false≢true h)
tuple-set (x ∷ ns) zero made zero f h = absurd (false≢true (sym f ∙ h))
tuple-set (x ∷ ns) zero made (suc j) f h = h
tuple-set (x ∷ ns) (suc i) made zero f h = h
tuple-set (x ∷ ns) (suc i) made (suc j) f h = tuple-set ns i made j f h

tuple-inside : (ns : List Node) (i : ℕ) → is_tuple (slice_get ns i) ≡ true → i < length ns
tuple-inside [] i h = absurd (false≢true h)
tuple-inside (x ∷ ns) zero h = omega arith
tuple-inside (x ∷ ns) (suc i) h = let ih = tuple-inside ns i h in omega (arith, ih)

push-length : (ns : List Node) (made : Node) → length (ns ++ made ∷ []) ≡ length ns + 1
push-length ns made = length-append ns (made ∷ [])

grows-push : (ns : List Node) (made : Node) → Grows ns (ns ++ made ∷ [])
grows-push ns made = record {
  longer = omega (arith, push-length ns made);
  tuples = λ i h. tuple-push ns i made h;
}

grows-set : (ns : List Node) (i : ℕ) (made : Node) → is_tuple (slice_get ns i) ≡ false → Grows ns (slice_set ns i made)
grows-set ns i made f = record {
  longer = omega (arith, length-set ns i made);
  tuples = λ j h. tuple-set ns i made j f h;
}

pub stack-more : (n m : ℕ) (xs : List Item) → n ≤ m → StackBelow n xs → StackBelow m xs
stack-more n m [] le h = tt
stack-more n m (Value v ∷ xs) le h = (omega (arith, h.0), stack-more n m xs le h.1)
stack-more n m (Mark ∷ xs) le h = stack-more n m xs le h

pub memo-more : (n m : ℕ) (xs : List (ℕ × ℕ)) → n ≤ m → MemoBelow n xs → MemoBelow m xs
memo-more n m [] le h = tt
memo-more n m (x ∷ xs) le h = (omega (arith, h.0), memo-more n m xs le h.1)

-- values that were taken, and what lies below them
abbrev pub TakenBelow : ℕ → TakenValues → Type 0
TakenBelow n None = Unit {0}
TakenBelow n (Some found) = AllBelow n found.0 × StackBelow n found.1

above-below : (n : ℕ) (xs : List Item) (values : List ℕ) → StackBelow n xs → AllBelow n values → TakenBelow n (above_mark xs values)
above-below n [] values h k = tt
above-below n (Value v ∷ xs) values h k = above-below n xs (v ∷ values) h.1 (h.0, k)
above-below n (Mark ∷ xs) values h k = (k, h)

top-below : (n count : ℕ) (xs : List Item) (values : List ℕ) → StackBelow n xs → AllBelow n values → TakenBelow n (top_values count xs values)
top-below n zero xs values h k = (k, h)
top-below n (suc count) (Value v ∷ xs) values h k = top-below n count xs (v ∷ values) h.1 (h.0, k)
top-below n (suc count) _ values h k = tt

pub taken-below : (n : ℕ) (extent : Extent) (xs : List Item) → StackBelow n xs → TakenBelow n (values_taken extent xs)
taken-below n Marked xs h = above-below n xs [] h tt
taken-below n (Top count) xs h = top-below n count xs [] h tt

all-append : (n : ℕ) (xs ys : List ℕ) → AllBelow n xs → AllBelow n ys → AllBelow n (xs ++ ys)
all-append n [] ys h k = k
all-append n (x ∷ xs) ys h k = (h.0, all-append n xs ys h.1 k)

pairs-append : (n : ℕ) (xs ys : List (ℕ × ℕ)) → PairsBelow n xs → PairsBelow n ys → PairsBelow n (xs ++ ys)
pairs-append n [] ys h k = k
pairs-append n (x ∷ xs) ys h k = (h.0, h.1, pairs-append n xs ys h.2 k)

acts-append : (n : ℕ) (xs ys : List Act) → ActsBelow n xs → ActsBelow n ys → ActsBelow n (xs ++ ys)
acts-append n [] ys h k = k
acts-append n (x ∷ xs) ys h k = (h.0, acts-append n xs ys h.1 k)

append_acts-below : (n : ℕ) (values : List ℕ) → AllBelow n values → ActsBelow n (append_acts values)
append_acts-below n [] h = tt
append_acts-below n (value ∷ values) h = (h.0, append_acts-below n values h.1)

set_acts-below : (n : ℕ) (pairs : List (ℕ × ℕ)) → PairsBelow n pairs → ActsBelow n (set_acts pairs)
set_acts-below n [] h = tt
set_acts-below n (pair ∷ pairs) h = ((h.0, h.1), set_acts-below n pairs h.2)

-- pairs, if there are any
abbrev PairsIn : ℕ → Option (List (ℕ × ℕ)) → Type 0
PairsIn n None = Unit {0}
PairsIn n (Some pairs) = PairsBelow n pairs

with_pair-below : (n key value : ℕ) (pairs : Option (List (ℕ × ℕ))) → key < n → value < n → PairsIn n pairs → PairsIn n (with_pair (key, value) pairs)
with_pair-below n key value None k v h = tt
with_pair-below n key value (Some pairs) k v h = (k, v, h)

pairs_of-below : (n : ℕ) (values : List ℕ) → AllBelow n values → PairsIn n (pairs_of values)
pairs_of-below n [] h = tt
pairs_of-below n (key ∷ []) h = tt
pairs_of-below n (key ∷ value ∷ rest) h = with_pair-below n key value (pairs_of rest) h.0 h.1.0 (pairs_of-below n rest h.1.1)

abbrev AdditionBelow : ℕ → Addition → Type 0
AdditionBelow n (additions.Values values) = AllBelow n values
AdditionBelow n (additions.Pairs pairs) = PairsBelow n pairs
AdditionBelow n (additions.State state) = state < n

acts_with-below : (n : ℕ) (addition : Addition) (acts : List Act) → AdditionBelow n addition → ActsBelow n acts → ActsBelow n (acts_with addition acts)
acts_with-below n (additions.Values values) acts h k = acts-append n acts (append_acts values) k (append_acts-below n values h)
acts_with-below n (additions.Pairs pairs) acts h k = acts-append n acts (set_acts pairs) k (set_acts-below n pairs h)
acts_with-below n (additions.State state) acts h k = acts-append n acts (Build state ∷ []) k (h, tt)

-- a changed node, which was no tuple
abbrev ChangedIn : List Node → Option Node → Option Node → Type 0
ChangedIn ns found None = Unit {0}
ChangedIn ns found (Some made) = IsNode ns made × (is_tuple found ≡ false)

object-added : (ns : List Node) (addition : Addition) (callee arguments : ℕ) (acts : List Act) → AdditionBelow (length ns) addition → IsObject ns callee arguments acts → IsObject ns callee arguments (acts_with addition acts)
object-added ns addition callee arguments acts h k = record { called = k.called; taken = k.taken; done = acts_with-below (length ns) addition acts h k.done }

added-sound : (ns : List Node) (addition : Addition) (found : Option Node) → AdditionBelow (length ns) addition → NodeIn ns found → ChangedIn ns found (added addition found)
added-sound ns addition (Some (kinds.Object callee arguments by_new acts)) h k = (object-added ns addition callee arguments acts h k, refl)
added-sound ns (additions.Values values) (Some (kinds.List items)) h k = (all-append (length ns) items values k h, refl)
added-sound ns (additions.Pairs new) (Some (kinds.Dict pairs)) h k = (pairs-append (length ns) pairs new k h, refl)
added-sound ns _ _ h k = tt

-- either outcome
either : (b : Bool) (x y : Outcome) → SoundAfter x → SoundAfter y → SoundAfter (cond b x y)
either true x y h k = h
either false x y h k = k

make-sound : (at : ℕ) (made : Node) (s : State) → IsSoundState s → IsNode s.nodes made → SoundAfter (make at made s)
make-sound at made s h k = test (ltb (length s.nodes) s.limit) refl
  where
    test : (b : Bool) → ltb (length s.nodes) s.limit ≡ b → SoundAfter (cond b (Ok (record s { nodes = s.nodes ++ made ∷ []; stack = Value (length s.nodes) ∷ s.stack })) (Err (errors.TooLarge at)))
    test true e =
        let g : Grows s.nodes (s.nodes ++ made ∷ []) = grows-push s.nodes made in
        let n : length (s.nodes ++ made ∷ []) ≡ length s.nodes + 1 = push-length s.nodes made in
        let less = ltb-true (length s.nodes) s.limit e in
        record {
          nodes = nodes-push (s.nodes ++ made ∷ []) s.nodes made (nodes-more s.nodes _ s.nodes g h.nodes) (node-more s.nodes _ made g k);
          values = (omega (arith, n), stack-more (length s.nodes) _ s.stack g.longer h.values);
          puts = memo-more (length s.nodes) _ s.memo g.longer h.puts;
          few = omega (arith, n, less);
        }
    test false e = tt

-- the same state with another stack
restacked : (s : State) (stack : List Item) → IsSoundState s → StackBelow (length s.nodes) stack → IsSoundState (record s { stack = stack })
restacked s stack h k = record { nodes = h.nodes; values = k; puts = h.puts; few = h.few }

tuple_of-sound : (at : ℕ) (s : State) (found : TakenValues) → IsSoundState s → TakenBelow (length s.nodes) found → SoundAfter (tuple_of at s found)
tuple_of-sound at s None h k = tt
tuple_of-sound at s (Some found) h k = make-sound at (kinds.Tuple found.0) (record s { stack = found.1 }) (restacked s found.1 h k.1) k.0

changed-sound : (at : ℕ) (s : State) (n : ℕ) (below : List Item) (made : Option Node) → IsSoundState s → n < length s.nodes → StackBelow (length s.nodes) below → ChangedIn s.nodes (slice_get s.nodes n) made → SoundAfter (changed at s n below made)
changed-sound at s n below None h l b k = tt
changed-sound at s n below (Some made) h l b k =
    let g : Grows s.nodes (slice_set s.nodes n made) = grows-set s.nodes n made k.1 in
    record {
      nodes = nodes-more s.nodes _ _ g (nodes-set s.nodes s.nodes n made h.nodes k.0);
      values = (omega (arith, l, g.longer), stack-more (length s.nodes) _ below g.longer b);
      puts = memo-more (length s.nodes) _ s.memo g.longer h.puts;
      few = let e = length-set s.nodes n made in omega (arith, e, h.few);
    }

add_to-sound : (at : ℕ) (s : State) (addition : Addition) (stack : List Item) → IsSoundState s → AdditionBelow (length s.nodes) addition → StackBelow (length s.nodes) stack → SoundAfter (add_to at s addition stack)
add_to-sound at s addition (Value n ∷ below) h a k =
    changed-sound at s n below (added addition (slice_get s.nodes n)) h k.0 k.1 (added-sound s.nodes addition (slice_get s.nodes n) a (nodes-get s.nodes s.nodes n h.nodes))
add_to-sound at s addition _ h a k = tt

append_to-sound : (at : ℕ) (s : State) (found : TakenValues) → IsSoundState s → TakenBelow (length s.nodes) found → SoundAfter (append_to at s found)
append_to-sound at s None h k = tt
append_to-sound at s (Some found) h k = add_to-sound at s (additions.Values found.0) found.1 h k.0 k.1

set_pairs-sound : (at : ℕ) (s : State) (pairs : Option (List (ℕ × ℕ))) (stack : List Item) → IsSoundState s → PairsIn (length s.nodes) pairs → StackBelow (length s.nodes) stack → SoundAfter (set_pairs at s pairs stack)
set_pairs-sound at s None stack h p k = tt
set_pairs-sound at s (Some pairs) stack h p k = add_to-sound at s (additions.Pairs pairs) stack h p k

set_in-sound : (at : ℕ) (s : State) (found : TakenValues) → IsSoundState s → TakenBelow (length s.nodes) found → SoundAfter (set_in at s found)
set_in-sound at s None h k = tt
set_in-sound at s (Some found) h k = set_pairs-sound at s (pairs_of found.0) found.1 h (pairs_of-below (length s.nodes) found.0 k.0) k.1

build_of-sound : (at : ℕ) (s : State) (stack : List Item) → IsSoundState s → StackBelow (length s.nodes) stack → SoundAfter (build_of at s stack)
build_of-sound at s (Value state ∷ below) h k = add_to-sound at s (additions.State state) below h k.0 k.1
build_of-sound at s _ h k = tt

popped-sound : (at : ℕ) (s : State) (stack : List Item) → IsSoundState s → StackBelow (length s.nodes) stack → SoundAfter (popped at s stack)
popped-sound at s [] h k = tt
popped-sound at s (Value v ∷ below) h k = restacked s below h k.1
popped-sound at s (Mark ∷ below) h k = restacked s below h k

unmarked-sound : (at : ℕ) (s : State) (found : TakenValues) → IsSoundState s → TakenBelow (length s.nodes) found → SoundAfter (unmarked at s found)
unmarked-sound at s None h k = tt
unmarked-sound at s (Some found) h k = restacked s found.1 h k.1

doubled-sound : (at : ℕ) (s : State) (stack : List Item) → IsSoundState s → StackBelow (length s.nodes) stack → SoundAfter (doubled at s stack)
doubled-sound at s (Value v ∷ below) h k = restacked s (Value v ∷ s.stack) h (k.0, h.values)
doubled-sound at s _ h k = tt

object_of-sound : (by_new : Bool) (at : ℕ) (s : State) (stack : List Item) → IsSoundState s → StackBelow (length s.nodes) stack → SoundAfter (object_of by_new at s stack)
object_of-sound by_new at s (Value arguments ∷ Value callee ∷ below) h k = test (is_tuple (slice_get s.nodes arguments)) refl
  where
    test : (b : Bool) → is_tuple (slice_get s.nodes arguments) ≡ b → SoundAfter (cond b (make at (kinds.Object callee arguments by_new []) (record s { stack = below })) (Err (errors.Stack at)))
    test true e = make-sound at (kinds.Object callee arguments by_new []) (record s { stack = below }) (restacked s below h k.1.1) (record { called = k.1.0; taken = e; done = tt })
    test false e = tt
object_of-sound by_new at s _ h k = tt

reference_of-sound : (at : ℕ) (s : State) (stack : List Item) → IsSoundState s → StackBelow (length s.nodes) stack → SoundAfter (reference_of at s stack)
reference_of-sound at s (Value id ∷ below) h k = make-sound at (kinds.Reference id) (record s { stack = below }) (restacked s below h k.1) k.0
reference_of-sound at s _ h k = tt

by_order : (n : ℕ) (o : Ordering) (a b c : List (ℕ × ℕ)) → MemoBelow n a → MemoBelow n b → MemoBelow n c → MemoBelow n (match_ordering o a b c)
by_order n Less a b c h k l = h
by_order n Equal a b c h k l = k
by_order n Greater a b c h k l = l

pub put_at-below : (n : ℕ) (memo : List (ℕ × ℕ)) (number v : ℕ) → MemoBelow n memo → v < n → MemoBelow n (put_at memo number v)
put_at-below n [] number v h k = (k, tt)
put_at-below n (e ∷ es) number v h k =
    by_order n (nat_cmp number e.0) ((number, v) ∷ e ∷ es) ((e.0, v) ∷ es) (e ∷ insert_entry nat_cmp es number v) (k, (h.0, h.1)) (k, h.1) (h.0, put_at-below n es number v h.1 k)

put_of-sound : (at number : ℕ) (s : State) (stack : List Item) → IsSoundState s → StackBelow (length s.nodes) stack → SoundAfter (put_of at number s stack)
put_of-sound at number s (Value v ∷ below) h k = record { nodes = h.nodes; values = h.values; puts = put_at-below (length s.nodes) s.memo number v h.puts k.0; few = h.few }
put_of-sound at number s _ h k = tt

-- a number of a node, if there is one
abbrev pub ValueBelow : ℕ → Option ℕ → Type 0
ValueBelow n None = Unit {0}
ValueBelow n (Some v) = v < n

pick : (n v : ℕ) (b : Bool) (rest : Option ℕ) → v < n → ValueBelow n rest → ValueBelow n (cond b (Some v) rest)
pick n v true rest h k = h
pick n v false rest h k = k

pub node_at-below : (n : ℕ) (memo : List (ℕ × ℕ)) (number : ℕ) → MemoBelow n memo → ValueBelow n (node_at memo number)
node_at-below n [] number h = tt
node_at-below n (e ∷ es) number h = pick n e.1 (is_at (nat_cmp number) e.0) (lookup (is_at (nat_cmp number)) es) h.0 (node_at-below n es number h.1)

get_of-sound : (at : ℕ) (s : State) (found : Option ℕ) → IsSoundState s → ValueBelow (length s.nodes) found → SoundAfter (get_of at s found)
get_of-sound at s None h k = tt
get_of-sound at s (Some v) h k = restacked s (Value v ∷ s.stack) h (k, h.values)

act_of-sound : (op : Op) (at : ℕ) (number : ℤ) (s : State) → IsSoundState s → SoundAfter (act_of op at number s)
act_of-sound ops.Proto at number s h = h
act_of-sound ops.Mark at number s h = restacked s (Mark ∷ s.stack) h h.values
act_of-sound ops.Pop at number s h = popped-sound at s s.stack h h.values
act_of-sound ops.PopMark at number s h = unmarked-sound at s (values_taken Marked s.stack) h (taken-below (length s.nodes) Marked s.stack h.values)
act_of-sound ops.Dup at number s h = doubled-sound at s s.stack h h.values
act_of-sound ops.Tuple at number s h = tuple_of-sound at s (values_taken Marked s.stack) h (taken-below (length s.nodes) Marked s.stack h.values)
act_of-sound ops.Tuple1 at number s h = tuple_of-sound at s (values_taken (Top 1) s.stack) h (taken-below (length s.nodes) (Top 1) s.stack h.values)
act_of-sound ops.Tuple2 at number s h = tuple_of-sound at s (values_taken (Top 2) s.stack) h (taken-below (length s.nodes) (Top 2) s.stack h.values)
act_of-sound ops.Tuple3 at number s h = tuple_of-sound at s (values_taken (Top 3) s.stack) h (taken-below (length s.nodes) (Top 3) s.stack h.values)
act_of-sound ops.Append at number s h = append_to-sound at s (values_taken (Top 1) s.stack) h (taken-below (length s.nodes) (Top 1) s.stack h.values)
act_of-sound ops.Appends at number s h = append_to-sound at s (values_taken Marked s.stack) h (taken-below (length s.nodes) Marked s.stack h.values)
act_of-sound ops.SetItem at number s h = set_in-sound at s (values_taken (Top 2) s.stack) h (taken-below (length s.nodes) (Top 2) s.stack h.values)
act_of-sound ops.SetItems at number s h = set_in-sound at s (values_taken Marked s.stack) h (taken-below (length s.nodes) Marked s.stack h.values)
act_of-sound ops.Reduce at number s h = object_of-sound false at s s.stack h h.values
act_of-sound ops.NewObj at number s h = object_of-sound true at s s.stack h h.values
act_of-sound ops.Build at number s h = build_of-sound at s s.stack h h.values
act_of-sound ops.BinPersid at number s h = reference_of-sound at s s.stack h h.values
act_of-sound ops.BinPut at number s h = put_of-sound at (unsigned_abs number) s s.stack h h.values
act_of-sound ops.LongBinPut at number s h = put_of-sound at (unsigned_abs number) s s.stack h h.values
act_of-sound ops.BinGet at number s h = get_of-sound at s (node_at s.memo (unsigned_abs number)) h (node_at-below (length s.nodes) s.memo (unsigned_abs number) h.puts)
act_of-sound ops.LongBinGet at number s h = get_of-sound at s (node_at s.memo (unsigned_abs number)) h (node_at-below (length s.nodes) s.memo (unsigned_abs number) h.puts)
act_of-sound _ at number s h = tt

long_of-sound : (ns : List Node) (bytes : List ℕ) → AreBytes bytes → length bytes < 2 ^ 31 → IsNode ns (long_of bytes)
long_of-sound ns bytes are short = test (ltb 16 (length bytes)) refl
  where
    test : (b : Bool) → ltb 16 (length bytes) ≡ b → IsNode ns (cond b (kinds.Wide bytes) (kinds.Number (long_number bytes)))
    test true e = record { long = ltb-true _ _ e; short = short }
    test false e = long-signed bytes are (ltb-false _ _ e)

global_of-sound : (ns : List Node) (number : ℤ) (bytes : List ℕ) → SpellsLines bytes number bytes → IsNode ns (global_of bytes)
global_of-sound ns number bytes h =
    let first : first_line bytes ≡ h.first = ap first_line h.spelled ∙ first-line h.first (h.second ++ 10 ∷ []) h.module_line.one in
    let rest : behind_line bytes ≡ h.second ++ 10 ∷ [] = ap behind_line h.spelled ∙ behind-line h.first (h.second ++ 10 ∷ []) h.module_line.one in
    let second : first_line (behind_line bytes) ≡ h.second = ap first_line rest ∙ first-line h.second [] h.name_line.one in
    record { first = subst IsGlobalLine (sym first) h.module_line; second = subst IsGlobalLine (sym second) h.name_line }

leaf_of-sound : (ns : List Node) (op : Op) (number : ℤ) (bytes : List ℕ) → AreBytes bytes → Fits op number bytes → NodeIn ns (leaf_of op number bytes)
leaf_of-sound ns ops.None number bytes are f = tt
leaf_of-sound ns ops.NewTrue number bytes are f = tt
leaf_of-sound ns ops.NewFalse number bytes are f = tt
leaf_of-sound ns ops.BinInt number bytes are f = signed32-wider number f
leaf_of-sound ns ops.BinInt1 number bytes are f = below-wider (2 ^ 8) number (omega arith) f
leaf_of-sound ns ops.BinInt2 number bytes are f = below-wider (2 ^ 16) number (omega arith) f
leaf_of-sound ns ops.Long1 number bytes are f = long_of-sound ns bytes are (omega (arith, f))
leaf_of-sound ns ops.Long4 number bytes are f = long_of-sound ns bytes are f
leaf_of-sound ns ops.BinFloat number bytes are f = f
leaf_of-sound ns ops.BinBytes number bytes are f = f
leaf_of-sound ns ops.ShortBinBytes number bytes are f = omega (arith, f)
leaf_of-sound ns ops.BinString number bytes are f = f
leaf_of-sound ns ops.ShortBinString number bytes are f = omega (arith, f)
leaf_of-sound ns ops.BinUnicode number bytes are f = f
leaf_of-sound ns ops.EmptyTuple number bytes are f = tt
leaf_of-sound ns ops.EmptyList number bytes are f = tt
leaf_of-sound ns ops.EmptyDict number bytes are f = tt
leaf_of-sound ns ops.Global number bytes are f = global_of-sound ns number bytes f
leaf_of-sound ns _ number bytes are f = tt

leaf_or-sound : (at : ℕ) (s : State) (made : Option Node) (outcome : Outcome) → IsSoundState s → NodeIn s.nodes made → SoundAfter outcome → SoundAfter (leaf_or at s made outcome)
leaf_or-sound at s (Some made) outcome h k o = make-sound at made s h k
leaf_or-sound at s None outcome h k o = o

-- A step keeps a state sound.
pub step-sound : (op : Op) (at : ℕ) (number : ℤ) (bytes : List ℕ) (s : State) → AreBytes bytes → Fits op number bytes → IsSoundState s → SoundAfter (step op at number bytes s)
step-sound op at number bytes s are f h =
    leaf_or-sound at s (leaf_of op number bytes) (act_of op at number s) h (leaf_of-sound s.nodes op number bytes are f) (act_of-sound op at number s h)
