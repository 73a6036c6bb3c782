-- What a reader of references keeps shows what a reader of graphs keeps, token by token.
use Rattle.std.proofs.Common.{◌≡◌, ℕ, ℤ, zero, suc, ◌+◌, ◌<◌, Bool, true, false, cond, List, [], ◌∷◌, ◌++◌, length, Option, Some, None, Result, Ok, Err, refl, arith, sym, ◌∙◌, ap, subst, ltb, eqb}
use Rattle.std.specs.Prelude.{slice_get, slice_set}
use Rattle.std.specs.Option.{option_map}
use Rattle.std.specs.Int.RustNames.{unsigned_abs}
use Rattle.std.proofs.lemmas.Option.{slice_get-map}
use Rattle.std.proofs.lemmas.List.{length-map, map-append}
use Rattle.byteorder.specs.Endian.{big_number}
use Rattle.pickle_ops.specs.declared.table.Op.{Op}
use Rattle.pickle_ops.specs.declared.table.Op.TheVariants as ops
use Rattle.pickle_ops.specs.Fits.{Fits}
use Rattle.zb_base.specs.Bytes.{AreBytes}
use Rattle.pickle_graph.specs.declared.node.Node.{Node}
use Rattle.pickle_graph.specs.declared.node.Node.TheVariants as kinds
use Rattle.pickle_reading.specs.declared.error.PickleError.{PickleError}
use Rattle.pickle_reading.specs.declared.error.PickleError.TheVariants as errors
use Rattle.pickle_reading.specs.declared.additions.Addition.{Addition}
use Rattle.pickle_reading.specs.declared.additions.Addition.TheVariants as additions
use Rattle.pickle_references.specs.declared.references.Named.{Named}
use Rattle.pickle_references.specs.declared.references.Named.TheVariants.{Strong, Weak, Bad}
use Rattle.pickle_references.specs.declared.shapes.Shape.{Shape}
use Rattle.pickle_references.specs.declared.shapes.Shape.TheVariants as kept
use Rattle.pickle_references.specs.declared.shapes.Adding.{Adding}
use Rattle.pickle_references.specs.declared.shapes.Adding.TheVariants as addings
use Rattle.pickle_reading.specs.Nodes.{State}
use Rattle.pickle_references.specs.declared.passing.Passed.{Passed}
use Rattle.pickle_reading.specs.declared.state.Extent.{Extent}
use Rattle.pickle_reading.specs.declared.state.Extent.TheVariants.{Marked, Top}
use Rattle.pickle_reading.specs.declared.state.Item.{Item}
use Rattle.pickle_reading.specs.declared.state.Item.TheVariants.{Value, Mark}
use Rattle.pickle_graph.specs.Graph.{AllBelow, is_tuple, IsNode, AreNodes}
use Rattle.pickle_reading.specs.Stacks.{TakenValues, above_mark, top_values, values_taken, node_at}
use Rattle.pickle_reading.specs.Leaves.{long_number, long_of, leaf_of}
use Rattle.pickle_reading.specs.Additions.{with_pair, pairs_of, added}
use Rattle.pickle_reading.specs.Steps.{make, popped, unmarked, doubled, changed, put_of, get_of, leaf_or}
use Rattle.pickle_reading.specs.Nodes.{Outcome, tuple_of, add_to, append_to, set_pairs, set_in, build_of, object_of, reference_of, act_of, step}
use Rattle.pickle_references.specs.References.{Finding}
use Rattle.pickle_reading.specs.declared.reading.TheConstants.{NODE_LIMIT}
use Rattle.pickle_graph.specs.Class.{is_global, begins_with_global, is_class_node, is_class}
use Rattle.pickle_reading.specs.Reading.{begun}
use Rattle.pickle_references.specs.References.{oid_in, oid_of, named_first, named_by, named_on, named_by_token, find}
use Rattle.pickle_references.specs.Naming.{noted, noted_in}
use Rattle.pickle_references.specs.Shapes.{tuple_shape, bytes_shape, named_as, lowest_as, is_tuple_shape, is_class_shape, takes, leaf_shape, PassedValues, to_mark, past_top, values_passed}
use Rattle.pickle_reading.specs.Steps as steps
use Rattle.pickle_references.specs.Naming as naming
use Rattle.pickle_references.specs.Sights.{Sight, Shapes, with_adding, shapes, shape_names, sight_step}
use Rattle.pickle_references.specs.Shown.{own_shape, first_shape, shape_of, shapes_in, shapes_of, sight_of}
use Rattle.pickle_reading.specs.Sound.{IsSoundState}
use Rattle.pickle_references.proofs.Staying.{set-same, takes-none}
use Rattle.pickle_references.proofs.Limits.{Limited, step-limited}
use Rattle.pickle_reading.specs.SoundLaws.{SoundAfter, TakenBelow, taken-below, step-sound}

-- ---- what a graph shows

-- what is kept, if there is anything
abbrev pub sight_in : Result Finding PickleError → Result Sight PickleError
sight_in (Ok f) = Ok (sight_of f)
sight_in (Err e) = Err e

-- the shapes of what a step leaves, if there is anything
abbrev shown : Outcome → Result Shapes PickleError
shown (Ok s) = Ok (shapes_of s)
shown (Err e) = Err e

get-in : (ns xs : List Node) (i : ℕ) → slice_get (shapes_in ns xs) i ≡ option_map (shape_of ns) (slice_get xs i)
get-in ns xs i = slice_get-map (shape_of ns) xs i

-- ---- what is asked of shapes

-- a test of the length that an oid has
oid_test : (P : Named → Type 0) (bytes : List ℕ) → P (Strong (big_number 8 bytes)) → P Bad → P (oid_in bytes)
oid_test P bytes h k = test (eqb (length bytes) 8)
  where
    test : (b : Bool) → P (cond b (Strong (big_number 8 bytes)) Bad)
    test true = h
    test false = k

named-bytes : (bytes : List ℕ) → named_as (Some (bytes_shape (oid_in bytes))) ≡ oid_in bytes
named-bytes bytes = oid_test (λ named. named_as (Some (bytes_shape named)) ≡ named) bytes refl refl

named-tuple : (found : Option Node) → named_as (Some (tuple_shape (option_map own_shape found))) ≡ oid_of found
named-tuple (Some (kinds.Bytes bytes)) = oid_test (λ named. named_as (Some (tuple_shape (Some (bytes_shape named)))) ≡ named) bytes refl refl
named-tuple (Some (kinds.OldText bytes)) = oid_test (λ named. named_as (Some (tuple_shape (Some (bytes_shape named)))) ≡ named) bytes refl refl
named-tuple _ = refl

named-first : (ns : List Node) (items : List ℕ) → named_as (Some (tuple_shape (first_shape ns items))) ≡ named_first ns items
named-first ns [] = refl
named-first ns (first ∷ rest) = named-tuple (slice_get ns first)

named-shape : (ns : List Node) (found : Option Node) → named_as (option_map (shape_of ns) found) ≡ named_by ns found
named-shape ns (Some (kinds.Tuple items)) = named-first ns items
named-shape ns (Some (kinds.Bytes bytes)) = named-bytes bytes
named-shape ns (Some (kinds.OldText bytes)) = named-bytes bytes
named-shape ns _ = refl

tuple-tuple : (first : Option Shape) → is_tuple_shape (Some (tuple_shape first)) ≡ true
tuple-tuple (Some (kept.Id oid)) = refl
tuple-tuple (Some kept.Global) = refl
tuple-tuple _ = refl

tuple-bytes : (named : Named) → is_tuple_shape (Some (bytes_shape named)) ≡ false
tuple-bytes (Strong oid) = refl
tuple-bytes Weak = refl
tuple-bytes Bad = refl

tuple-shape : (ns : List Node) (found : Option Node) → is_tuple_shape (option_map (shape_of ns) found) ≡ is_tuple found
tuple-shape ns (Some (kinds.Tuple items)) = tuple-tuple (first_shape ns items)
tuple-shape ns (Some (kinds.Bytes bytes)) = tuple-bytes (oid_in bytes)
tuple-shape ns (Some (kinds.OldText bytes)) = tuple-bytes (oid_in bytes)
tuple-shape ns _ = refl

-- a tuple shows nothing as the first item of another
tuple-plain : (first : Option Shape) → tuple_shape (Some (tuple_shape first)) ≡ kept.Tuple
tuple-plain (Some (kept.Id oid)) = refl
tuple-plain (Some kept.Global) = refl
tuple-plain _ = refl

own-tuple : (ns : List Node) (found : Option Node) → tuple_shape (option_map (shape_of ns) found) ≡ tuple_shape (option_map own_shape found)
own-tuple ns (Some (kinds.Tuple items)) = tuple-plain (first_shape ns items)
own-tuple ns _ = refl

-- ---- classes

class-tuple : (found : Option Node) → is_class_shape (Some (tuple_shape (option_map own_shape found))) ≡ is_global found
class-tuple (Some (kinds.Bytes bytes)) = oid_test (λ named. is_class_shape (Some (tuple_shape (Some (bytes_shape named)))) ≡ false) bytes refl refl
class-tuple (Some (kinds.OldText bytes)) = oid_test (λ named. is_class_shape (Some (tuple_shape (Some (bytes_shape named)))) ≡ false) bytes refl refl
class-tuple _ = refl

class-first : (ns : List Node) (items : List ℕ) → is_class_shape (Some (tuple_shape (first_shape ns items))) ≡ begins_with_global ns items
class-first ns [] = refl
class-first ns (first ∷ rest) = class-tuple (slice_get ns first)

class-shape : (ns : List Node) (found : Option Node) → is_class_shape (option_map (shape_of ns) found) ≡ is_class_node ns found
class-shape ns (Some (kinds.Tuple items)) = class-first ns items
class-shape ns (Some (kinds.Bytes bytes)) = oid_test (λ named. is_class_shape (Some (bytes_shape named)) ≡ false) bytes refl refl
class-shape ns (Some (kinds.OldText bytes)) = oid_test (λ named. is_class_shape (Some (bytes_shape named)) ≡ false) bytes refl refl
class-shape ns _ = refl

-- whether the node of a number may be a class is seen by its shape
pub class-seen : (ns : List Node) (root : ℕ) → is_class_shape (slice_get (shapes_in ns ns) root) ≡ is_class (record { nodes = ns; root = root })
class-seen ns root = ap is_class_shape (get-in ns ns root) ∙ class-shape ns (slice_get ns root)

-- ---- values that are passed

abbrev odd_in : List ℕ → Bool
odd_in [] = false
odd_in (v ∷ values) = cond (odd_in values) false true

abbrev lowest_in : List ℕ → Option ℕ
lowest_in [] = None
lowest_in (v ∷ values) = Some v

-- what is seen of values, the lowest first
abbrev seen_of : List ℕ → Passed
seen_of values = record { odd = odd_in values; lowest = lowest_in values }

abbrev passed_of : TakenValues → PassedValues
passed_of None = None
passed_of (Some found) = Some (seen_of found.0, found.1)

mark-passed : (stack : List Item) (values : List ℕ) → to_mark stack (seen_of values) ≡ passed_of (above_mark stack values)
mark-passed [] values = refl
mark-passed (Mark ∷ below) values = refl
mark-passed (Value v ∷ below) values = mark-passed below (v ∷ values)

top-passed : (count : ℕ) (stack : List Item) (values : List ℕ) → past_top count stack (seen_of values) ≡ passed_of (top_values count stack values)
top-passed zero stack values = refl
top-passed (suc count) [] values = refl
top-passed (suc count) (Mark ∷ below) values = refl
top-passed (suc count) (Value v ∷ below) values = top-passed count below (v ∷ values)

values-passed : (extent : Extent) (stack : List Item) → values_passed extent stack ≡ passed_of (values_taken extent stack)
values-passed Marked stack = mark-passed stack []
values-passed (Top count) stack = top-passed count stack []

lowest-shown : (ns : List Node) (values : List ℕ) → tuple_shape (lowest_as (shapes_in ns ns) (lowest_in values)) ≡ tuple_shape (first_shape ns values)
lowest-shown ns [] = refl
lowest-shown ns (v ∷ values) = ap tuple_shape (get-in ns ns v) ∙ own-tuple ns (slice_get ns v)

-- one is left over
abbrev left_over : Option (List (ℕ × ℕ)) → Bool
left_over None = true
left_over (Some pairs) = false

left-pair : (pair : ℕ × ℕ) (pairs : Option (List (ℕ × ℕ))) → left_over (with_pair pair pairs) ≡ left_over pairs
left-pair pair None = refl
left-pair pair (Some pairs) = refl

twice : (b : Bool) → cond (cond b false true) false true ≡ b
twice true = refl
twice false = refl

odd-left : (values : List ℕ) → odd_in values ≡ left_over (pairs_of values)
odd-left [] = refl
odd-left (key ∷ []) = refl
odd-left (key ∷ value ∷ rest) = twice (odd_in rest) ∙ odd-left rest ∙ sym (left-pair (key, value) (pairs_of rest))

-- ---- more nodes

-- the items of a tuple are nodes
abbrev ItemsIn : List Node → Node → Type 0
ItemsIn ns (kinds.Tuple items) = AllBelow (length ns) items
ItemsIn ns _ = Unit {0}

node-items : (ns : List Node) (node : Node) → IsNode ns node → ItemsIn ns node
node-items ns (kinds.Tuple items) h = h
node-items ns _ h = tt

get-push : (ns : List Node) (node : Node) (i : ℕ) → i < length ns → slice_get (ns ++ node ∷ []) i ≡ slice_get ns i
get-push [] node i h = absurd (omega arith)
get-push (x ∷ ns) node zero h = refl
get-push (x ∷ ns) node (suc i) h = get-push ns node i (omega arith)

first-push : (ns : List Node) (node : Node) (items : List ℕ) → AllBelow (length ns) items → first_shape (ns ++ node ∷ []) items ≡ first_shape ns items
first-push ns node [] h = refl
first-push ns node (i ∷ items) h = ap (option_map own_shape) (get-push ns node i h.0)

shape-push : (ns : List Node) (node x : Node) → ItemsIn ns x → shape_of (ns ++ node ∷ []) x ≡ shape_of ns x
shape-push ns node (kinds.Tuple items) h = ap tuple_shape (first-push ns node items h)
shape-push ns node _ h = refl

shapes-push : (ns : List Node) (node : Node) (xs : List Node) → AreNodes ns xs → shapes_in (ns ++ node ∷ []) xs ≡ shapes_in ns xs
shapes-push ns node [] h = refl
shapes-push ns node (x ∷ xs) h =
    let e = shape-push ns node x (node-items ns x h.0) in
    let rest = shapes-push ns node xs h.1 in
    ap (λ (shape : Shape). shape ∷ shapes_in (ns ++ node ∷ []) xs) e ∙ ap (λ (l : List Shape). shape_of ns x ∷ l) rest

push-in : (ns : List Node) (node : Node) → AreNodes ns ns → ItemsIn ns node → shapes_in (ns ++ node ∷ []) (ns ++ node ∷ []) ≡ shapes_in ns ns ++ shape_of ns node ∷ []
push-in ns node h k =
    map-append (shape_of (ns ++ node ∷ [])) ns (node ∷ [])
    ∙ ap (λ (l : List Shape). l ++ shape_of (ns ++ node ∷ []) node ∷ []) (shapes-push ns node ns h)
    ∙ ap (λ (shape : Shape). shapes_in ns ns ++ shape ∷ []) (shape-push ns node node k)

-- a new node
make-either : (at : ℕ) (s : State) (table : List Shape) (b : Bool) → shapes_in s.nodes s.nodes ≡ table →
    cond b (Ok (record { limit = s.limit; nodes = table; stack = s.stack; memo = s.memo })) (Err (errors.TooLarge at)) ≡ shown (cond b (Ok s) (Err (errors.TooLarge at)))
make-either at s table true h = ap (λ (l : List Shape). Ok (record { limit = s.limit; nodes = l; stack = s.stack; memo = s.memo })) (sym h)
make-either at s table false h = refl

make-shown : (at : ℕ) (node : Node) (s : State) → AreNodes s.nodes s.nodes → ItemsIn s.nodes node → make at (shape_of s.nodes node) (shapes_of s) ≡ shown (make at node s)
make-shown at node s h k =
    let ns : List Node = s.nodes in
    let table : List Shape = shapes_in ns ns ++ shape_of ns node ∷ [] in
    let more : State = record s { nodes = ns ++ node ∷ []; stack = Value (length ns) ∷ s.stack } in
    ap (λ (n : ℕ). cond (ltb n s.limit) (Ok (record { limit = s.limit; nodes = table; stack = Value n ∷ s.stack; memo = s.memo })) (Err (errors.TooLarge at)))
    (length-map ns (shape_of ns))
    ∙ make-either at more table (ltb (length ns) s.limit) (push-in ns node h k)

-- ---- nodes that are changed

own-set : (ns : List Node) (n : ℕ) (node : Node) (i : ℕ) → option_map own_shape (slice_get ns n) ≡ Some (own_shape node) →
    option_map own_shape (slice_get (slice_set ns n node) i) ≡ option_map own_shape (slice_get ns i)
own-set [] n node i h = refl
own-set (x ∷ ns) zero node zero h = sym h
own-set (x ∷ ns) zero node (suc i) h = refl
own-set (x ∷ ns) (suc n) node zero h = refl
own-set (x ∷ ns) (suc n) node (suc i) h = own-set ns n node i h

module _ (ns ms : List Node) (like : (i : ℕ) → option_map own_shape (slice_get ms i) ≡ option_map own_shape (slice_get ns i)) where
  first-like : (items : List ℕ) → first_shape ms items ≡ first_shape ns items
  first-like [] = refl
  first-like (i ∷ items) = like i

  shape-like : (x : Node) → shape_of ms x ≡ shape_of ns x
  shape-like (kinds.Tuple items) = ap tuple_shape (first-like items)
  shape-like _ = refl

  shapes-like : (xs : List Node) → shapes_in ms xs ≡ shapes_in ns xs
  shapes-like [] = refl
  shapes-like (x ∷ xs) = ap (λ (shape : Shape). shape ∷ shapes_in ms xs) (shape-like x) ∙ ap (λ (l : List Shape). shape_of ns x ∷ l) (shapes-like xs)

  shapes-set : (xs : List Node) (n : ℕ) (node : Node) → option_map (shape_of ns) (slice_get xs n) ≡ Some (shape_of ns node) → shapes_in ms (slice_set xs n node) ≡ shapes_in ns xs
  shapes-set [] n node h = refl
  shapes-set (x ∷ xs) zero node h =
      let e : shape_of ns x ≡ shape_of ns node = cc in
      ap (λ (shape : Shape). shape ∷ shapes_in ms xs) (shape-like node ∙ sym e) ∙ ap (λ (l : List Shape). shape_of ns x ∷ l) (shapes-like xs)
  shapes-set (x ∷ xs) (suc n) node h = ap (λ (shape : Shape). shape ∷ shapes_in ms (slice_set xs n node)) (shape-like x) ∙ ap (λ (l : List Shape). shape_of ns x ∷ l) (shapes-set xs n node h)

-- what is added, without the values
abbrev adding_of : Addition → Adding
adding_of (additions.Values values) = addings.Values
adding_of (additions.Pairs pairs) = addings.Pairs
adding_of (additions.State state) = addings.State

-- a node and the one that stands in its place, which shows the same
record Alike (ns : List Node) (adding : Adding) (found : Option Node) (node : Node) : Type 0 where
  taken : takes adding (option_map (shape_of ns) found) ≡ true
  own : option_map own_shape found ≡ Some (own_shape node)
  shape : option_map (shape_of ns) found ≡ Some (shape_of ns node)

abbrev Adds : List Node → Adding → Option Node → Option Node → Type 0
Adds ns adding found None = takes adding (option_map (shape_of ns) found) ≡ false
Adds ns adding found (Some node) = Alike ns adding found node

takes-tuple : (adding : Adding) (first : Option Shape) → takes adding (Some (tuple_shape first)) ≡ false
takes-tuple addings.Values (Some (kept.Id oid)) = refl
takes-tuple addings.Values (Some kept.Global) = refl
takes-tuple addings.Values _ = refl
takes-tuple addings.Pairs (Some (kept.Id oid)) = refl
takes-tuple addings.Pairs (Some kept.Global) = refl
takes-tuple addings.Pairs _ = refl
takes-tuple addings.State (Some (kept.Id oid)) = refl
takes-tuple addings.State (Some kept.Global) = refl
takes-tuple addings.State _ = refl

takes-bytes : (adding : Adding) (named : Named) → takes adding (Some (bytes_shape named)) ≡ false
takes-bytes addings.Values (Strong oid) = refl
takes-bytes addings.Values Weak = refl
takes-bytes addings.Values Bad = refl
takes-bytes addings.Pairs (Strong oid) = refl
takes-bytes addings.Pairs Weak = refl
takes-bytes addings.Pairs Bad = refl
takes-bytes addings.State (Strong oid) = refl
takes-bytes addings.State Weak = refl
takes-bytes addings.State Bad = refl

adds : (ns : List Node) (addition : Addition) (found : Option Node) → Adds ns (adding_of addition) found (added addition found)
adds ns (additions.Values values) (Some (kinds.Object callee arguments by_new acts)) = record { taken = refl; own = refl; shape = refl }
adds ns (additions.Pairs pairs) (Some (kinds.Object callee arguments by_new acts)) = record { taken = refl; own = refl; shape = refl }
adds ns (additions.State state) (Some (kinds.Object callee arguments by_new acts)) = record { taken = refl; own = refl; shape = refl }
adds ns (additions.Values values) (Some (kinds.List items)) = record { taken = refl; own = refl; shape = refl }
adds ns (additions.Pairs new) (Some (kinds.Dict pairs)) = record { taken = refl; own = refl; shape = refl }
adds ns (additions.Values values) (Some (kinds.Tuple items)) = takes-tuple addings.Values (first_shape ns items)
adds ns (additions.Pairs pairs) (Some (kinds.Tuple items)) = takes-tuple addings.Pairs (first_shape ns items)
adds ns (additions.State state) (Some (kinds.Tuple items)) = takes-tuple addings.State (first_shape ns items)
adds ns (additions.Values values) (Some (kinds.Bytes bytes)) = takes-bytes addings.Values (oid_in bytes)
adds ns (additions.Pairs pairs) (Some (kinds.Bytes bytes)) = takes-bytes addings.Pairs (oid_in bytes)
adds ns (additions.State state) (Some (kinds.Bytes bytes)) = takes-bytes addings.State (oid_in bytes)
adds ns (additions.Values values) (Some (kinds.OldText bytes)) = takes-bytes addings.Values (oid_in bytes)
adds ns (additions.Pairs pairs) (Some (kinds.OldText bytes)) = takes-bytes addings.Pairs (oid_in bytes)
adds ns (additions.State state) (Some (kinds.OldText bytes)) = takes-bytes addings.State (oid_in bytes)
adds ns (additions.Values values) _ = refl
adds ns (additions.Pairs pairs) _ = refl
adds ns (additions.State state) _ = refl

-- a shape that takes an addition stays, and any other takes none
stays : (at : ℕ) (s : Shapes) (n : ℕ) (below : List Item) (adding : Adding) (found : Option Shape) → slice_get s.nodes n ≡ found →
    changed at s n below (with_adding adding found) ≡ cond (takes adding found) (Ok (record s { stack = Value n ∷ below })) (Err (errors.Stack at))
stays at s n below adding None h = sym (ap (λ (b : Bool). cond b (Ok (record s { stack = Value n ∷ below })) (Err (errors.Stack at))) (takes-none adding))
stays at s n below adding (Some shape) h = test (takes adding (Some shape))
  where
    test : (b : Bool) → changed at s n below (cond b (Some shape) None) ≡ cond b (Ok (record s { stack = Value n ∷ below })) (Err (errors.Stack at))
    test true = ap (λ (l : List Shape). Ok (record s { nodes = l; stack = Value n ∷ below })) (set-same s.nodes n shape h)
    test false = refl

changed-shown : (at : ℕ) (s : State) (n : ℕ) (below : List Item) (adding : Adding) (new : Option Node) → Adds s.nodes adding (slice_get s.nodes n) new →
    cond (takes adding (option_map (shape_of s.nodes) (slice_get s.nodes n))) (Ok (shapes_of (record s { stack = Value n ∷ below }))) (Err (errors.Stack at)) ≡ shown (changed at s n below new)
changed-shown at s n below adding None h = rw h refl
changed-shown at s n below adding (Some node) h =
    let taken = h.taken in
    let like : (i : ℕ) → option_map own_shape (slice_get (slice_set s.nodes n node) i) ≡ option_map own_shape (slice_get s.nodes i) = λ i. own-set s.nodes n node i h.own in
    let e = shapes-set s.nodes (slice_set s.nodes n node) like s.nodes n node h.shape in
    ap (λ (b : Bool). cond b (Ok (shapes_of (record s { stack = Value n ∷ below }))) (Err (errors.Stack at))) taken
    ∙ ap (λ (l : List Shape). Ok (record { limit = s.limit; nodes = l; stack = Value n ∷ below; memo = s.memo })) (sym e)

add_to-shown : (at : ℕ) (s : State) (addition : Addition) (stack : List Item) → steps.add_to shapes at (shapes_of s) (adding_of addition) stack ≡ shown (add_to at s addition stack)
add_to-shown at s addition [] = refl
add_to-shown at s addition (Mark ∷ below) = refl
add_to-shown at s addition (Value n ∷ below) =
    stays at (shapes_of s) n below (adding_of addition) (slice_get (shapes_in s.nodes s.nodes) n) refl
    ∙ ap (λ (found : Option Shape). cond (takes (adding_of addition) found) (Ok (shapes_of (record s { stack = Value n ∷ below }))) (Err (errors.Stack at))) (get-in s.nodes s.nodes n)
    ∙ changed-shown at s n below (adding_of addition) (added addition (slice_get s.nodes n)) (adds s.nodes addition (slice_get s.nodes n))

-- ---- what tokens do

unmarked-shown : (at : ℕ) (s : State) (found : TakenValues) → unmarked at (shapes_of s) (passed_of found) ≡ shown (unmarked at s found)
unmarked-shown at s None = refl
unmarked-shown at s (Some found) = refl

tuple_of-shown : (at : ℕ) (s : State) (found : TakenValues) → AreNodes s.nodes s.nodes → TakenBelow (length s.nodes) found → steps.tuple_of shapes at (shapes_of s) (passed_of found) ≡ shown (tuple_of at s found)
tuple_of-shown at s None h k = refl
tuple_of-shown at s (Some found) h k =
    ap (λ (shape : Shape). make at shape (shapes_of (record s { stack = found.1 }))) (lowest-shown s.nodes found.0)
    ∙ make-shown at (kinds.Tuple found.0) (record s { stack = found.1 }) h k.0

append_to-shown : (at : ℕ) (s : State) (found : TakenValues) → steps.append_to shapes at (shapes_of s) (passed_of found) ≡ shown (append_to at s found)
append_to-shown at s None = refl
append_to-shown at s (Some found) = add_to-shown at s (additions.Values found.0) found.1

set_pairs-shown : (at : ℕ) (s : State) (pairs : Option (List (ℕ × ℕ))) (stack : List Item) →
    steps.set_pairs shapes at (shapes_of s) (cond (left_over pairs) None (Some addings.Pairs)) stack ≡ shown (set_pairs at s pairs stack)
set_pairs-shown at s None stack = refl
set_pairs-shown at s (Some pairs) stack = add_to-shown at s (additions.Pairs pairs) stack

set_in-shown : (at : ℕ) (s : State) (found : TakenValues) → steps.set_in shapes at (shapes_of s) (passed_of found) ≡ shown (set_in at s found)
set_in-shown at s None = refl
set_in-shown at s (Some found) =
    ap (λ (b : Bool). steps.set_pairs shapes at (shapes_of s) (cond b None (Some addings.Pairs)) found.1) (odd-left found.0)
    ∙ set_pairs-shown at s (pairs_of found.0) found.1

build_of-shown : (at : ℕ) (s : State) (stack : List Item) → steps.build_of shapes at (shapes_of s) stack ≡ shown (build_of at s stack)
build_of-shown at s [] = refl
build_of-shown at s (Mark ∷ below) = refl
build_of-shown at s (Value state ∷ below) = add_to-shown at s (additions.State state) below

object_of-shown : (by_new : Bool) (at : ℕ) (s : State) (stack : List Item) → AreNodes s.nodes s.nodes → steps.object_of shapes by_new at (shapes_of s) stack ≡ shown (object_of by_new at s stack)
object_of-shown by_new at s (Value arguments ∷ Value callee ∷ below) h =
    let node : Node = kinds.Object callee arguments by_new [] in
    let made = make-shown at node (record s { stack = below }) h tt in
    ap (λ (b : Bool). cond b (make at kept.Object (shapes_of (record s { stack = below }))) (Err (errors.Stack at))) (ap is_tuple_shape (get-in s.nodes s.nodes arguments) ∙ tuple-shape s.nodes (slice_get s.nodes arguments))
    ∙ test (is_tuple (slice_get s.nodes arguments)) _ _ made
  where
    test : (b : Bool) (left : Result Shapes PickleError) (outcome : Outcome) → left ≡ shown outcome → cond b left (Err (errors.Stack at)) ≡ shown (cond b outcome (Err (errors.Stack at)))
    test true left outcome e = e
    test false left outcome e = refl
object_of-shown by_new at s [] h = refl
object_of-shown by_new at s (Mark ∷ below) h = refl
object_of-shown by_new at s (Value arguments ∷ []) h = refl
object_of-shown by_new at s (Value arguments ∷ Mark ∷ below) h = refl

reference_of-shown : (at : ℕ) (s : State) (stack : List Item) → AreNodes s.nodes s.nodes → steps.reference_of shapes at (shapes_of s) stack ≡ shown (reference_of at s stack)
reference_of-shown at s [] h = refl
reference_of-shown at s (Mark ∷ below) h = refl
reference_of-shown at s (Value id ∷ below) h = make-shown at (kinds.Reference id) (record s { stack = below }) h tt

popped-shown : (at : ℕ) (s : State) (stack : List Item) → popped at (shapes_of s) stack ≡ shown (popped at s stack)
popped-shown at s [] = refl
popped-shown at s (item ∷ below) = refl

doubled-shown : (at : ℕ) (s : State) (stack : List Item) → doubled at (shapes_of s) stack ≡ shown (doubled at s stack)
doubled-shown at s [] = refl
doubled-shown at s (Mark ∷ below) = refl
doubled-shown at s (Value v ∷ below) = refl

put_of-shown : (at number : ℕ) (s : State) (stack : List Item) → put_of at number (shapes_of s) stack ≡ shown (put_of at number s stack)
put_of-shown at number s [] = refl
put_of-shown at number s (Mark ∷ below) = refl
put_of-shown at number s (Value v ∷ below) = refl

get_of-shown : (at : ℕ) (s : State) (found : Option ℕ) → get_of at (shapes_of s) found ≡ shown (get_of at s found)
get_of-shown at s None = refl
get_of-shown at s (Some v) = refl

module _ (at : ℕ) (s : State) (sound : IsSoundState s) where
  below-here : (extent : Extent) → TakenBelow (length s.nodes) (values_taken extent s.stack)
  below-here extent = taken-below (length s.nodes) extent s.stack sound.values

  act-tuple : (extent : Extent) → steps.tuple_of shapes at (shapes_of s) (values_passed extent s.stack) ≡ shown (tuple_of at s (values_taken extent s.stack))
  act-tuple extent = ap (steps.tuple_of shapes at (shapes_of s)) (values-passed extent s.stack) ∙ tuple_of-shown at s (values_taken extent s.stack) sound.nodes (below-here extent)

  act-append : (extent : Extent) → steps.append_to shapes at (shapes_of s) (values_passed extent s.stack) ≡ shown (append_to at s (values_taken extent s.stack))
  act-append extent = ap (steps.append_to shapes at (shapes_of s)) (values-passed extent s.stack) ∙ append_to-shown at s (values_taken extent s.stack)

  act-set : (extent : Extent) → steps.set_in shapes at (shapes_of s) (values_passed extent s.stack) ≡ shown (set_in at s (values_taken extent s.stack))
  act-set extent = ap (steps.set_in shapes at (shapes_of s)) (values-passed extent s.stack) ∙ set_in-shown at s (values_taken extent s.stack)

  act-shown : (op : Op) (number : ℤ) → steps.act_of shapes op at number (shapes_of s) ≡ shown (act_of op at number s)
  act-shown ops.Proto number = refl
  act-shown ops.Mark number = refl
  act-shown ops.Pop number = popped-shown at s s.stack
  act-shown ops.PopMark number = ap (unmarked at (shapes_of s)) (values-passed Marked s.stack) ∙ unmarked-shown at s (values_taken Marked s.stack)
  act-shown ops.Dup number = doubled-shown at s s.stack
  act-shown ops.Tuple number = act-tuple Marked
  act-shown ops.Tuple1 number = act-tuple (Top 1)
  act-shown ops.Tuple2 number = act-tuple (Top 2)
  act-shown ops.Tuple3 number = act-tuple (Top 3)
  act-shown ops.Append number = act-append (Top 1)
  act-shown ops.Appends number = act-append Marked
  act-shown ops.SetItem number = act-set (Top 2)
  act-shown ops.SetItems number = act-set Marked
  act-shown ops.Reduce number = object_of-shown false at s s.stack sound.nodes
  act-shown ops.NewObj number = object_of-shown true at s s.stack sound.nodes
  act-shown ops.Build number = build_of-shown at s s.stack
  act-shown ops.BinPersid number = reference_of-shown at s s.stack sound.nodes
  act-shown ops.BinPut number = put_of-shown at (unsigned_abs number) s s.stack
  act-shown ops.LongBinPut number = put_of-shown at (unsigned_abs number) s s.stack
  act-shown ops.BinGet number = get_of-shown at s (node_at s.memo (unsigned_abs number))
  act-shown ops.LongBinGet number = get_of-shown at s (node_at s.memo (unsigned_abs number))
  act-shown _ number = refl

-- ---- leaves

-- a leaf and its shape
record LeafShown (ns : List Node) (node : Node) (shape : Option Shape) : Type 0 where
  is : shape ≡ Some (shape_of ns node)
  items : ItemsIn ns node

abbrev LeafShows : List Node → Option Node → Option Shape → Type 0
LeafShows ns None shape = shape ≡ None
LeafShows ns (Some node) shape = LeafShown ns node shape

module _ (ns : List Node) where
  leaf-long : (bytes : List ℕ) → LeafShows ns (Some (long_of bytes)) (Some kept.Other)
  leaf-long bytes = test (ltb 16 (length bytes))
    where
      test : (b : Bool) → LeafShows ns (Some (cond b (kinds.Wide bytes) (kinds.Number (long_number bytes)))) (Some kept.Other)
      test true = record { is = refl; items = tt }
      test false = record { is = refl; items = tt }

  leaf-shows : (op : Op) (number : ℤ) (bytes : List ℕ) → LeafShows ns (leaf_of op number bytes) (leaf_shape op bytes)
  leaf-shows ops.None number bytes = record { is = refl; items = tt }
  leaf-shows ops.NewTrue number bytes = record { is = refl; items = tt }
  leaf-shows ops.NewFalse number bytes = record { is = refl; items = tt }
  leaf-shows ops.BinInt number bytes = record { is = refl; items = tt }
  leaf-shows ops.BinInt1 number bytes = record { is = refl; items = tt }
  leaf-shows ops.BinInt2 number bytes = record { is = refl; items = tt }
  leaf-shows ops.Long1 number bytes = leaf-long bytes
  leaf-shows ops.Long4 number bytes = leaf-long bytes
  leaf-shows ops.BinFloat number bytes = record { is = refl; items = tt }
  leaf-shows ops.BinBytes number bytes = record { is = refl; items = tt }
  leaf-shows ops.ShortBinBytes number bytes = record { is = refl; items = tt }
  leaf-shows ops.BinString number bytes = record { is = refl; items = tt }
  leaf-shows ops.ShortBinString number bytes = record { is = refl; items = tt }
  leaf-shows ops.BinUnicode number bytes = record { is = refl; items = tt }
  leaf-shows ops.EmptyTuple number bytes = record { is = refl; items = tt }
  leaf-shows ops.EmptyList number bytes = record { is = refl; items = tt }
  leaf-shows ops.EmptyDict number bytes = record { is = refl; items = tt }
  leaf-shows ops.Global number bytes = record { is = refl; items = tt }
  leaf-shows _ number bytes = refl

leaf_or-shown : (at : ℕ) (s : State) (node : Option Node) (shape : Option Shape) (other : Result Shapes PickleError) (outcome : Outcome) → AreNodes s.nodes s.nodes → LeafShows s.nodes node shape →
    other ≡ shown outcome → leaf_or at (shapes_of s) shape other ≡ shown (leaf_or at s node outcome)
leaf_or-shown at s None shape other outcome h k e = ap (λ (x : Option Shape). leaf_or at (shapes_of s) x other) k ∙ e
leaf_or-shown at s (Some node) shape other outcome h k e = ap (λ (x : Option Shape). leaf_or at (shapes_of s) x other) k.is ∙ make-shown at node s h k.items

-- ---- what is named

named_on-shown : (ns : List Node) (stack : List Item) → naming.named_on shape_names (shapes_in ns ns) stack ≡ named_on ns stack
named_on-shown ns [] = refl
named_on-shown ns (Mark ∷ below) = refl
named_on-shown ns (Value v ∷ below) = ap named_as (get-in ns ns v) ∙ named-shape ns (slice_get ns v)

token-shown : (op : Op) (ns : List Node) (stack : List Item) → naming.named_by_token shape_names op (shapes_in ns ns) stack ≡ named_by_token op ns stack
token-shown ops.BinPersid ns stack = named_on-shown ns stack
token-shown _ ns stack = refl

noted-shown : (at : ℕ) (s : State) (oids : List ℕ) (named : Named) → noted at (shapes_of s) oids named ≡ sight_in (noted at s oids named)
noted-shown at s oids (Strong oid) = refl
noted-shown at s oids Weak = refl
noted-shown at s oids Bad = refl

noted_in-shown : (at : ℕ) (oids : List ℕ) (named : Named) (outcome : Outcome) → noted_in at oids named (shown outcome) ≡ sight_in (noted_in at oids named outcome)
noted_in-shown at oids named (Ok s) = noted-shown at s oids named
noted_in-shown at oids named (Err e) = refl

-- What a token does to what is kept shows what it does to a graph.
pub step-shown : (op : Op) (at : ℕ) (number : ℤ) (bytes : List ℕ) (f : Finding) → IsSoundState f.state → sight_step op at number bytes (sight_of f) ≡ sight_in (find op at number bytes f)
step-shown op at number bytes f sound =
    let ns : List Node = f.state.nodes in
    ap (λ (named : Named). noted_in at f.oids named (steps.step shapes op at number bytes (shapes_of f.state))) (token-shown op ns f.state.stack)
    ∙ ap (noted_in at f.oids (named_by_token op ns f.state.stack))
    (leaf_or-shown at f.state (leaf_of op number bytes) (leaf_shape op bytes) (steps.act_of shapes op at number (shapes_of f.state)) (act_of op at number f.state)
    sound.nodes (leaf-shows ns op number bytes) (act-shown at f.state sound op number))
    ∙ noted_in-shown at f.oids (named_by_token op ns f.state.stack) (step op at number bytes f.state)

-- ---- runs

-- a reader begins with the shapes of the nodes that were left
pub begins : (s : Sight) (nodes : List Node) (memo : List (ℕ × ℕ)) → s.state.limit ≡ NODE_LIMIT + length nodes → s.state.nodes ≡ shapes_in nodes nodes → s.state.stack ≡ [] → s.state.memo ≡ memo → s.oids ≡ [] →
    s ≡ sight_of (record { state = begun NODE_LIMIT nodes memo; oids = [] })
begins s nodes memo a b c d e =
    ap (λ (x : ℕ). record { state = record { limit = x; nodes = s.state.nodes; stack = s.state.stack; memo = s.state.memo }; oids = s.oids }) a
    ∙ ap (λ (x : List Shape). record { state = record { limit = NODE_LIMIT + length nodes; nodes = x; stack = s.state.stack; memo = s.state.memo }; oids = s.oids }) b
    ∙ ap (λ (x : List Item). record { state = record { limit = NODE_LIMIT + length nodes; nodes = shapes_in nodes nodes; stack = x; memo = s.state.memo }; oids = s.oids }) c
    ∙ ap (λ (x : List (ℕ × ℕ)). record { state = record { limit = NODE_LIMIT + length nodes; nodes = shapes_in nodes nodes; stack = []; memo = x }; oids = s.oids }) d
    ∙ ap (λ (x : List ℕ). record { state = record { limit = NODE_LIMIT + length nodes; nodes = shapes_in nodes nodes; stack = []; memo = memo }; oids = x }) e

-- what is known of what was read, if it was
abbrev pub SoundFound : ℕ → Result Finding PickleError → Type 0
SoundFound most (Ok f) = IsSoundState f.state × (f.state.limit ≡ most)
SoundFound most (Err e) = Unit {0}

noted-sound : (most at : ℕ) (oids : List ℕ) (named : Named) (outcome : Outcome) → SoundAfter outcome → Limited most outcome → SoundFound most (noted_in at oids named outcome)
noted-sound most at oids (Strong oid) (Ok s) h k = (h, k)
noted-sound most at oids Weak (Ok s) h k = (h, k)
noted-sound most at oids Bad (Ok s) h k = tt
noted-sound most at oids named (Err e) h k = tt

-- what was read where a token was done
pub record Found (most : ℕ) (new : Sight) (read : Result Finding PickleError) : Type 0 where
  pub finding : Finding
  pub reads : read ≡ Ok finding
  pub shows : new ≡ sight_of finding
  pub sound : IsSoundState finding.state
  pub limit : finding.state.limit ≡ most

found : (most : ℕ) (new : Sight) (read : Result Finding PickleError) → SoundFound most read → sight_in read ≡ Ok new → Found most new read
found most new (Ok f) h e = let same : sight_of f ≡ new = cc in record { finding = f; reads = refl; shows = sym same; sound = h.0; limit = h.1 }
found most new (Err x) h e = absurd cc

-- a token keeps what was found sound, within the same limit
pub find-sound : (op : Op) (at : ℕ) (number : ℤ) (bytes : List ℕ) (f : Finding) → AreBytes bytes → Fits op number bytes → IsSoundState f.state → SoundFound f.state.limit (find op at number bytes f)
find-sound op at number bytes f are fits sound =
    noted-sound f.state.limit at f.oids (named_by_token op f.state.nodes f.state.stack) (step op at number bytes f.state) (step-sound op at number bytes f.state are fits sound) (step-limited op at number bytes f.state)

pub step-found : (op : Op) (at : ℕ) (number : ℤ) (bytes : List ℕ) (f : Finding) (old new : Sight) → AreBytes bytes → Fits op number bytes → IsSoundState f.state → old ≡ sight_of f →
    sight_step op at number bytes old ≡ Ok new → Found f.state.limit new (find op at number bytes f)
step-found op at number bytes f old new are fits sound is e =
    found f.state.limit new (find op at number bytes f) (find-sound op at number bytes f are fits sound)
    (sym (step-shown op at number bytes f sound) ∙ ap (sight_step op at number bytes) (sym is) ∙ e)

refused-in : (read : Result Finding PickleError) (e : PickleError) → sight_in read ≡ Err e → read ≡ Err e
refused-in (Ok f) e h = absurd cc
refused-in (Err x) e h = let same : x ≡ e = cc in ap Err same

pub step-refused : (op : Op) (at : ℕ) (number : ℤ) (bytes : List ℕ) (f : Finding) (old : Sight) (e : PickleError) → IsSoundState f.state → old ≡ sight_of f → sight_step op at number bytes old ≡ Err e → find op at number bytes f ≡ Err e
step-refused op at number bytes f old e sound is h = refused-in (find op at number bytes f) e (sym (step-shown op at number bytes f sound) ∙ ap (sight_step op at number bytes) (sym is) ∙ h)

pub sound-on : (most : ℕ) (read : Result Finding PickleError) (f : Finding) → SoundFound most read → read ≡ Ok f → IsSoundState f.state × (f.state.limit ≡ most)
sound-on most (Ok x) f h e = let same : x ≡ f = cc in subst (λ (y : Finding). IsSoundState y.state × (y.state.limit ≡ most)) same h
sound-on most (Err x) f h e = absurd cc
