-- Names for what the readers of pickles keep: what their definitions compute to.
use Rattle.std.proofs.Common.{ℕ, pos, Bool, true, false, T, List, [], Option, Some, None, Result, Ok, Err}
use Rattle.pickle_ops.specs.declared.table.Op.TheVariants as ops
use Rattle.pickle_reading.specs.declared.error.PickleError.{PickleError}
use Rattle.pickle_graph.specs.declared.node.Node.TheVariants as kinds
use Rattle.pickle_reading.specs.Additions.{added}
use Rattle.pickle_reading.specs.Steps.{get_of}
use Rattle.pickle_reading.specs.Nodes.{act_of}
use Rattle.pickle_reading.specs.Stacks.{top_of}
use Rattle.pickle_reading.specs.Reading.{Reader, graphs, empty_state}
use Rattle.pickle_references.specs.References.{oid_in, oid_of, named_by, parts}

abbrev KeptBy : {S X : Type 0} → Reader S X → Type 0
KeptBy {S} {X} r = S

abbrev DomainOf : {A B : Type 0} → (A → B) → Type 0
DomainOf {A} {B} f = A

abbrev RangeOf : {A B : Type 0} → (A → B) → Type 0
RangeOf {A} {B} f = B

abbrev ElementOf : {A B : Type 0} → (List A → B) → Type 0
ElementOf {A} {B} f = A

-- what the reader of graphs keeps
abbrev pub State : Type 0
State = KeptBy graphs

-- what the reader of what a pickle says keeps
abbrev pub Finding : Type 0
Finding = KeptBy parts

-- an item of the stack
abbrev pub Item : Type 0
Item = ElementOf top_of

-- what a token adds to a node
abbrev pub Addition : Type 0
Addition = DomainOf added

-- what a persistent id names
abbrev pub Named : Type 0
Named = RangeOf oid_in

abbrev is_there : {A : Type 0} → Option A → Bool
is_there (Some x) = true
is_there None = false

abbrev the : {A : Type 0} (o : Option A) → T (is_there o) → A
the (Some x) t = x
the None t = absurd t

abbrev stack_in : Result State PickleError → List Item
stack_in (Ok s) = s.stack
stack_in (Err e) = []

pattern abbrev pub value : ℕ → Item
value v = the (top_of (stack_in (get_of 0 (empty_state 0) (Some v)))) tt

pattern abbrev pub mark : Item
mark = the (top_of (stack_in (act_of ops.Mark 0 (pos 0) (empty_state 0)))) tt

pattern abbrev pub weak : Named
weak = named_by [] (Some (kinds.List []))

pattern abbrev pub bad : Named
bad = oid_of None
