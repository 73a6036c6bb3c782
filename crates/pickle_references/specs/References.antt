-- What a pickle says: its graph, and the oids that its persistent ids name.
use Rattle.std.specs.Prelude.{ℕ, ℤ, List, [], ◌∷◌, ◌++◌, Option, Some, Result, Ok, Err, length, drop, slice_get, ◌==◌, if◌then◌else◌}
use Rattle.byteorder.specs.Endian.{big_number}
use Rattle.pickle_ops.specs.declared.table.Op.{Op}
use Rattle.pickle_reading.specs.declared.error.PickleError.{PickleError}
use Rattle.pickle_reading.specs.declared.error.PickleError.TheVariants as errors
use Rattle.pickle_graph.specs.declared.node.Node.{Node}
use Rattle.pickle_graph.specs.declared.node.Node.TheVariants as kinds
use Rattle.pickle_references.specs.declared.pair.Pair.{Pair}
use Rattle.pickle_references.specs.declared.pair.PairReferences.{PairReferences}
use Rattle.pickle_references.specs.declared.finding.Finding as found
use Rattle.pickle_references.specs.Naming as naming
use Rattle.pickle_references.specs.declared.part.Part.{Part}
use Rattle.pickle_reading.specs.declared.reading.TheConstants.{NODE_LIMIT}
use Rattle.pickle_references.specs.declared.references.Named.{Named}
use Rattle.pickle_references.specs.declared.references.Named.TheVariants.{Strong, Weak, Bad}
use Rattle.pickle_reading.specs.declared.state.Item.{Item}
use Rattle.pickle_reading.specs.declared.state.Item.TheVariants.{Value}
use Rattle.pickle_graph.specs.Class.{is_class}
use Rattle.pickle_reading.specs.Nodes as graphs
use Rattle.pickle_reading.specs.Reading.{Reader, read_from, go_on, begun}

-- what was found of a graph
abbrev pub Finding : Type 0
Finding = found.Finding Node

-- an oid is eight bytes, the highest first
abbrev pub oid_in : List ℕ → Named
oid_in bytes = if length bytes == 8 then Strong (big_number 8 bytes) else Bad

-- the oid that a node is: bytes, or a string of Python 2
abbrev pub oid_of : Option Node → Named
oid_of (Some (kinds.Bytes bytes)) = oid_in bytes
oid_of (Some (kinds.OldText bytes)) = oid_in bytes
oid_of _ = Bad

-- what the first item of a tuple names
abbrev pub named_first : List Node → List ℕ → Named
named_first ns [] = Bad
named_first ns (first ∷ rest) = oid_of (slice_get ns first)

-- what a persistent id names: an oid, or a tuple whose first item is one; a list is a weak or foreign reference
abbrev pub named_by : List Node → Option Node → Named
named_by ns (Some (kinds.Tuple items)) = named_first ns items
named_by ns (Some (kinds.List items)) = Weak
named_by ns node = oid_of node

-- what the value on the top names
abbrev pub named_on : List Node → List Item → Named
named_on ns stack = naming.named_on named_by ns stack

-- what a token names, and what it does besides
abbrev pub named_by_token : Op → List Node → List Item → Named
named_by_token op ns stack = naming.named_by_token named_by op ns stack

abbrev pub find : Op → ℕ → ℤ → List ℕ → Finding → Result Finding PickleError
find op at number bytes f = naming.find graphs.nodes named_by op at number bytes f

-- What a pickle says, and the memo that it leaves.
abbrev pub Left : Type 0
Left = Part × List (ℕ × ℕ)

-- what was found, with a root and the place behind the pickle
abbrev pub left_with : Finding → ℕ → ℕ → Left
left_with f root next = (record { pickle = record { nodes = f.state.nodes; root = root }; oids = f.oids; behind = next }, f.state.memo)

-- at STOP the value on the top is the root
abbrev pub root_at : ℕ → List Item → Result ℕ PickleError
root_at at (Value v ∷ below) = Ok v
root_at at _ = Err (errors.Stack at)

-- what was found, with its root
abbrev pub left_of : ℕ → ℕ → Finding → List Item → Result Left PickleError
left_of at next f (Value v ∷ below) = Ok (left_with f v next)
left_of at next f _ = Err (errors.Stack at)

-- the reader of what a pickle says
abbrev pub parts : Reader Finding Left
parts = record { turn = find; finish = λ at next f. left_of at next f f.state.stack }

-- What the pickle behind a place says, behind one that left these nodes and this memo; or the refusal of its first token
-- that has one. Of its nodes those that were left come first.
abbrev pub part_at : List Node → List (ℕ × ℕ) → ℕ → List ℕ → Result Left PickleError
part_at nodes memo at bytes = read_from parts 0 (record { state = begun NODE_LIMIT nodes memo; oids = [] }) at bytes

-- the oids, and the place behind the pickle
abbrev pub told_in : Result Left PickleError → Result (List ℕ × ℕ) PickleError
told_in (Ok left) = Ok (left.0.oids, left.0.behind)
told_in (Err e) = Err e

-- the oids in the bytes behind a place, in the order of their tokens, and the place behind the pickle; or the refusal
abbrev pub oids_at : ℕ → List ℕ → Result (List ℕ × ℕ) PickleError
oids_at at bytes = told_in (part_at [] [] at bytes)

-- ---- two pickles of one reader

-- both, where the second is one
abbrev pub with_second : Part → Result Left PickleError → Result Pair PickleError
with_second first (Ok second) = Ok (record { first = first; second = second.0 })
with_second first (Err e) = Err e

-- The second pickle behind the first: its reader begins with what the first left.
abbrev pub second_of : List ℕ → Left → Result Pair PickleError
second_of bytes left = with_second left.0 (part_at left.0.pickle.nodes left.1 left.0.behind (drop left.0.behind bytes))

-- the two pickles at the start of the bytes; or the refusal of the first, and else of the second
abbrev pub pair_of : List ℕ → Result Pair PickleError
pair_of bytes = go_on (second_of bytes) (part_at [] [] 0 bytes)

-- what is told of two pickles without their graphs: the oids of the first and then those of the second
abbrev pub references_in : Result Pair PickleError → Result PairReferences PickleError
references_in (Ok pair) = Ok (record { oids = pair.first.oids ++ pair.second.oids; is_class = is_class pair.first.pickle; behind = pair.second.behind })
references_in (Err e) = Err e
