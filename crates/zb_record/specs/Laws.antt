-- Laws of records.
use Rattle.std.specs.Prelude.{ℕ, List, [], ◌++◌, length, drop, Some, Ok, true, IsSome, ◌≤◌, ◌≡◌}
use Rattle.pickle_reading.specs.declared.reading.TheConstants.{NODE_LIMIT}
use Rattle.pickle_graph.specs.Graph.{Graph, IsGraph}
use Rattle.pickle_graph.specs.Class.{is_class}
use Rattle.pickle_reading.specs.Reading.{graph_behind}
use Rattle.pickle_references.specs.References.{part_at}
use Rattle.pickle_references.specs.Named.{oids_of, oids_behind}
use Rattle.pickle_graph.specs.Same.{IsSame, AreSame}
use Rattle.pickle_writing.specs.Spelling.{root_piece}
use Rattle.zb_record.specs.Records.{record_of, references_of, object_text}

-- The bytes are two pickles and nothing else, the second read behind what the first left, the references of each name these
-- oids, and the first is a class.
pub record IsRecord (bytes : List ℕ) (class state : Graph) (class_oids state_oids : List ℕ) : Type 0 where
  pub behind : ℕ
  pub memo : List (ℕ × ℕ)
  pub left : List (ℕ × ℕ)
  pub first : part_at [] [] 0 bytes ≡ Ok (record { pickle = class; oids = class_oids; behind = behind }, memo)
  pub second : part_at class.nodes memo behind (drop behind bytes) ≡ Ok (record { pickle = state; oids = state_oids; behind = length bytes }, left)
  pub class_is : is_class class ≡ true

-- What is read of bytes is what they are: the graphs are those of the two pickles, and the references of the record are those
-- of the class and then those of the nodes that the state's pickle made.
pub record IsReadRecord (bytes : List ℕ) (class state : Graph) : Type 0 where
  pub class_oids : List ℕ
  pub state_oids : List ℕ
  pub is : IsRecord bytes class state class_oids state_oids
  pub class_reads : graph_behind [] [] 0 bytes ≡ Ok (class, is.behind)
  pub state_reads : graph_behind class.nodes is.memo is.behind (drop is.behind bytes) ≡ Ok (state, length bytes)
  pub class_named : oids_of class ≡ Some class_oids
  pub state_named : oids_behind (length class.nodes) state ≡ Some state_oids
  pub told : references_of bytes ≡ Ok (class_oids ++ state_oids)

abbrev pub ReadIsRecord : Type 0
ReadIsRecord = (bytes : List ℕ) (class state : Graph) → record_of bytes ≡ Ok (class, state) → IsReadRecord bytes class state

abbrev pub RecordIsRead : Type 0
RecordIsRead =
    (bytes : List ℕ) (class state : Graph) (class_oids state_oids : List ℕ) → IsRecord bytes class state class_oids state_oids →
    (record_of bytes ≡ Ok (class, state)) × (references_of bytes ≡ Ok (class_oids ++ state_oids))

-- the text is read as a record of the same two graphs
pub record RecordIsReadBack (class state : Graph) (text : List ℕ) : Type 0 where
  pub class_copy : Graph
  pub state_copy : Graph
  pub reads : record_of text ≡ Ok (class_copy, state_copy)
  pub class_same : IsSame class class_copy
  pub state_same : AreSame state state_copy

-- a class and a state whose references all name something, and whose texts make no more nodes than the limit
pub record CanBeRead (class state : Graph) : Type 0 where
  pub class_graph : IsGraph class.nodes class.root
  pub state_graph : IsGraph state.nodes state.root
  pub class_is : is_class class ≡ true
  pub class_named : IsSome (oids_of class)
  pub state_named : IsSome (oids_of state)
  pub class_room : (root_piece class.nodes class.root).made ≤ NODE_LIMIT
  pub state_room : (root_piece state.nodes state.root).made ≤ NODE_LIMIT

abbrev pub WrittenRecordReadsBack : Type 0
WrittenRecordReadsBack = (class state : Graph) (text : List ℕ) → CanBeRead class state → object_text class state ≡ Ok text → RecordIsReadBack class state text
