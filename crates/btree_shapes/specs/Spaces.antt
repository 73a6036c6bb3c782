-- A space of objects, as a tree uses it. Own.
use Rattle.std.specs.Prelude.{◌≡◌, ℕ, Bool, true, false, List, [], ◌∷◌, ◌++◌, Option, Some, None, Result, Ok, Err, if◌then◌else◌, ◌==◌, ◌⊎◌}
use Rattle.zb_model.specs.declared.refusal.Refusal.{Refusal}
use Rattle.pickle_graph.specs.Graph.{Graph}
use Rattle.pickle_writing.specs.Spelling.{Spelled}
use Rattle.zb_record.specs.declared.error.RecordError.{RecordError}
use Rattle.zb_record.specs.declared.record.ObjectRecord.{ObjectRecord}
use Rattle.zb_record.specs.Records.{record_of, object_text}
use Rattle.btree_shapes.specs.declared.space.Call.{Call}
use Rattle.btree_shapes.specs.declared.space.Call.TheVariants.{Read}
use Rattle.btree_shapes.specs.declared.space.SpaceError.{SpaceError}
use Rattle.btree_shapes.specs.declared.space.SpaceError.TheVariants as space
use Rattle.btree_shapes.specs.declared.error.TreeError.{TreeError}
use Rattle.btree_shapes.specs.declared.error.TreeError.TheVariants as tree

-- what reading an object answers, where these bytes stand there
abbrev pub IsContentOf : Option (List ℕ) → Result ObjectRecord SpaceError → Type 0
IsContentOf content (Ok entry) = (bytes : List ℕ) × (content ≡ Some bytes) × (record_of bytes ≡ Ok (entry.class, entry.state))
IsContentOf content (Err space.NoNode) = content ≡ None
IsContentOf content (Err space.NoRecord) = (bytes : List ℕ) × (e : RecordError) × (content ≡ Some bytes) × (record_of bytes ≡ Err e)
IsContentOf content (Err (space.Refused refusal)) = Unit {0}
IsContentOf content (Err space.Memory) = Unit {0}

-- a refusal of the space, or want of memory
abbrev pub IsFault : SpaceError → Type 0
IsFault space.NoNode = ⊥
IsFault space.NoRecord = ⊥
IsFault (space.Refused refusal) = Unit {0}
IsFault space.Memory = Unit {0}

-- the refusal of the space that an answer is, if it is one
abbrev pub refused : {X : Type 0} → Result X SpaceError → List Refusal
refused (Ok x) = []
refused (Err space.NoNode) = []
refused (Err space.NoRecord) = []
refused (Err (space.Refused refusal)) = refusal ∷ []
refused (Err space.Memory) = []

-- the refusal of the space that a tree hands on, if it hands one on
abbrev pub handed_on : {X : Type 0} → Result X TreeError → List Refusal
handed_on (Ok x) = []
handed_on (Err (tree.NotATree oid)) = []
handed_on (Err (tree.NodeMissing oid)) = []
handed_on (Err tree.BadKey) = []
handed_on (Err (tree.Refused refusal)) = refusal ∷ []
handed_on (Err tree.Memory) = []

-- there was no memory
abbrev pub lacked_memory : {X : Type 0} → Result X SpaceError → Bool
lacked_memory (Ok x) = false
lacked_memory (Err space.NoNode) = false
lacked_memory (Err space.NoRecord) = false
lacked_memory (Err (space.Refused refusal)) = false
lacked_memory (Err space.Memory) = true

abbrev pub out_of_memory : {X : Type 0} → Result X TreeError → Bool
out_of_memory (Ok x) = false
out_of_memory (Err (tree.NotATree oid)) = false
out_of_memory (Err (tree.NodeMissing oid)) = false
out_of_memory (Err tree.BadKey) = false
out_of_memory (Err (tree.Refused refusal)) = false
out_of_memory (Err tree.Memory) = true

-- an object was read; where there was no memory, it may not have come to that
abbrev pub IsLogged : ℕ → Bool → List Call → List Call → Type 0
IsLogged oid true before after = (after ≡ before) ⊎ (after ≡ before ++ Read oid ∷ [])
IsLogged oid false before after = after ≡ before ++ Read oid ∷ []

-- the same contents but for one object
abbrev pub with_bytes : (ℕ → Option (List ℕ)) → ℕ → List ℕ → ℕ → Option (List ℕ)
with_bytes contents oid bytes other = if other == oid then Some bytes else contents other

abbrev pub text_or_none : Spelled → List ℕ
text_or_none (Ok text) = text
text_or_none (Err e) = []

-- the bytes of a record that can be written
abbrev pub record_bytes : Graph → Graph → List ℕ
record_bytes class state = text_or_none (object_text class state)

-- a record that can be written, and reads back
pub record IsStorable (class state : Graph) : Type 0 where
  pub text : List ℕ
  pub written : object_text class state ≡ Ok text
  pub class_copy : Graph
  pub state_copy : Graph
  pub reads : record_of text ≡ Ok (class_copy, state_copy)

-- the bytes of a record that can be written, and reads back
pub record IsRecordText (bytes : List ℕ) : Type 0 where
  pub class : Graph
  pub state : Graph
  pub storable : IsStorable class state
  pub bytes_are : bytes ≡ record_bytes class state
