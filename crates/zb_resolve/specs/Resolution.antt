-- What becomes of two changes of one object. From: conflict resolution of ZODB, and of the BTrees package and its Length; the reasons and their order are own.
use Rattle.std.specs.Prelude.{◌≡◌, ℕ, ℤ, Bool, true, false, List, [], ◌∷◌, ◌++◌, Option, Some, None, Result, Ok, Err, is_some, int_lt, int_le, pos, negsuc, ◌^◌, ◌-◌, ◌+ℤ◌, ◌-ℤ◌, ◌&&◌, if◌then◌else◌}
use Rattle.pickle_graph.specs.declared.node.Node.TheVariants as nodes
use Rattle.pickle_graph.specs.Graph.{Graph}
use Rattle.pickle_writing.specs.Spelling.{root_piece}
use Rattle.btree_family.specs.Classes.{Class}
use Rattle.btree_family.specs.Buckets.{BucketContents}
use Rattle.bucket_state.specs.Written.{leaf_graph, key_text, bucket_graph, embedded_graph}
use Rattle.bucket_state.specs.Writable.{IsWritable}
use Rattle.bucket_merge.specs.declared.refusal.MergeRefusal.{MergeRefusal}
use Rattle.bucket_merge.specs.declared.refusal.MergeRefusal.TheVariants as refusals
use Rattle.bucket_merge.specs.Merge.{merge_of}
use Rattle.zb_record.specs.declared.error.RecordError.{RecordError}
use Rattle.zb_record.specs.Records.{record_of}
use Rattle.zb_model.specs.declared.refusal.Why.{Why}
use Rattle.zb_model.specs.declared.refusal.Why.TheVariants.{NoRule, Unreadable, NotEmbedded, Link, EmptySide, Key, FirstKey, Overflow}
use Rattle.zb_resolve.specs.declared.state.State.{State}
use Rattle.zb_resolve.specs.Classes.{ClassRule, Family, Counter, rule_of}
use Rattle.zb_resolve.specs.States.{is_tree, readable, are_alike, leaf_in, count_in}
use Rattle.zb_model.specs.declared.rules.ResolveError.{ResolveError}
use Rattle.zb_model.specs.declared.rules.ResolveError.TheVariants as errors
use Rattle.zb_resolve.specs.Answers.{◌>>=◌, RefusedFor}

-- ---- by class

-- why buckets are not merged; a key is named by its spelling, and want of memory is no answer of the definition
abbrev pub why_of : MergeRefusal → Why
why_of refusals.Link = Link
why_of refusals.EmptySide = EmptySide
why_of (refusals.Key key) = Key (key_text key)
why_of refusals.FirstKey = FirstKey
why_of refusals.Memory = Unreadable

-- the reason is the refusal's; want of memory stays so
abbrev pub RefusedBy : MergeRefusal → ResolveError → Type 0
RefusedBy refusals.Memory error = error ≡ errors.Memory
RefusedBy refusals.Link error = RefusedFor error Link
RefusedBy refusals.EmptySide error = RefusedFor error EmptySide
RefusedBy (refusals.Key key) error = RefusedFor error (Key (key_text key))
RefusedBy refusals.FirstKey error = RefusedFor error FirstKey

-- a key that is named can be written
abbrev pub IsWritableRefusal : MergeRefusal → Type 0
IsWritableRefusal (refusals.Key key) = IsWritable key
IsWritableRefusal refusals.Link = Unit {0}
IsWritableRefusal refusals.EmptySide = Unit {0}
IsWritableRefusal refusals.FirstKey = Unit {0}
IsWritableRefusal refusals.Memory = Unit {0}

-- the state of a leaf: of a tree it stands within the tree's state
abbrev pub leaf_state : Class → BucketContents → Graph
leaf_state class leaf = if is_tree class.kind then embedded_graph leaf.items else bucket_graph class leaf

abbrev pub leaf_merged : Class → Result BucketContents MergeRefusal → Result Graph Why
leaf_merged class (Ok leaf) = Ok (leaf_state class leaf)
leaf_merged class (Err e) = Err (why_of e)

-- a signed number of 128 bits
abbrev pub is_int128 : ℤ → Bool
is_int128 n = int_le (negsuc (2 ^ 127 - 1)) n && int_lt n (pos (2 ^ 127))

-- the number, where 128 bits have it
abbrev pub count_of : ℤ → Option ℤ
count_of n = if is_int128 n then Some n else None

abbrev pub count_merged : Option ℤ → Result Graph Why
count_merged None = Err Overflow
count_merged (Some n) = Ok (leaf_graph (nodes.Number n))

-- leaves are merged by their keys; where one of the three is a tree with others below it, they are not merged
abbrev pub leaves_merged : Class → Option BucketContents → Option BucketContents → Option BucketContents → Result Graph Why
leaves_merged class (Some old) (Some committed) (Some stored) = leaf_merged class (merge_of old committed stored)
leaves_merged class old committed stored = Err NotEmbedded

-- counters go on by what both sides added
abbrev pub counts_merged : Option ℤ → Option ℤ → Option ℤ → Result Graph Why
counts_merged (Some old) (Some committed) (Some stored) = count_merged (count_of ((committed +ℤ stored) -ℤ old))
counts_merged old committed stored = Err NotEmbedded

abbrev pub merged_states : ClassRule → State → State → State → Result Graph Why
merged_states (Family class) old committed stored = leaves_merged class (leaf_in old) (leaf_in committed) (leaf_in stored)
merged_states Counter old committed stored = counts_merged (count_in old) (count_in committed) (count_in stored)

-- ---- of bytes

-- the state that bytes hold, or that they hold none
abbrev pub found_state : Option State → Result State Why
found_state None = Err Unreadable
found_state (Some state) = Ok state

-- the keys of all three are of one kind, or they are no states of one object
abbrev pub unless_mixed : Bool → Result Graph Why → Result Graph Why
unless_mixed true merged = merged
unless_mixed false merged = Err Unreadable

-- the text of a graph that is not too deep to write: PROTO 3, the spelling of the root, and STOP
abbrev pub graph_bytes : Graph → List ℕ
graph_bytes g = 0x80 ∷ 3 ∷ ((root_piece g.nodes g.root).text ++ 0x2e ∷ [])

-- the text of a state, where there is one
abbrev pub state_bytes : Result Graph Why → Result (List ℕ) Why
state_bytes (Ok state) = Ok (graph_bytes state)
state_bytes (Err e) = Err e

-- the text of a record of which neither part is too deep to write
abbrev pub object_bytes : Graph → Graph → List ℕ
object_bytes class state = graph_bytes class ++ graph_bytes state

abbrev pub written_object : Graph → Graph → Result (List ℕ) Why
written_object class state = Ok (object_bytes class state)

-- The merge of three records by a rule, with the stored one's class. The three must be readable states of the rule's class, with keys of
-- one kind; so what is made is not too deep to write.
abbrev pub merged_by : ClassRule → Graph → List ℕ → List ℕ → List ℕ → Result (List ℕ) Why
merged_by rule class old committed stored = do
  was ← found_state (readable rule old)
  mine ← found_state (readable rule committed)
  theirs ← found_state (readable rule stored)
  state ← unless_mixed (are_alike was mine theirs) (merged_states rule was mine theirs)
  written_object class state

abbrev pub merged_if : Option ClassRule → Graph → List ℕ → List ℕ → List ℕ → Result (List ℕ) Why
merged_if None class old committed stored = Err NoRule
merged_if (Some rule) class old committed stored = merged_by rule class old committed stored

-- the class is that of a record
abbrev pub IsClassOf : Graph → Result (Graph × Graph) RecordError → Type 0
IsClassOf class (Err e) = ⊥
IsClassOf class (Ok object) = object.0 ≡ class

-- the rule of a record
abbrev pub record_rule : Result (Graph × Graph) RecordError → Option ClassRule
record_rule (Ok object) = rule_of object.0
record_rule (Err e) = None

abbrev pub merged_records : Result (Graph × Graph) RecordError → List ℕ → List ℕ → List ℕ → Result (List ℕ) Why
merged_records (Err e) old committed stored = Err NoRule
merged_records (Ok object) old committed stored = merged_if (rule_of object.0) object.0 old committed stored

-- stored bytes have a rule where they are a record of a class that has one
abbrev pub has_stock_rule : List ℕ → Bool
has_stock_rule stored = is_some (record_rule (record_of stored))

-- what the rule of the stored record's class makes of old, committed and stored bytes
abbrev pub stock_merged : List ℕ → List ℕ → List ℕ → Result (List ℕ) Why
stock_merged old committed stored = merged_records (record_of stored) old committed stored
