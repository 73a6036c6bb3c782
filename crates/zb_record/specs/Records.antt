-- Records: two pickles of one reader, one behind the other and nothing else. From: the records of ZODB.
use Rattle.std.specs.Prelude.{ℕ, List, ◌++◌, length, ◌==◌, if◌then◌else◌, Result, Ok, Err}
use Rattle.pickle_reading.specs.declared.error.PickleError.{PickleError}
use Rattle.pickle_references.specs.declared.pair.Pair.{Pair}
use Rattle.pickle_graph.specs.Class.{is_class}
use Rattle.pickle_graph.specs.Graph.{Graph}
use Rattle.pickle_references.specs.References.{pair_of}
use Rattle.pickle_writing.specs.Spelling.{Spelled, pickle_text}
use Rattle.zb_record.specs.declared.error.RecordError.{RecordError}
use Rattle.zb_record.specs.declared.error.RecordError.TheVariants as errors

-- goes on with what was found
infixl 10 ◌>>=◌
abbrev pub ◌>>=◌ : {A B : Type 0} → Result A RecordError → (A → Result B RecordError) → Result B RecordError
(Ok x) >>= f = f x
(Err e) >>= f = Err e

-- the bytes end with the second pickle, and the first is a class
abbrev pub judged : List ℕ → Pair → Result Pair RecordError
judged bytes pair =
    if pair.second.behind == length bytes then
    if is_class pair.first.pickle then Ok pair else Err errors.BadClass
    else Err (errors.Rest pair.second.behind)

-- the record of two pickles
abbrev pub record_in : List ℕ → Result Pair PickleError → Result Pair RecordError
record_in bytes (Ok pair) = judged bytes pair
record_in bytes (Err e) = Err (errors.Pickle e)

-- the two pickles of a record, or the first refusal
unfoldable pub record_parts : List ℕ → Result Pair RecordError
record_parts bytes = record_in bytes (pair_of bytes)

-- the class and the state
abbrev pub record_of : List ℕ → Result (Graph × Graph) RecordError
record_of bytes = do
  parts ← record_parts bytes
  Ok (parts.first.pickle, parts.second.pickle)

-- the oids of the class, then those of the state
abbrev pub references_of : List ℕ → Result (List ℕ) RecordError
references_of bytes = do
  parts ← record_parts bytes
  Ok (parts.first.oids ++ parts.second.oids)

-- the text of the class, then that of the state
abbrev pub one_behind : Spelled → Spelled → Spelled
one_behind (Err e) state = Err e
one_behind (Ok class) (Err e) = Err e
one_behind (Ok class) (Ok state) = Ok (class ++ state)

abbrev pub object_text : Graph → Graph → Spelled
object_text class state = one_behind (pickle_text class) (pickle_text state)
