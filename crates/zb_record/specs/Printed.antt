-- Records as they are printed. Own.
use Rattle.std.specs.Prelude.{ℕ, List, Result, Ok, Err}
use Rattle.pickle_graph.specs.Graph.{Graph}
use Rattle.pickle_writing.specs.Spelling.{Spelled}
use Rattle.zb_literals.specs.Records.{record_literal_of, raw_literal_of}
use Rattle.zb_record.specs.declared.error.RecordError.{RecordError}
use Rattle.zb_record.specs.Records.{record_of}

-- a text, or the digits of the bytes where there is none
abbrev pub or_raw : List ℕ → Spelled → List ℕ
or_raw bytes (Ok text) = text
or_raw bytes (Err e) = raw_literal_of bytes

abbrev pub print_as : List ℕ → Result (Graph × Graph) RecordError → List ℕ
print_as bytes (Ok graphs) = or_raw bytes (record_literal_of graphs.0 graphs.1)
print_as bytes (Err e) = raw_literal_of bytes

-- the literals of the class and the state; or `raw` and the digits, where the bytes are no record or it is too deep to write
abbrev pub object_literal_of : List ℕ → List ℕ
object_literal_of bytes = print_as bytes (record_of bytes)
