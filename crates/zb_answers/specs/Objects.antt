-- Objects as answers show them, and keys and values by their spelling. Own.
use Rattle.std.specs.Prelude.{ℕ, ◌≡◌, Bool, true, false, List, [], ◌∷◌, ◌++◌, length, Option, Some, None, Result, Ok, Err, codes, ◌==◌, if◌then◌else◌}
use Rattle.zb_ids.specs.Hex.{hex_text, hex_number}
use Rattle.pickle_reading.specs.declared.error.PickleError.{PickleError}
use Rattle.pickle_reading.specs.declared.reading.TheConstants.{NODE_LIMIT}
use Rattle.pickle_graph.specs.Graph.{Graph}
use Rattle.pickle_reading.specs.Reading.{graph_at}
use Rattle.zb_script.specs.Keys.{text_or_none}
use Rattle.zb_literals.specs.Printing.{literal_of}
use Rattle.zb_literals.specs.Records.{record_literal_of}
use Rattle.zb_record.specs.declared.error.RecordError.{RecordError}
use Rattle.zb_record.specs.Printed.{object_literal_of}
use Rattle.zb_record.specs.Records.{record_of}

abbrev pub graphs_text : Result (Graph × Graph) RecordError → Option (List ℕ)
graphs_text (Ok graphs) = text_or_none (record_literal_of graphs.0 graphs.1)
graphs_text (Err e) = None

-- the literals of the class and the state, where the bytes are a record that isn't too deep to write
abbrev pub record_print : List ℕ → Option (List ℕ)
record_print bytes = graphs_text (record_of bytes)

abbrev pub shown_text : Option (List ℕ) → ℕ → List ℕ → List ℕ
shown_text (Some text) serial bytes = codes "object " ++ (hex_number serial ++ 32 ∷ text)
shown_text None serial bytes = codes "raw " ++ (hex_number serial ++ 32 ∷ hex_text bytes)

-- what `get` is answered: `object`, the serial, the class and the state; or `raw`, the serial and the digits
abbrev pub object_answer : ℕ → List ℕ → List ℕ
object_answer serial bytes = shown_text (record_print bytes) serial bytes

-- whether that was put behind a text as an object; nothing is where the bytes are none
abbrev pub IsPut : Bool → ℕ → List ℕ → List ℕ → List ℕ → Type 0
IsPut true serial bytes before now = now ≡ before ++ object_answer serial bytes
IsPut false serial bytes before now = (record_print bytes ≡ None) × (now ≡ before)

-- a line of `show`: the serial, and the object as it is printed
abbrev pub shown_line : ℕ → List ℕ → List ℕ
shown_line serial bytes = hex_number serial ++ 32 ∷ (object_literal_of bytes ++ 10 ∷ [])

-- ---- keys and values

-- the pickle of a value that is spelled so
abbrev pub pickle_of_spelling : List ℕ → List ℕ
pickle_of_spelling spelling = 128 ∷ 3 ∷ (spelling ++ 46 ∷ [])

-- the literal of the graph, where its pickle ends there
abbrev pub whole_literal : ℕ → Result (Graph × ℕ) PickleError → Option (List ℕ)
whole_literal end (Ok read) = if read.1 == end then text_or_none (literal_of read.0.nodes read.0.root) else None
whole_literal end (Err e) = None

abbrev pub spelled_literal : List ℕ → Option (List ℕ)
spelled_literal spelling = whole_literal (length (pickle_of_spelling spelling)) (graph_at NODE_LIMIT 0 (pickle_of_spelling spelling))

abbrev pub or_digits : Option (List ℕ) → List ℕ → List ℕ
or_digits (Some text) bytes = text
or_digits None bytes = hex_text bytes

-- the literal of the value that a pickle spells so; or the digits of the bytes, where they spell none
abbrev pub key_text : List ℕ → List ℕ
key_text spelling = or_digits (spelled_literal spelling) spelling
