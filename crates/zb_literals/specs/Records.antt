-- The literals of records. Own.
use Rattle.std.specs.Prelude.{ℕ, ◌≡◌, Bool, true, false, List, ◌∷◌, ◌++◌, Ok, Err, codes}
use Rattle.zb_ids.specs.Hex.{hex_text}
use Rattle.pickle_graph.specs.Graph.{Graph}
use Rattle.pickle_writing.specs.Spelling.{Spelled}
use Rattle.pickle_writing.specs.declared.error.WriteError.TheVariants as errors
use Rattle.zb_literals.specs.Printing.{literal_of, behind_text}

abbrev pub apart : Spelled → Spelled → Spelled
apart (Ok one) (Ok other) = Ok (one ++ 32 ∷ other)
apart (Ok one) (Err e) = Err e
apart (Err e) other = Err e

-- the literal of the class, a blank and the literal of the state
abbrev pub record_literal_of : Graph → Graph → Spelled
record_literal_of class state = apart (literal_of class.nodes class.root) (literal_of state.nodes state.root)

-- whether a literal was put behind a text; nothing is where it is too deep to write
abbrev pub IsPut : Bool → List ℕ → List ℕ → Spelled → Type 0
IsPut true before now literal = behind_text before literal ≡ Ok now
IsPut false before now literal = (literal ≡ Err errors.TooDeep) × (now ≡ before)

-- bytes that are no record, or one that can't be written
abbrev pub raw_literal_of : List ℕ → List ℕ
raw_literal_of bytes = codes "raw " ++ hex_text bytes
