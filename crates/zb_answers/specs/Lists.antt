-- The lines of the lists that a database answers. Own.
use Rattle.std.specs.Prelude.{ℕ, List, [], ◌∷◌, ◌++◌, Option, Some, None, codes, decimal}
use Rattle.zb_ids.specs.Hex.{hex_number}
use Rattle.zb_model.specs.declared.lists.LogLine.{LogLine}
use Rattle.zb_model.specs.declared.lists.Revision.{Revision}
use Rattle.zb_literals.specs.Texts.{text_literal}

-- a user and a description, with a blank before each
abbrev pub texts_words : List ℕ → List ℕ → List ℕ
texts_words user description = 32 ∷ (text_literal user ++ 32 ∷ text_literal description)

-- an item of the undo list: tid, user and description
abbrev pub log_words : LogLine → List ℕ
log_words line = hex_number line.tid ++ texts_words line.user line.description

abbrev pub size_text : Option ℕ → List ℕ
size_text (Some size) = decimal size
size_text None = codes "absent"

-- an item of a history: tid, size, user and description
abbrev pub revision_words : Revision → List ℕ
revision_words line = hex_number line.tid ++ 32 ∷ (size_text line.size ++ texts_words line.user line.description)

-- the lines of both, with their newline
abbrev pub log_text : LogLine → List ℕ
log_text line = log_words line ++ 10 ∷ []

abbrev pub revision_text : Revision → List ℕ
revision_text line = revision_words line ++ 10 ∷ []
