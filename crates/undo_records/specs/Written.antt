-- How what is written is kept. Own.
use Rattle.std.specs.Prelude.{ℕ, List, map}
use Rattle.zb_model.specs.declared.new_transaction.NewChange.{NewChange}
use Rattle.zb_model.specs.declared.new_transaction.NewContent.{NewContent}

abbrev pub change_of_entry : ℕ × NewContent → NewChange
change_of_entry e = record { oid = e.0; content = e.1 }

-- the changes that a table has, in its order
abbrev pub changes_in : List (ℕ × NewContent) → List NewChange
changes_in entries = map change_of_entry entries
