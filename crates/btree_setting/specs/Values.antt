-- Values of a family, and what a key is set to. From: the BTrees package.
use Rattle.std.specs.Prelude.{ℕ, Bool, true, false, List, Option, Some, None, Result, Ok, Err, eqb, not, slice_get, ◌&&◌, if◌then◌else◌}
use Rattle.std.specs.Cmp.Lexicographic.{pointwise}
use Rattle.pickle_reading.specs.declared.error.PickleError.{PickleError}
use Rattle.pickle_reading.specs.declared.reading.TheConstants.{NODE_LIMIT}
use Rattle.pickle_graph.specs.Graph.{Graph}
use Rattle.pickle_reading.specs.Reading.{graph_at}
use Rattle.pickle_writing.specs.Spelling.{Spelled, spelling_of}
use Rattle.btree_family.specs.declared.table.ValueKind.{ValueKind}
use Rattle.btree_family.specs.Classes.{Class, classes, leaf_in}
use Rattle.bucket_state.specs.States.{has_values}
use Rattle.bucket_state.specs.Laws.{node_fits}
use Rattle.bucket_state.specs.Written.{value_pickle}
use Rattle.btree_putting.specs.Writing.{has_leaf}

abbrev pub is_spelled : List ℕ → Spelled → Bool
is_spelled text (Ok spelled) = pointwise eqb spelled text
is_spelled text (Err e) = false

-- the bytes are the spelling of a graph's root, which may be a value of the family
abbrev pub is_value_of : ValueKind → List ℕ → Graph → Bool
is_value_of kind text g = node_fits kind (slice_get g.nodes g.root) && is_spelled text (spelling_of g.nodes g.root)

abbrev pub is_value_in : ValueKind → List ℕ → Result (Graph × ℕ) PickleError → Bool
is_value_in kind text (Ok found) = is_value_of kind text found.0
is_value_in kind text (Err e) = false

-- the bytes are the spelling of a value of the family
abbrev pub is_family_text : ValueKind → List ℕ → Bool
is_family_text kind text = is_value_in kind text (graph_at NODE_LIMIT 0 (value_pickle text))

-- a value stands exactly where the class has values, and is one of the family
abbrev pub fits_class : Class → Option (List ℕ) → Bool
fits_class class None = not (has_values class.kind)
fits_class class (Some text) = if has_values class.kind then is_family_text class.value text else false

-- whether a value is one of the family, where the root has a class
abbrev pub family_value : Option Class → Option (List ℕ) → Bool
family_value None value = true
family_value (Some class) value = has_leaf (leaf_in classes class) && fits_class class value
