-- Shapes: what a reader of references keeps of nodes. Own.
use Rattle.std.specs.Prelude.{ℕ, zero, suc, Bool, true, false, List, [], ◌∷◌, Option, Some, None, slice_get, if◌then◌else◌}
use Rattle.pickle_ops.specs.declared.table.Op.{Op}
use Rattle.pickle_ops.specs.declared.table.Op.TheVariants as ops
use Rattle.pickle_references.specs.declared.references.Named.{Named}
use Rattle.pickle_references.specs.declared.references.Named.TheVariants.{Strong, Weak, Bad}
use Rattle.pickle_references.specs.declared.shapes.Shape.{Shape}
use Rattle.pickle_references.specs.declared.shapes.Shape.TheVariants as kinds
use Rattle.pickle_references.specs.declared.shapes.Adding.{Adding}
use Rattle.pickle_references.specs.declared.shapes.Adding.TheVariants as addings
use Rattle.pickle_reading.specs.declared.state.Item.{Item}
use Rattle.pickle_reading.specs.declared.state.Item.TheVariants.{Value, Mark}
use Rattle.pickle_references.specs.declared.passing.Passed.{Passed}
use Rattle.pickle_reading.specs.declared.state.Extent.{Extent}
use Rattle.pickle_reading.specs.declared.state.Extent.TheVariants.{Marked, Top}
use Rattle.pickle_references.specs.References.{oid_in}

-- ---- shapes

-- a tuple, by the shape of its first item
abbrev pub tuple_shape : Option Shape → Shape
tuple_shape (Some (kinds.Id oid)) = kinds.Naming oid
tuple_shape (Some kinds.Global) = kinds.Classed
tuple_shape _ = kinds.Tuple

-- bytes that name this
abbrev pub bytes_shape : Named → Shape
bytes_shape (Strong oid) = kinds.Id oid
bytes_shape _ = kinds.Other

-- what a persistent id of a shape names
abbrev pub named_as : Option Shape → Named
named_as (Some (kinds.Naming oid)) = Strong oid
named_as (Some (kinds.Id oid)) = Strong oid
named_as (Some kinds.List) = Weak
named_as _ = Bad

-- the shape of the value of a number, if there is one
abbrev pub lowest_as : List Shape → Option ℕ → Option Shape
lowest_as shapes None = None
lowest_as shapes (Some v) = slice_get shapes v

-- a tuple
abbrev pub is_tuple_shape : Option Shape → Bool
is_tuple_shape (Some kinds.Tuple) = true
is_tuple_shape (Some (kinds.Naming oid)) = true
is_tuple_shape (Some kinds.Classed) = true
is_tuple_shape _ = false

-- a global, or a tuple that begins with one
abbrev pub is_class_shape : Option Shape → Bool
is_class_shape (Some kinds.Global) = true
is_class_shape (Some kinds.Classed) = true
is_class_shape _ = false

-- what may be added to a value of a shape
abbrev pub takes : Adding → Option Shape → Bool
takes adding (Some kinds.Object) = true
takes addings.Values (Some kinds.List) = true
takes addings.Pairs (Some kinds.Dict) = true
takes _ _ = false

-- the shape of a node that an opcode with these bytes makes by itself
abbrev pub leaf_shape : Op → List ℕ → Option Shape
leaf_shape ops.None bytes = Some kinds.Other
leaf_shape ops.NewTrue bytes = Some kinds.Other
leaf_shape ops.NewFalse bytes = Some kinds.Other
leaf_shape ops.BinInt bytes = Some kinds.Other
leaf_shape ops.BinInt1 bytes = Some kinds.Other
leaf_shape ops.BinInt2 bytes = Some kinds.Other
leaf_shape ops.Long1 bytes = Some kinds.Other
leaf_shape ops.Long4 bytes = Some kinds.Other
leaf_shape ops.BinFloat bytes = Some kinds.Other
leaf_shape ops.BinBytes bytes = Some (bytes_shape (oid_in bytes))
leaf_shape ops.ShortBinBytes bytes = Some (bytes_shape (oid_in bytes))
leaf_shape ops.BinString bytes = Some (bytes_shape (oid_in bytes))
leaf_shape ops.ShortBinString bytes = Some (bytes_shape (oid_in bytes))
leaf_shape ops.BinUnicode bytes = Some kinds.Other
leaf_shape ops.EmptyTuple bytes = Some kinds.Tuple
leaf_shape ops.EmptyList bytes = Some kinds.List
leaf_shape ops.EmptyDict bytes = Some kinds.Dict
leaf_shape ops.Global bytes = Some kinds.Global
leaf_shape _ bytes = None

-- ---- values that are passed on the stack

-- what was seen of values, and what lies below them; or there are none to pass
abbrev pub PassedValues : Type 0
PassedValues = Option (Passed × List Item)

-- no value was passed yet
abbrev pub none_passed : Passed
none_passed = record { odd = false; lowest = None }

-- one more value is passed, below the others
abbrev pub one_passed : Passed → ℕ → Passed
one_passed seen v = record { odd = if seen.odd then false else true; lowest = Some v }

-- the values above the last mark, and the mark
abbrev pub to_mark : List Item → Passed → PassedValues
to_mark [] seen = None
to_mark (Mark ∷ below) seen = Some (seen, below)
to_mark (Value v ∷ below) seen = to_mark below (one_passed seen v)

-- so many values from the top, with no mark among them
abbrev pub past_top : ℕ → List Item → Passed → PassedValues
past_top zero stack seen = Some (seen, stack)
past_top (suc n) (Value v ∷ below) seen = past_top n below (one_passed seen v)
past_top (suc n) _ seen = None

-- the values of an extent
abbrev pub values_passed : Extent → List Item → PassedValues
values_passed Marked stack = to_mark stack none_passed
values_passed (Top count) stack = past_top count stack none_passed
