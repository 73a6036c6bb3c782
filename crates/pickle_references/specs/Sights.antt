-- What a reader of references keeps: of each node its shape, of values what was seen of them. Own.
use Rattle.std.specs.Prelude.{ℕ, ℤ, List, Option, Some, None, Result, if◌then◌else◌}
use Rattle.pickle_ops.specs.declared.table.Op.{Op}
use Rattle.pickle_reading.specs.declared.error.PickleError.{PickleError}
use Rattle.pickle_reading.specs.declared.state.State.{State}
use Rattle.pickle_reading.specs.Steps.{Keeping}
use Rattle.pickle_references.specs.declared.finding.Finding.{Finding}
use Rattle.pickle_references.specs.declared.passing.Passed.{Passed}
use Rattle.pickle_references.specs.declared.references.Named.{Named}
use Rattle.pickle_references.specs.declared.shapes.Adding.{Adding}
use Rattle.pickle_references.specs.declared.shapes.Adding.TheVariants as addings
use Rattle.pickle_references.specs.declared.shapes.Shape.{Shape}
use Rattle.pickle_references.specs.declared.shapes.Shape.TheVariants as kinds
use Rattle.pickle_references.specs.Naming.{find}
use Rattle.pickle_references.specs.Shapes.{tuple_shape, named_as, lowest_as, is_tuple_shape, takes, leaf_shape, values_passed}

abbrev pub Shapes : Type 0
Shapes = State Shape

abbrev pub Sight : Type 0
Sight = Finding Shape

-- a shape that takes an addition stays as it is
abbrev pub with_adding : Adding → Option Shape → Option Shape
with_adding adding None = None
with_adding adding (Some shape) = if takes adding (Some shape) then Some shape else None

-- keys and values, if none is left over
abbrev pub pairs_in : Passed → Option Adding
pairs_in passed = if passed.odd then None else Some addings.Pairs

abbrev pub shapes : Keeping Shape Passed Adding
shapes = record {
  leaf = λ op number bytes. leaf_shape op bytes;
  taken = values_passed;
  tuple = λ ns passed. tuple_shape (lowest_as ns passed.lowest);
  values = λ passed. addings.Values;
  pairs = pairs_in;
  state = λ state. addings.State;
  added = with_adding;
  is_tuple = is_tuple_shape;
  object = λ callee arguments by_new. kinds.Object;
  reference = λ id. kinds.Other;
}

-- what the value of a shape names
abbrev pub shape_names : List Shape → Option Shape → Named
shape_names table shape = named_as shape

-- what a token does to what is kept
abbrev pub sight_step : Op → ℕ → ℤ → List ℕ → Sight → Result Sight PickleError
sight_step op at number bytes s = find shapes shape_names op at number bytes s
