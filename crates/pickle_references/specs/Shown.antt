-- What a reader of references keeps where a graph was read. Own.
use Rattle.std.specs.Prelude.{ℕ, List, [], ◌∷◌, Option, None, Result, Ok, slice_get, map, ◌≡◌}
use Rattle.std.specs.Option.{option_map}
use Rattle.pickle_reading.specs.declared.error.PickleError.{PickleError}
use Rattle.pickle_graph.specs.declared.node.Node.{Node}
use Rattle.pickle_graph.specs.declared.node.Node.TheVariants as kinds
use Rattle.pickle_references.specs.declared.shapes.Shape.{Shape}
use Rattle.pickle_references.specs.declared.shapes.Shape.TheVariants as shapes
use Rattle.pickle_references.specs.Sights.{Shapes, Sight}
use Rattle.pickle_reading.specs.Nodes.{State}
use Rattle.pickle_references.specs.References.{Finding, Left, left_with, oid_in}
use Rattle.pickle_references.specs.Shapes.{bytes_shape, tuple_shape}
use Rattle.pickle_reading.specs.Sound.{IsSoundState}

-- the shape of a node, but for what a tuple begins with
abbrev pub own_shape : Node → Shape
own_shape (kinds.Tuple items) = shapes.Tuple
own_shape (kinds.List items) = shapes.List
own_shape (kinds.Dict pairs) = shapes.Dict
own_shape (kinds.Object callee arguments by_new acts) = shapes.Object
own_shape (kinds.Bytes bytes) = bytes_shape (oid_in bytes)
own_shape (kinds.OldText bytes) = bytes_shape (oid_in bytes)
own_shape (kinds.Global module_line name_line) = shapes.Global
own_shape _ = shapes.Other

-- the shape of the first of these items, if there is one
abbrev pub first_shape : List Node → List ℕ → Option Shape
first_shape ns [] = None
first_shape ns (first ∷ rest) = option_map own_shape (slice_get ns first)

-- the shape of a node of a graph
abbrev pub shape_of : List Node → Node → Shape
shape_of ns (kinds.Tuple items) = tuple_shape (first_shape ns items)
shape_of ns node = own_shape node

-- the shapes of these nodes of a graph
abbrev pub shapes_in : List Node → List Node → List Shape
shapes_in ns xs = map (shape_of ns) xs

-- what is kept where a graph was read so far
abbrev pub shapes_of : State → Shapes
shapes_of s = record { limit = s.limit; nodes = shapes_in s.nodes s.nodes; stack = s.stack; memo = s.memo }

abbrev pub sight_of : Finding → Sight
sight_of f = record { state = shapes_of f.state; oids = f.oids }

-- what is kept at STOP shows what was found, of which this is the root
pub record IsSeen (root next most : ℕ) (new : Sight) (read : Result Left PickleError) : Type 0 where
  pub finding : Finding
  pub shows : new ≡ sight_of finding
  pub sound : IsSoundState finding.state
  pub limit : finding.state.limit ≡ most
  pub reads : read ≡ Ok (left_with finding root next)
