-- Nodes that don't stand once have no parts.
use Rattle.std.proofs.Common.{◌≡◌, false, [], ◌∷◌, Option, Some, None, refl}
use Rattle.pickle_graph.specs.declared.node.Node.{Node}
use Rattle.pickle_graph.specs.declared.node.Node.TheVariants as kinds
use Rattle.pickle_graph.specs.Parts.{held_in, parts_in}

pub no_parts : (found : Option Node) → held_in found ≡ false → parts_in found ≡ []
no_parts None h = refl
no_parts (Some (kinds.Tuple (item ∷ items))) h = absurd cc
no_parts (Some (kinds.List items)) h = absurd cc
no_parts (Some (kinds.Dict pairs)) h = absurd cc
no_parts (Some (kinds.Reference id)) h = absurd cc
no_parts (Some (kinds.Object callee arguments by_new acts)) h = absurd cc
no_parts (Some _) h = refl
