-- Reading the first leaf below an object.
use Rattle.std.proofs.Common.{◌≡◌, ℕ, Bool, true, false, Ok, Err, sym, ◌∙◌, ap}
use Rattle.std.specs.Prelude.{◌&&◌, if◌then◌else◌}
use Rattle.pickle_graph.specs.Graph.{Graph}
use Rattle.btree_family.specs.declared.key.Key.{Key}
use Rattle.btree_shapes.specs.declared.error.TreeError.{TreeError}
use Rattle.btree_shapes.specs.declared.error.TreeError.TheVariants.{NotATree, NodeMissing, BadKey, Refused, Memory}
use Rattle.btree_shapes.specs.declared.node.Node.{Node}
use Rattle.btree_shapes.specs.Nodes.{Held, Holds, node_suits}
use Rattle.btree_shapes.specs.Reading.{IsReadError}
use Rattle.btree_shapes.specs.Ways.{IsRefusal}
use Rattle.btree_putting.specs.Firsts.{first_of, first_held}

pub first_unread : (fits : Bool) (key : Key) (oid : ℕ) (held : Held) (e : TreeError) → IsReadError held oid e → IsRefusal e (first_held fits key oid held)
first_unread fits key oid held (NotATree other) (o, h) = ap (first_held fits key oid) h ∙ ap (λ x. Err (NotATree x)) (sym o)
first_unread fits key oid held (NodeMissing other) (o, h) = ap (first_held fits key oid) h ∙ ap (λ x. Err (NodeMissing x)) (sym o)
first_unread fits key oid held BadKey h = absurd h
first_unread fits key oid held (Refused refusal) h = tt
first_unread fits key oid held Memory h = tt

pub first_bad : (fits : Bool) (key : Key) (oid : ℕ) (held : Held) (class : Graph) (node : Node) → held ≡ Holds class node → (fits && node_suits key node) ≡ false → first_held fits key oid held ≡ Err BadKey
first_bad fits key oid held class node h t = ap (first_held fits key oid) h ∙ ap (λ b. if b then Ok (first_of oid node) else Err BadKey) t

pub first_read : (fits : Bool) (key : Key) (oid : ℕ) (held : Held) (class : Graph) (node : Node) → held ≡ Holds class node → (fits && node_suits key node) ≡ true → first_held fits key oid held ≡ Ok (first_of oid node)
first_read fits key oid held class node h t = ap (first_held fits key oid) h ∙ ap (λ b. if b then Ok (first_of oid node) else Err BadKey) t
