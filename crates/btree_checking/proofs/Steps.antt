-- One step of a walk.
use Rattle.std.proofs.Common.{◌≡◌, ℕ, zero, suc, false, None, refl, ◌∙◌, ap}
use Rattle.std.specs.Prelude.{if◌then◌else◌}
use Rattle.pickle_graph.specs.Graph.{Graph}
use Rattle.btree_shapes.specs.declared.node.Node.{Node}
use Rattle.btree_shapes.specs.Nodes.{Held, Holds}
use Rattle.btree_checking.specs.declared.place.Place.{Place}
use Rattle.btree_checking.specs.declared.verdict.Rule.TheVariants.{Shared}
use Rattle.btree_checking.specs.Rules.{Tour, was_visited, rule_broken, with_visit, places_below}
use Rattle.btree_checking.specs.Walks.{stopped, in_turn, visit_node, visit_held, visit}

pub visit_zero : (objects : ℕ → Held) (place : Place) (tour : Tour) → visit objects zero place tour ≡ stopped place tour Shared
unfolding visit
visit_zero objects place tour = refl

pub visit_suc : (objects : ℕ → Held) (room : ℕ) (place : Place) (tour : Tour) → visit objects (suc room) place tour ≡ visit_held (visit objects room) place tour (objects place.oid)
unfolding visit
visit_suc objects room place tour = refl

pub visit_new : (objects : ℕ → Held) (room : ℕ) (place : Place) (tour : Tour) (class : Graph) (node : Node) → objects place.oid ≡ Holds class node → was_visited tour.visits place.oid ≡ false → visit objects (suc room) place tour ≡ visit_node (visit objects room) place tour node (rule_broken place tour node)
visit_new objects room place tour class node h s =
    visit_suc objects room place tour ∙ ap (visit_held (visit objects room) place tour) h
    ∙ ap (λ b. if b then stopped place tour Shared else visit_node (visit objects room) place tour node (rule_broken place tour node)) s

pub visit_right : (objects : ℕ → Held) (room : ℕ) (place : Place) (tour : Tour) (class : Graph) (node : Node) → objects place.oid ≡ Holds class node → was_visited tour.visits place.oid ≡ false → rule_broken place tour node ≡ None → visit objects (suc room) place tour ≡ in_turn (visit objects room) (places_below place node) (with_visit place tour node)
visit_right objects room place tour class node h s r =
    visit_new objects room place tour class node h s ∙ ap (visit_node (visit objects room) place tour node) r
