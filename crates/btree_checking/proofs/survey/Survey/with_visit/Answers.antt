-- One more object was visited.
use Rattle.std.proofs.Common.{◌≡◌, ℕ, ◌∙◌, ◌+◌, ◌++◌, ◌∷◌, [], ap, false, length}
use Rattle.btree_shapes.specs.Nodes.{items_in}
use Rattle.btree_checking.specs.declared.links.Pointer.{Pointer}
use Rattle.btree_checking.specs.Rules.{Tour, was_visited, keys_in, kind_with, depth_with}
use Rattle.btree_checking.proofs.Visited.{insert_new, visit_is}
use Rattle.btree_checking.proofs.survey.Survey.with_visit.Goals as goal

pub returns-clause-is : goal.returns-clause-is
returns-clause-is c =
    let new : was_visited c.self.inside.visits.entries c.args.place.now.oid ≡ false = ap (λ (tour : Tour). was_visited tour.visits c.args.place.now.oid) c.self.view_is ∙ c.requires.new in
    let placed = insert_new c.self.inside.visits.entries c.args.place.now.oid c.pointer_of.result new in
    let items : c.self.inside.items ≡ c.args.self.items = ap (λ (tour : Tour). tour.items) c.self.view_is in
    let counted : c.self.inside.items + c.count_of-count.result ≡ c.args.self.items + length (items_in c.args.node.now) = ap (λ (n : ℕ). n + c.count_of-count.result) items ∙ ap (λ (n : ℕ). c.args.self.items + n) c.count_of-count.ensures in
    visit_is c.args.self c.args.place.now c.args.node.now _ _ _ _
    (c.in_ok-insert.ensures.entries ∙ placed ∙ ap (λ (tour : Tour). tour.visits ++ (c.args.place.now.oid, c.pointer_of.result) ∷ []) c.self.view_is ∙ ap (λ (p : Pointer). c.args.self.visits ++ (c.args.place.now.oid, p) ∷ []) c.pointer_of.ensures)
    (c.in_ok-key.ensures ∙ ap (λ (tour : Tour). kind_with tour.kind (keys_in c.args.node.now)) c.self.view_is)
    (c.depth_with.ensures ∙ ap (λ (tour : Tour). depth_with tour.depth c.args.place.now.level c.args.node.now) c.self.view_is)
    counted
