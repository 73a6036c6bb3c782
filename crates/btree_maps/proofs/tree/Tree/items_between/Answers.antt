use Rattle.std.proofs.Common.{◌∙◌, ◌++◌, ◌∷◌, [], ap, sym}
use Rattle.btree_shapes.specs.declared.space.Call.TheVariants.{Read}
use Rattle.btree_maps.specs.declared.span.Span.TheVariants.{Within}
use Rattle.btree_shapes.specs.Nodes.{objects_of}
use Rattle.btree_maps.proofs.Meeting.{range_of_root, start_logged}
use Rattle.btree_maps.proofs.tree.Tree.items_between.Goals as goal

pub returns-in_err-tree-clause-met : goal.returns-in_err-tree-clause-met
returns-in_err-tree-clause-met g c = λ t. start_logged (Within c.args.from.now c.args.to.now) (objects_of (g.S.Space.contents c.args.space.now) c.args.self.now.root) c.args.self.now.root _ _ _ (c.in_err-tree.ensures.log t)

pub returns-clause-met : goal.returns-clause-met
returns-clause-met g c = λ t.
    let r = c.in_ok-tree.ensures.root in
    range_of_root _ _ c.args.from.now c.args.to.now (g.S.Space.contents c.args.space.now) _ c.args.self.now.root _ _ _ c.in_ok-low.ensures.cases c.in_ok-high.ensures.cases c.in_ok-tree.ensures.contents r.0
    (c.walk_all.ensures.met t _ (c.in_ok-tree.ensures.log t ∙ ap (λ x. g.S.Space.log c.args.space.now ++ Read x ∷ []) (sym r.0)))
