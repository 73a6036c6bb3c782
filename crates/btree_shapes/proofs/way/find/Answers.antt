use Rattle.std.proofs.Common.{◌∙◌, ◌++◌, ◌∷◌, [], ap, sym}
use Rattle.btree_shapes.specs.declared.space.Call.TheVariants.{Read}
use Rattle.btree_shapes.specs.Nodes.{objects_of}
use Rattle.btree_shapes.specs.MetLaws.{met_of_root, root_logged}
use Rattle.btree_shapes.proofs.way.find.Goals as goal

pub returns-in_err-tree-clause-met : goal.returns-in_err-tree-clause-met
returns-in_err-tree-clause-met g c = λ t. root_logged c.args.key.now (objects_of (g.S.Space.contents c.args.space.now) c.args.root) c.args.root _ _ _ (c.in_err-tree.ensures.log t)

pub returns-clause-met : goal.returns-clause-met
returns-clause-met g c = λ t.
    let r = c.in_ok-tree.ensures.root in
    met_of_root (g.S.Space.contents c.args.space.now) _ c.args.root _ c.args.key.now _ _ c.in_ok-tree.ensures.contents r.0
    (c.follow_root.ensures.met t _ (c.in_ok-tree.ensures.log t ∙ ap (λ x. g.S.Space.log c.args.space.now ++ Read x ∷ []) (sym r.0)))
