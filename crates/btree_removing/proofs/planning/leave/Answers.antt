use Rattle.std.proofs.Common.{◌≡◌, ◌∙◌, Ok, sym, ap, subst}
use Rattle.btree_shapes.specs.Nodes.{objects_of}
use Rattle.btree_removing.specs.Plans.{left_asked, first_head, puts_leaving}
use Rattle.btree_removing.proofs.Finding.{leaving, leaving_before, leaving_head}
use Rattle.btree_removing.proofs.planning.leave.Goals as goal

pub returns-in_err-before-clause-met : goal.returns-in_err-before-clause-met
returns-in_err-before-clause-met g c = λ t.
    leaving_before (objects_of (g.S.Space.contents c.args.space.now) c.args.tree.now.root) c.args.leaf c.in_ok-left.field-0 _ _ _ _ c.in_ok-left.ensures
    (c.left_asked-left.ensures ∙ ap (λ b. left_asked b c.in_ok-left.field-0.left) c.is_leaf.ensures) (c.in_err-before.ensures.met t)

pub returns-in_err-known-clause-met : goal.returns-in_err-known-clause-met
returns-in_err-known-clause-met g c = λ t.
    leaving_head c.args.key.now (objects_of (g.S.Space.contents c.args.space.now) c.args.tree.now.root) c.args.leaf c.in_ok-left.field-0 _ _ _ _ _ _ _ c.in_ok-left.ensures
    (c.left_asked-left.ensures ∙ ap (λ b. left_asked b c.in_ok-left.field-0.left) c.is_leaf.ensures) c.in_ok-before.ensures.answer (c.in_ok-before.ensures.log t) (c.in_err-known.ensures.met t)

pub returns-in_err-puts-clause-met : goal.returns-in_err-puts-clause-met
returns-in_err-puts-clause-met g c = λ t.
    leaving_head c.args.key.now (objects_of (g.S.Space.contents c.args.space.now) c.args.tree.now.root) c.args.leaf c.in_ok-left.field-0 _ _ _ _ _ _ _ c.in_ok-left.ensures
    (c.left_asked-left.ensures ∙ ap (λ b. left_asked b c.in_ok-left.field-0.left) c.is_leaf.ensures) c.in_ok-before.ensures.answer (c.in_ok-before.ensures.log t) (c.in_ok-known.ensures.met t)

pub returns-in_err-all-clause-met : goal.returns-in_err-all-clause-met
returns-in_err-all-clause-met g c = λ t.
    leaving_head c.args.key.now (objects_of (g.S.Space.contents c.args.space.now) c.args.tree.now.root) c.args.leaf c.in_ok-left.field-0 _ _ _ _ _ _ _ c.in_ok-left.ensures
    (c.left_asked-left.ensures ∙ ap (λ b. left_asked b c.in_ok-left.field-0.left) c.is_leaf.ensures) c.in_ok-before.ensures.answer (c.in_ok-before.ensures.log t) (c.in_ok-known.ensures.met t)

pub returns-clause-met : goal.returns-clause-met
returns-clause-met g c = λ t.
    leaving_head c.args.key.now (objects_of (g.S.Space.contents c.args.space.now) c.args.tree.now.root) c.args.leaf c.in_ok-left.field-0 _ _ _ _ _ _ _ c.in_ok-left.ensures
    (c.left_asked-left.ensures ∙ ap (λ b. left_asked b c.in_ok-left.field-0.left) c.is_leaf.ensures) c.in_ok-before.ensures.answer (c.in_ok-before.ensures.log t) (c.in_ok-known.ensures.met t)

pub returns-clause-answer : goal.returns-clause-answer
returns-clause-answer g c =
    let objects = objects_of (g.S.Space.contents c.args.space.now) c.args.tree.now.root in
    let known = ap (λ f. first_head c.args.key.now (objects_of f c.args.tree.now.root) c.in_ok-left.field-0.head) (sym c.in_ok-before.ensures.contents) ∙ c.in_ok-known.ensures.answer in
    subst (λ x. puts_leaving c.args.key.now objects c.args.rungs c.args.leaf x ≡ Ok c.in_ok-all.all) c.in_ok-left.ensures
    (leaving c.args.key.now objects c.args.rungs c.args.leaf c.in_ok-left.field-0 _ _ _ _ _ _ c.next_of.ensures
    (c.left_asked-left.ensures ∙ ap (λ b. left_asked b c.in_ok-left.field-0.left) c.is_leaf.ensures)
    c.in_ok-before.ensures.answer known c.in_ok-puts.ensures c.in_ok-all.ensures)
