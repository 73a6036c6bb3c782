use Rattle.std.proofs.Common.{◌≡◌, ◌∙◌, ◌++◌, ◌∷◌, [], Ok, None, true, false, sym, ap}
use Rattle.btree_family.specs.Classes.{class_seen, classes, leaf_in}
use Rattle.btree_family.specs.Families.{key_fits}
use Rattle.btree_shapes.specs.declared.space.Call.TheVariants.{Read}
use Rattle.btree_shapes.specs.Nodes.{class_held}
use Rattle.btree_removing.proofs.Answering.{no_leaf, no_key, same_objects, has_way, all_reads, met_at_root, met_on_way, met_past_way, met_root_read}
use Rattle.btree_removing.proofs.removing.find_puts.Goals as goal

pub returns-in_default-clause-err : goal.returns-in_default-clause-err
returns-in_default-clause-err g c =
    let f = g.S.Space.contents c.args.space.now in
    let r = c.in_ok-tree.ensures.root in
    no_leaf f c.args.root c.args.key.now _ _ (class_seen c.in_ok-tree.tree.row.now) r.2
    (ap (λ x. class_held (f x)) (sym r.0) ∙ r.1) (sym c.in_default.ensures.row)

pub returns-then-not-key_fits-clause-err : goal.returns-then-not-key_fits-clause-err
returns-then-not-key_fits-clause-err g c =
    let f = g.S.Space.contents c.args.space.now in
    let r = c.in_ok-tree.ensures.root in
    let k : key_fits c.in_ok-tree.tree.row.now.key c.args.key.now ≡ false = cc in
    no_key f c.args.root c.args.key.now _ _ (class_seen c.in_ok-tree.tree.row.now) r.2
    (ap (λ x. class_held (f x)) (sym r.0) ∙ r.1) k

pub returns-in_err-tree-clause-met : goal.returns-in_err-tree-clause-met
returns-in_err-tree-clause-met g c = λ t. met_at_root (g.S.Space.contents c.args.space.now) c.args.root c.args.key.now _ _ _ (c.in_err-tree.ensures.log t)

pub returns-in_default-clause-met : goal.returns-in_default-clause-met
returns-in_default-clause-met g c = λ t. met_root_read (g.S.Space.contents c.args.space.now) c.args.root c.args.key.now _ _ (c.in_ok-tree.ensures.log t)

pub returns-then-not-key_fits-clause-met : goal.returns-then-not-key_fits-clause-met
returns-then-not-key_fits-clause-met g c = λ t. met_root_read (g.S.Space.contents c.args.space.now) c.args.root c.args.key.now _ _ (c.in_ok-tree.ensures.log t)

pub returns-in_err-found-clause-met : goal.returns-in_err-found-clause-met
returns-in_err-found-clause-met g c = λ t.
    let r = c.in_ok-tree.ensures.root in
    met_on_way (g.S.Space.contents c.args.space.now) _ c.args.root _ c.args.key.now _ _ c.in_ok-tree.ensures.contents r.0
    (c.in_err-found.ensures.met t _ (c.in_ok-tree.ensures.log t ∙ ap (λ x. g.S.Space.log c.args.space.now ++ Read x ∷ []) (sym r.0)))

pub returns-in_err-puts-clause-met : goal.returns-in_err-puts-clause-met
returns-in_err-puts-clause-met g c = λ t.
    let r = c.in_ok-tree.ensures.root in
    let k : key_fits c.in_ok-tree.tree.row.now.key c.args.key.now ≡ true = cc in
    met_past_way (g.S.Space.contents c.args.space.now) c.args.root c.args.key.now _ c.in_ok-found.found _ _ _
    (same_objects _ _ _ _ _ r.0 c.in_ok-tree.ensures.contents c.in_ok-found.ensures.contents)
    (has_way _ _ _ _ _ _ _ _ _ _ _ r.0 r.1 c.in-Some.ensures.row k
    c.in_ok-tree.ensures.contents c.in_ok-found.ensures.answer (c.in_ok-tree.ensures.log t) (c.in_ok-found.ensures.log t))
    (c.in_err-puts.ensures.met t)

pub returns-in_default-2-clause-met : goal.returns-in_default-2-clause-met
returns-in_default-2-clause-met g c = λ t.
    let r = c.in_ok-tree.ensures.root in
    let k : key_fits c.in_ok-tree.tree.row.now.key c.args.key.now ≡ true = cc in
    met_past_way (g.S.Space.contents c.args.space.now) c.args.root c.args.key.now _ c.in_ok-found.found _ _ _
    (same_objects _ _ _ _ _ r.0 c.in_ok-tree.ensures.contents c.in_ok-found.ensures.contents)
    (has_way _ _ _ _ _ _ _ _ _ _ _ r.0 r.1 c.in-Some.ensures.row k
    c.in_ok-tree.ensures.contents c.in_ok-found.ensures.answer (c.in_ok-tree.ensures.log t) (c.in_ok-found.ensures.log t))
    (c.in_ok-puts.ensures.met t)

pub returns-clause-met : goal.returns-clause-met
returns-clause-met g c = λ t.
    let r = c.in_ok-tree.ensures.root in
    let k : key_fits c.in_ok-tree.tree.row.now.key c.args.key.now ≡ true = cc in
    met_past_way (g.S.Space.contents c.args.space.now) c.args.root c.args.key.now _ c.in_ok-found.found _ _ _
    (same_objects _ _ _ _ _ r.0 c.in_ok-tree.ensures.contents c.in_ok-found.ensures.contents)
    (has_way _ _ _ _ _ _ _ _ _ _ _ r.0 r.1 c.in-Some.ensures.row k
    c.in_ok-tree.ensures.contents c.in_ok-found.ensures.answer (c.in_ok-tree.ensures.log t) (c.in_ok-found.ensures.log t))
    (c.in_ok-puts.ensures.met t)

pub returns-in_default-2-clause-log : goal.returns-in_default-2-clause-log
returns-in_default-2-clause-log g c = λ t.
    let r = c.in_ok-tree.ensures.root in
    let k : key_fits c.in_ok-tree.tree.row.now.key c.args.key.now ≡ true = cc in
    all_reads (g.S.Space.contents c.args.space.now) c.args.root c.args.key.now _ c.in_ok-found.found _ _ _
    (same_objects _ _ _ _ _ r.0 c.in_ok-tree.ensures.contents c.in_ok-found.ensures.contents)
    (has_way _ _ _ _ _ _ _ _ _ _ _ r.0 r.1 c.in-Some.ensures.row k
    c.in_ok-tree.ensures.contents c.in_ok-found.ensures.answer (c.in_ok-tree.ensures.log t) (c.in_ok-found.ensures.log t))
    (c.in_ok-puts.ensures.log t)

pub returns-clause-log : goal.returns-clause-log
returns-clause-log g c = λ t.
    let r = c.in_ok-tree.ensures.root in
    let k : key_fits c.in_ok-tree.tree.row.now.key c.args.key.now ≡ true = cc in
    all_reads (g.S.Space.contents c.args.space.now) c.args.root c.args.key.now _ c.in_ok-found.found _ _ _
    (same_objects _ _ _ _ _ r.0 c.in_ok-tree.ensures.contents c.in_ok-found.ensures.contents)
    (has_way _ _ _ _ _ _ _ _ _ _ _ r.0 r.1 c.in-Some.ensures.row k
    c.in_ok-tree.ensures.contents c.in_ok-found.ensures.answer (c.in_ok-tree.ensures.log t) (c.in_ok-found.ensures.log t))
    (c.in_ok-puts.ensures.log t)
