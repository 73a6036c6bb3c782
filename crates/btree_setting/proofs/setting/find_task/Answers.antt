use Rattle.std.proofs.Common.{◌≡◌, ◌∙◌, ◌++◌, ◌∷◌, [], true, false, sym, ap}
use Rattle.btree_family.specs.Classes.{class_seen}
use Rattle.btree_family.specs.Families.{key_fits}
use Rattle.btree_shapes.specs.declared.space.Call.TheVariants.{Read}
use Rattle.btree_shapes.specs.Nodes.{class_held}
use Rattle.btree_setting.specs.Values.{fits_class}
use Rattle.btree_setting.proofs.Answering.{no_leaf, no_key, no_value, has_way, all_reads, met_at_root, met_beside, met_on_way, met_root_read}
use Rattle.btree_setting.proofs.setting.find_task.Goals as goal

pub returns-in_default-clause-err : goal.returns-in_default-clause-err
returns-in_default-clause-err g c =
    let f = g.S.Space.contents c.args.space.now in
    let r = c.in_ok-tree.ensures.root in
    no_leaf f c.args.root c.args.sizes c.args.key.now c.args.value _ _ (class_seen c.in_ok-tree.tree.row.now) r.2
    (ap (λ x. class_held (f x)) (sym r.0) ∙ r.1) (sym c.in_default.ensures.row)

pub returns-then-not-key_fits-clause-err : goal.returns-then-not-key_fits-clause-err
returns-then-not-key_fits-clause-err g c =
    let f = g.S.Space.contents c.args.space.now in
    let r = c.in_ok-tree.ensures.root in
    let k : key_fits c.in_ok-tree.tree.row.now.key c.args.key.now ≡ false = cc in
    no_key f c.args.root c.args.sizes c.args.key.now c.args.value _ _ (class_seen c.in_ok-tree.tree.row.now) r.2
    (ap (λ x. class_held (f x)) (sym r.0) ∙ r.1) k

pub returns-then-not-branch-clause-err : goal.returns-then-not-branch-clause-err
returns-then-not-branch-clause-err g c =
    let f = g.S.Space.contents c.args.space.now in
    let r = c.in_ok-tree.ensures.root in
    let b : c.in_ok-fits_class.field-0 ≡ false = cc in
    let v : fits_class (class_seen c.in_ok-tree.tree.row.now) c.args.value ≡ false = sym c.in_ok-fits_class.ensures.fits ∙ b in
    no_value f c.args.root c.args.sizes c.args.key.now c.args.value _ _ (class_seen c.in_ok-tree.tree.row.now) r.2
    (ap (λ x. class_held (f x)) (sym r.0) ∙ r.1) v

pub returns-in_err-tree-clause-met : goal.returns-in_err-tree-clause-met
returns-in_err-tree-clause-met g c = λ t. met_at_root (g.S.Space.contents c.args.space.now) c.args.root c.args.sizes c.args.key.now c.args.value _ _ _ (c.in_err-tree.ensures.log t)

pub returns-in_default-clause-met : goal.returns-in_default-clause-met
returns-in_default-clause-met g c = λ t. met_root_read (g.S.Space.contents c.args.space.now) c.args.root c.args.sizes c.args.key.now c.args.value _ _ (c.in_ok-tree.ensures.log t)

pub returns-then-not-key_fits-clause-met : goal.returns-then-not-key_fits-clause-met
returns-then-not-key_fits-clause-met g c = λ t. met_root_read (g.S.Space.contents c.args.space.now) c.args.root c.args.sizes c.args.key.now c.args.value _ _ (c.in_ok-tree.ensures.log t)

pub returns-then-not-branch-clause-met : goal.returns-then-not-branch-clause-met
returns-then-not-branch-clause-met g c = λ t. met_root_read (g.S.Space.contents c.args.space.now) c.args.root c.args.sizes c.args.key.now c.args.value _ _ (c.in_ok-tree.ensures.log t)

pub returns-in_err-fits_class-clause-met : goal.returns-in_err-fits_class-clause-met
returns-in_err-fits_class-clause-met g c = λ t. met_root_read (g.S.Space.contents c.args.space.now) c.args.root c.args.sizes c.args.key.now c.args.value _ _ (c.in_ok-tree.ensures.log t)

pub returns-in_err-found-clause-met : goal.returns-in_err-found-clause-met
returns-in_err-found-clause-met g c = λ t.
    let r = c.in_ok-tree.ensures.root in
    met_on_way (g.S.Space.contents c.args.space.now) _ c.args.root _ c.args.sizes c.args.key.now c.args.value _ _ c.in_ok-tree.ensures.contents r.0
    (c.in_err-found.ensures.met t _ (c.in_ok-tree.ensures.log t ∙ ap (λ x. g.S.Space.log c.args.space.now ++ Read x ∷ []) (sym r.0)))

pub returns-in_err-task-clause-met : goal.returns-in_err-task-clause-met
returns-in_err-task-clause-met g c = λ t.
    let r = c.in_ok-tree.ensures.root in
    let k : key_fits c.in_ok-tree.tree.row.now.key c.args.key.now ≡ true = cc in
    let b : c.in_ok-fits_class.field-0 ≡ true = cc in
    met_beside (g.S.Space.contents c.args.space.now) c.args.root c.args.sizes c.args.key.now c.args.value c.in_ok-found.found _ _ _
    (has_way _ _ _ _ _ _ _ _ _ _ _ _ r.0 r.1 c.in-Some.ensures.row k (sym c.in_ok-fits_class.ensures.fits ∙ b)
    c.in_ok-tree.ensures.contents c.in_ok-found.ensures.answer (c.in_ok-tree.ensures.log t) (c.in_ok-found.ensures.log t))
    (c.in_err-task.ensures.met t)

pub returns-in_default-2-clause-met : goal.returns-in_default-2-clause-met
returns-in_default-2-clause-met g c = λ t.
    let r = c.in_ok-tree.ensures.root in
    let k : key_fits c.in_ok-tree.tree.row.now.key c.args.key.now ≡ true = cc in
    let b : c.in_ok-fits_class.field-0 ≡ true = cc in
    met_beside (g.S.Space.contents c.args.space.now) c.args.root c.args.sizes c.args.key.now c.args.value c.in_ok-found.found _ _ _
    (has_way _ _ _ _ _ _ _ _ _ _ _ _ r.0 r.1 c.in-Some.ensures.row k (sym c.in_ok-fits_class.ensures.fits ∙ b)
    c.in_ok-tree.ensures.contents c.in_ok-found.ensures.answer (c.in_ok-tree.ensures.log t) (c.in_ok-found.ensures.log t))
    (c.in_ok-task.ensures.met t)

pub returns-clause-met : goal.returns-clause-met
returns-clause-met g c = λ t.
    let r = c.in_ok-tree.ensures.root in
    let k : key_fits c.in_ok-tree.tree.row.now.key c.args.key.now ≡ true = cc in
    let b : c.in_ok-fits_class.field-0 ≡ true = cc in
    met_beside (g.S.Space.contents c.args.space.now) c.args.root c.args.sizes c.args.key.now c.args.value c.in_ok-found.found _ _ _
    (has_way _ _ _ _ _ _ _ _ _ _ _ _ r.0 r.1 c.in-Some.ensures.row k (sym c.in_ok-fits_class.ensures.fits ∙ b)
    c.in_ok-tree.ensures.contents c.in_ok-found.ensures.answer (c.in_ok-tree.ensures.log t) (c.in_ok-found.ensures.log t))
    (c.in_ok-task.ensures.met t)

pub returns-in_default-2-clause-log : goal.returns-in_default-2-clause-log
returns-in_default-2-clause-log g c = λ t.
    let r = c.in_ok-tree.ensures.root in
    let k : key_fits c.in_ok-tree.tree.row.now.key c.args.key.now ≡ true = cc in
    let b : c.in_ok-fits_class.field-0 ≡ true = cc in
    all_reads (g.S.Space.contents c.args.space.now) c.args.root c.args.sizes c.args.key.now c.args.value c.in_ok-found.found _ _ _
    (has_way _ _ _ _ _ _ _ _ _ _ _ _ r.0 r.1 c.in-Some.ensures.row k (sym c.in_ok-fits_class.ensures.fits ∙ b)
    c.in_ok-tree.ensures.contents c.in_ok-found.ensures.answer (c.in_ok-tree.ensures.log t) (c.in_ok-found.ensures.log t))
    (c.in_ok-task.ensures.log t)

pub returns-clause-log : goal.returns-clause-log
returns-clause-log g c = λ t.
    let r = c.in_ok-tree.ensures.root in
    let k : key_fits c.in_ok-tree.tree.row.now.key c.args.key.now ≡ true = cc in
    let b : c.in_ok-fits_class.field-0 ≡ true = cc in
    all_reads (g.S.Space.contents c.args.space.now) c.args.root c.args.sizes c.args.key.now c.args.value c.in_ok-found.found _ _ _
    (has_way _ _ _ _ _ _ _ _ _ _ _ _ r.0 r.1 c.in-Some.ensures.row k (sym c.in_ok-fits_class.ensures.fits ∙ b)
    c.in_ok-tree.ensures.contents c.in_ok-found.ensures.answer (c.in_ok-tree.ensures.log t) (c.in_ok-found.ensures.log t))
    (c.in_ok-task.ensures.log t)
