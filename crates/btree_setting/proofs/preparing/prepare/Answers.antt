use Rattle.std.proofs.Common.{◌≡◌, ◌∙◌, ◌++◌, [], Some, true, sym, ap, subst}
use Rattle.std.proofs.lemmas.Result.{err_from_is_err_and}
use Rattle.btree_shapes.specs.Nodes.{objects_of}
use Rattle.btree_shapes.specs.Ways.{IsRefusal, reads}
use Rattle.btree_setting.specs.Bottoms.{bottom_of}
use Rattle.btree_setting.specs.Rungs.{rungs_of, asked, settle}
use Rattle.btree_setting.specs.Tasks.{end_of, rungs_above}
use Rattle.btree_setting.proofs.Finding.{found_refused, found_some, none_is, met_some, reads_some}
use Rattle.btree_setting.proofs.preparing.prepare.Goals as goal

pub returns-clause-log : goal.returns-clause-log
returns-clause-log g c = λ t.
    reads_some c.args.sizes c.args.key.now c.args.value c.args.found c.in-Some.bottom _ _
    (ap (λ b. bottom_of (record { oid = c.args.found.oid; class = c.args.found.class; node = c.args.found.node; is_root = b }) c.args.key.now c.args.value) (sym (none_is _ _ c.is_empty-is_root.ensures))
    ∙ sym c.in_ok-bottom.ensures ∙ c.in-Some.is)
    (c.in_ok-rungs-2.ensures.log t
    ∙ ap (λ rs. g.S.Space.log c.args.space.now ++ reads (asked rs))
    (c.in_ok-rungs.ensures ∙ ap (λ b. rungs_of c.args.sizes.inner c.args.key.now b c.in-Some.bottom.oid c.args.found.path) c.splits-grows.ensures))

pub returns-in_err-rungs-2-clause-met : goal.returns-in_err-rungs-2-clause-met
returns-in_err-rungs-2-clause-met g c = λ t.
    met_some c.args.sizes c.args.key.now c.args.value c.args.found c.in-Some.bottom _ _ _
    (ap (λ b. bottom_of (record { oid = c.args.found.oid; class = c.args.found.class; node = c.args.found.node; is_root = b }) c.args.key.now c.args.value) (sym (none_is _ _ c.is_empty-is_root.ensures))
    ∙ sym c.in_ok-bottom.ensures ∙ c.in-Some.is)
    (c.in_ok-rungs.ensures ∙ ap (λ b. rungs_of c.args.sizes.inner c.args.key.now b c.in-Some.bottom.oid c.args.found.path) c.splits-grows.ensures)
    (c.in_err-rungs-2.ensures.met t)

pub returns-clause-met : goal.returns-clause-met
returns-clause-met g c = λ t.
    met_some c.args.sizes c.args.key.now c.args.value c.args.found c.in-Some.bottom _ _ _
    (ap (λ b. bottom_of (record { oid = c.args.found.oid; class = c.args.found.class; node = c.args.found.node; is_root = b }) c.args.key.now c.args.value) (sym (none_is _ _ c.is_empty-is_root.ensures))
    ∙ sym c.in_ok-bottom.ensures ∙ c.in-Some.is)
    (c.in_ok-rungs.ensures ∙ ap (λ b. rungs_of c.args.sizes.inner c.args.key.now b c.in-Some.bottom.oid c.args.found.path) c.splits-grows.ensures)
    (c.in_ok-rungs-2.ensures.met t)

pub returns-in_err-rungs-2-clause-answer : goal.returns-in_err-rungs-2-clause-answer
returns-in_err-rungs-2-clause-answer g c =
    let objects = objects_of (g.S.Space.contents c.args.space.now) c.args.tree.now.root in
    let found : bottom_of (end_of c.args.found) c.args.key.now c.args.value ≡ Some c.in-Some.bottom =
    ap (λ b. bottom_of (record { oid = c.args.found.oid; class = c.args.found.class; node = c.args.found.node; is_root = b }) c.args.key.now c.args.value) (sym (none_is _ _ c.is_empty-is_root.ensures))
    ∙ sym c.in_ok-bottom.ensures ∙ c.in-Some.is in
    let above : c.in_ok-rungs.rungs ≡ rungs_above c.args.sizes c.args.key.now c.args.found c.in-Some.bottom =
    c.in_ok-rungs.ensures ∙ ap (λ b. rungs_of c.args.sizes.inner c.args.key.now b c.in-Some.bottom.oid c.args.found.path) c.splits-grows.ensures in
    let p = err_from_is_err_and c.from_residual-in_err-rungs-2.result c.from_residual-in_err-rungs-2.ensures.1 in
    rw (p.1, p.2) (found_refused objects true c.args.sizes c.args.key.now c.args.value c.args.found c.in-Some.bottom c.in_err-rungs-2.field-0.0 found
    (subst (λ rs. IsRefusal c.in_err-rungs-2.field-0.0 (settle objects true c.args.key.now [] rs)) above c.in_err-rungs-2.ensures.answer))

pub returns-clause-answer : goal.returns-clause-answer
returns-clause-answer g c =
    let objects = objects_of (g.S.Space.contents c.args.space.now) c.args.tree.now.root in
    let found : bottom_of (end_of c.args.found) c.args.key.now c.args.value ≡ Some c.in-Some.bottom =
    ap (λ b. bottom_of (record { oid = c.args.found.oid; class = c.args.found.class; node = c.args.found.node; is_root = b }) c.args.key.now c.args.value) (sym (none_is _ _ c.is_empty-is_root.ensures))
    ∙ sym c.in_ok-bottom.ensures ∙ c.in-Some.is in
    let above : c.in_ok-rungs.rungs ≡ rungs_above c.args.sizes c.args.key.now c.args.found c.in-Some.bottom =
    c.in_ok-rungs.ensures ∙ ap (λ b. rungs_of c.args.sizes.inner c.args.key.now b c.in-Some.bottom.oid c.args.found.path) c.splits-grows.ensures in
    found_some objects true c.args.sizes c.args.key.now c.args.value c.args.found c.in-Some.bottom c.in_ok-rungs-2.rungs found
    (ap (λ rs. settle objects true c.args.key.now [] rs) (sym above) ∙ c.in_ok-rungs-2.ensures.answer)
