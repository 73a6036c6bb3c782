-- A walk from its root on.
use Rattle.std.proofs.Common.{ℕ, List, ◌++◌, ◌∙◌, ap, sym, subst}
use Rattle.btree_shapes.specs.declared.error.TreeError.{TreeError}
use Rattle.btree_shapes.specs.Logs.{only_one, only_more}
use Rattle.btree_shapes.specs.Nodes.{objects_of}
use Rattle.btree_shapes.specs.Reading.{IsReadError}
use Rattle.btree_shapes.specs.Ways.{reads}
use Rattle.btree_checking.specs.declared.walk.Walk.{Walk}
use Rattle.btree_checking.specs.Walks.{read_by}
use Rattle.btree_checking.specs.Verdicts.{verdict_after}
use Rattle.btree_checking.proofs.Rooting.{missing_root, foreign_root, logged_missing, logged_foreign, rooted, root_oids, root_stops, root_stop_read, verdict_same, read_same, rest_same}
use Rattle.btree_checking.proofs.check.walk_tree.Goals as goal

pub returns-in-On-clause-verdict : goal.returns-in-On-clause-verdict
returns-in-On-clause-verdict g c =
    let start : Walk = record { survey = c.new.result; todo = c.new-in-Ok.result } in
    let r = rooted _ _ start _ _ _ _ c.in-Ok.ensures.root.2 c.new.ensures c.new-in-Ok.ensures c.root_place.ensures c.in_ok-walk-in-Ok.ensures.step c.in_ok-walk-in-Ok.ensures.small in
    verdict_same c.walk_on.result _ _ (rest_same _ _ _ _ _ _ _ c.in-Ok.ensures.contents c.in-Ok.ensures.root.0 r c.in-On.is) c.walk_on.ensures.verdict

pub returns-in-On-clause-read : goal.returns-in-On-clause-read
returns-in-On-clause-read g c =
    let start : Walk = record { survey = c.new.result; todo = c.new-in-Ok.result } in
    let r = rooted _ _ start _ _ _ _ c.in-Ok.ensures.root.2 c.new.ensures c.new-in-Ok.ensures c.root_place.ensures c.in_ok-walk-in-Ok.ensures.step c.in_ok-walk-in-Ok.ensures.small in
    read_same _ c.walk_on.result _ _ _ c.args.root _ _ _ (rest_same _ _ _ _ _ _ _ c.in-Ok.ensures.contents c.in-Ok.ensures.root.0 r c.in-On.is) (root_oids _ _ _ _ _ r c.in-On.is).0 c.in-Ok.ensures.log c.walk_on.ensures.read

pub returns-in-On-clause-only : goal.returns-in-On-clause-only
returns-in-On-clause-only g c = λ t. only_more _ _ _ (only_one _ _ c.args.root (c.in-Ok.ensures.log t)) (c.walk_on.ensures.only t)

pub returns-in-Ok-clause-verdict : goal.returns-in-Ok-clause-verdict
returns-in-Ok-clause-verdict g c =
    let start : Walk = record { survey = c.new.result; todo = c.new-in-Ok.result } in
    let r = rooted _ _ start _ _ _ _ c.in-Ok.ensures.root.2 c.new.ensures c.new-in-Ok.ensures c.root_place.ensures c.in_ok-walk-in-Ok.ensures.step c.in_ok-walk-in-Ok.ensures.small in
    sym (ap verdict_after (root_stops _ _ _ _ _ _ r c.in-Stopped.is))

pub returns-in-Ok-clause-read : goal.returns-in-Ok-clause-read
returns-in-Ok-clause-read g c = λ t.
    let start : Walk = record { survey = c.new.result; todo = c.new-in-Ok.result } in
    let r = rooted _ _ start _ _ _ _ c.in-Ok.ensures.root.2 c.new.ensures c.new-in-Ok.ensures c.root_place.ensures c.in_ok-walk-in-Ok.ensures.step c.in_ok-walk-in-Ok.ensures.small in
    c.in-Ok.ensures.log t ∙ ap (λ (oids : List ℕ). g.S.Space.log c.args.space.now ++ reads oids) (sym (root_stop_read _ _ _ _ _ _ r c.in-Stopped.is))

pub returns-in-Err-NodeMissing-clause-verdict : goal.returns-in-Err-NodeMissing-clause-verdict
returns-in-Err-NodeMissing-clause-verdict g c =
    let e = subst (λ (e : TreeError). IsReadError (objects_of (g.S.Space.contents c.args.space.now) c.args.root c.args.root) c.args.root e) c.in-Err-NodeMissing.field-0-is c.in-Err-NodeMissing.ensures.root in
    sym (ap verdict_after (missing_root _ _ e.1))

pub returns-in-Err-NodeMissing-clause-read : goal.returns-in-Err-NodeMissing-clause-read
returns-in-Err-NodeMissing-clause-read g c = λ t.
    let e = subst (λ (e : TreeError). IsReadError (objects_of (g.S.Space.contents c.args.space.now) c.args.root c.args.root) c.args.root e) c.in-Err-NodeMissing.field-0-is c.in-Err-NodeMissing.ensures.root in
    let l = logged_missing _ _ _ _ _ c.in-Err-NodeMissing.field-0-is (c.in-Err-NodeMissing.ensures.log t) in
    l ∙ ap (λ r. g.S.Space.log c.args.space.now ++ reads (read_by r)) (sym (missing_root _ _ e.1))

pub returns-in-Err-NotATree-clause-verdict : goal.returns-in-Err-NotATree-clause-verdict
returns-in-Err-NotATree-clause-verdict g c =
    let e = subst (λ (e : TreeError). IsReadError (objects_of (g.S.Space.contents c.args.space.now) c.args.root c.args.root) c.args.root e) c.in-Err-NotATree.field-0-is c.in-Err-NotATree.ensures.root in
    sym (ap verdict_after (foreign_root _ _ e.1))

pub returns-in-Err-NotATree-clause-read : goal.returns-in-Err-NotATree-clause-read
returns-in-Err-NotATree-clause-read g c = λ t.
    let e = subst (λ (e : TreeError). IsReadError (objects_of (g.S.Space.contents c.args.space.now) c.args.root c.args.root) c.args.root e) c.in-Err-NotATree.field-0-is c.in-Err-NotATree.ensures.root in
    let l = logged_foreign _ _ _ _ _ c.in-Err-NotATree.field-0-is (c.in-Err-NotATree.ensures.log t) in
    l ∙ ap (λ r. g.S.Space.log c.args.space.now ++ reads (read_by r)) (sym (foreign_root _ _ e.1))
