-- One branch more.
use Rattle.std.proofs.Common.{◌++◌, ◌∷◌, drop, ◌+◌, sym, ap, ◌∙◌}
use Rattle.std.proofs.lemmas.List.{drop_more}
use Rattle.btree_family.specs.Classes.{class_seen}
use Rattle.bucket_state.specs.Written.{key_text}
use Rattle.bucket_state.specs.Flat.{texts_of, link_text}
use Rattle.bucket_state.specs.InnerText.{child_texts}
use Rattle.bucket_state.proofs.InnerPieces.{child_step}
use Rattle.bucket_state.proofs.inner_text.with_children.Goals as goal

pub loop-branch-preserved : goal.loop-branch-preserved
loop-branch-preserved c =
    let class = class_seen c.args.child.now in
    let later = drop (c.loop-branch.branch-index + 1) c.args.branches.now in
    let front = drop_more c.args.branches.now c.loop-branch.branch-index c.branch-item.result c.loop-branch-test.true ∙ ap (λ branch. branch ∷ later) (sym c.branch-item.is) in
    child_step c.loop-branch.all (key_text c.branch-item.result.key) (link_text c.branch-item.result.child c.args.child.now.module.now c.args.child.now.name.now) (texts_of (child_texts class later)) c.in_ok-keyed.keyed c.in_ok-all.all c.in_ok-keyed.ensures c.in_ok-all.ensures
    ∙ ap (λ branches. c.loop-branch.all ++ texts_of (child_texts class branches)) (sym front)
    ∙ c.loop-branch.invariant
