use Rattle.std.proofs.Common.{◌≡◌, ◌∙◌, true, ap}
use Rattle.btree_removing.specs.Bottoms.{is_emptied}
use Rattle.btree_removing.specs.Rungs.{rungs_of}
use Rattle.btree_removing.proofs.Finding.{gone_answers}
use Rattle.btree_removing.proofs.planning.puts_for.Goals as goal

pub returns-clause-answer : goal.returns-clause-answer
returns-clause-answer g c =
    let e : is_emptied c.args.leaf.node ≡ true = cc in
    gone_answers _ _ _ _ c.in_ok-rungs.rungs _ e (c.in_ok-rungs.ensures ∙ ap (λ b. rungs_of b c.args.path) c.is_leaf.ensures) c.leave.ensures.answer
