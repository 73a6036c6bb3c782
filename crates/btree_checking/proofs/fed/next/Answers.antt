-- An object that was visited before.
use Rattle.std.proofs.Common.{◌≡◌, ◌<◌, ◌^◌, rules, sym, subst, ◌∙◌}
use Rattle.btree_shapes.specs.Nodes.{objects_of}
use Rattle.btree_checking.specs.Fed.{IsProgressOf}
use Rattle.btree_checking.proofs.Telling.{shared_says}
use Rattle.btree_checking.proofs.fed.next.Goals as goal

pub returns-then-has-clause-progress : goal.returns-then-has-clause-progress
returns-then-has-clause-progress c = λ contents root row held comes.
    let level : c.in-Some.place.level < 2 ^ 64 = search rules in
    subst (IsProgressOf contents root) (sym c.broken.ensures)
    (shared_says (objects_of contents root) root c.args.walk.survey c.args.walk.todo c.pop.new.self c.in-Some.place c.in-Some.ensures level (sym c.has.ensures ∙ c.if-has.true) held comes)
