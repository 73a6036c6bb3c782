-- One more object is visited.
use Rattle.std.proofs.Common.{◌≡◌, true, false, subst}
use Rattle.btree_shapes.specs.declared.error.TreeError.{TreeError}
use Rattle.btree_shapes.specs.Nodes.{objects_of}
use Rattle.btree_shapes.specs.Reading.{IsReadError}
use Rattle.btree_checking.specs.Rules.{was_visited}
use Rattle.btree_checking.proofs.Going.{shared_gives, missing_gives, foreign_gives, enter_gives, enter_on, enter_logs}
use Rattle.btree_checking.proofs.walk.visit_next.Goals as goal

pub returns-then-has-clause-gives : goal.returns-then-has-clause-gives
returns-then-has-clause-gives g c =
    let was : was_visited c.args.walk.survey.visits c.args.place.now.oid ≡ true = cc in
    shared_gives _ _ _ c.requires.level was c.requires.held

pub returns-in-Ok-clause-gives : goal.returns-in-Ok-clause-gives
returns-in-Ok-clause-gives g c =
    let new : was_visited c.args.walk.survey.visits c.args.place.now.oid ≡ false = cc in
    enter_gives _ _ _ _ _ _ c.requires.level new c.in-Ok.ensures.entry c.in_ok-step-in-Ok.ensures.step

pub returns-in-Ok-clause-on : goal.returns-in-Ok-clause-on
returns-in-Ok-clause-on g c = enter_on _ _ _ _ _ _ c.requires.held c.in-Ok.ensures.entry c.in_ok-step-in-Ok.ensures.small c.in_ok-step-in-Ok.ensures.step

pub returns-in-Ok-clause-read : goal.returns-in-Ok-clause-read
returns-in-Ok-clause-read g c = λ t. enter_logs c.args.walk c.args.place.now c.in-Ok.entry.node c.in_ok-step-in-Ok.step _ _ c.in_ok-step-in-Ok.ensures.step (c.in-Ok.ensures.log t)

pub returns-in-Err-NodeMissing-clause-gives : goal.returns-in-Err-NodeMissing-clause-gives
returns-in-Err-NodeMissing-clause-gives g c = missing_gives _ _ _ c.requires.level (subst (λ (e : TreeError). IsReadError (objects_of (g.S.Space.contents c.args.space.now) c.args.tree.now.root c.args.place.now.oid) c.args.place.now.oid e) c.in-Err-NodeMissing.field-0-is c.in-Err-NodeMissing.ensures.entry).1

pub returns-in-Err-NotATree-clause-gives : goal.returns-in-Err-NotATree-clause-gives
returns-in-Err-NotATree-clause-gives g c =
    let new : was_visited c.args.walk.survey.visits c.args.place.now.oid ≡ false = cc in
    foreign_gives _ _ _ c.requires.level new (subst (λ (e : TreeError). IsReadError (objects_of (g.S.Space.contents c.args.space.now) c.args.tree.now.root c.args.place.now.oid) c.args.place.now.oid e) c.in-Err-NotATree.field-0-is c.in-Err-NotATree.ensures.entry).1
