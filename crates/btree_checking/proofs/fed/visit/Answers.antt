-- An object of the tree is visited.
use Rattle.std.proofs.Common.{◌-◌, ◌^◌, length, sym, subst}
use Rattle.btree_shapes.specs.Nodes.{objects_of}
use Rattle.btree_checking.specs.Fed.{IsProgressOf}
use Rattle.btree_checking.proofs.Telling.{visit_goes, visit_room, visit_says}
use Rattle.btree_checking.proofs.fed.visit.Goals as goal

pub returns-in-On-clause-progress : goal.returns-in-On-clause-progress
returns-in-On-clause-progress c = λ contents root class rooted held at comes.
    let goes = visit_goes (objects_of contents root) root c.args.walk c.in-On.walk c.args.place.now class c.args.node.now c.in-Ok.step c.requires.level c.requires.new held at comes c.in-Ok.ensures.step c.in-Ok.ensures.small c.in-On.is in
    c.next.ensures.progress contents root rooted goes.held goes.comes

pub returns-in-On-clause-room : goal.returns-in-On-clause-room
returns-in-On-clause-room c =
    c.next.ensures.room (2 ^ 63 - length c.args.walk.survey.visits) (visit_room c.args.walk c.in-On.walk c.args.place.now c.args.node.now c.in-Ok.step c.in-Ok.ensures.step c.in-Ok.ensures.small c.in-On.is)

pub returns-in-Stopped-clause-progress : goal.returns-in-Stopped-clause-progress
returns-in-Stopped-clause-progress c = λ contents root class rooted held at comes.
    subst (IsProgressOf contents root) (sym c.broken.ensures)
    (visit_says (objects_of contents root) root c.args.walk c.args.place.now class c.args.node.now c.in-Ok.step c.in-Stopped.oid c.in-Stopped.rule c.requires.level c.requires.new at comes c.in-Ok.ensures.step c.in-Stopped.is)
