use Rattle.btree_putting.proofs.StraightLones.{lone_tried_so}
use Rattle.btree_putting.proofs.Tried.{if_some}
use Rattle.btree_putting.proofs.straight_lone.keep_lone.Goals as goal

pub returns : goal.returns
returns c =
    lone_tried_so _ _ c.args.put.now c.in-Some.bytes c.in-Some-2.own c.in_ok-class.class c.in_ok-node.node c.lone_records_are_tried.ensures
    (if_some _ _ _ c.in-Some.is c.in_ok-bytes.ensures) (if_some _ _ _ c.in-Some-2.is c.in_ok-own.ensures) c.in_ok-class.ensures c.in_ok-node.ensures
