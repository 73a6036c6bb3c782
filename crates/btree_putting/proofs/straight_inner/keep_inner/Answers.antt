use Rattle.btree_putting.proofs.StraightInners.{inner_tried_so}
use Rattle.btree_putting.proofs.Tried.{if_some}
use Rattle.btree_putting.proofs.straight_inner.keep_inner.Goals as goal

pub returns : goal.returns
returns c =
    inner_tried_so _ _ c.args.put.now c.in-Some.bytes c.in-Some-2.own c.in_ok-class.class c.in_ok-node.node c.inner_records_are_tried.ensures c.requires.global.row c.requires.global.leaf
    (if_some _ _ _ c.in-Some.is c.in_ok-bytes.ensures) (if_some _ _ _ c.in-Some-2.is c.in_ok-own.ensures) c.in_ok-class.ensures c.in_ok-node.ensures
